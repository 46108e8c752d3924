-- What each call leaves of a pool, in the words of the page: 17 leaves it as at entry, 14 and 15 stop it within its ceilings, and every other number
-- keeps it. Of these only a success of malloc drops a range.
use mathlib.Core.Path.{◌≡◌, refl, sym, ◌∙◌}
use mathlib.Core.Bool.{Bool, true, false, false≢true, cond, ◌||◌}
use mathlib.Core.List.{List}
use Prim.Native.Nat.{ℕ, ◌<◌}
use native.Mathlib.Omega.{arith}
use borrow.Author.Tests.{eqb-true, ne_eqb}
use lib.Dec.{eqb}
use lib.ListN.{length}
use Rattle.lists.specs.Tests.{Member}
use Rattle.lists.proofs.Every.{and-true}
use Rattle.tables.specs.Values.{Tables, address, opened, stopped, pool_of, no_tables, closed_pool}
use Rattle.tables.specs.Steps.{Ending, on, ends, Went, Step, give}
use Rattle.tables.specs.WellFormed.{ceilings_kept, well_formed}
use Rattle.tables.specs.Outcomes.{numbers, is}
use Rattle.tables.specs.HandsBack.{outcome_of, pool_after, finished}
use Rattle.tables.specs.InsertFree.{from}
use Rattle.tables.specs.Malloc.{hand_over, malloc_steps}
use Rattle.tables.specs.Free.{free_steps}
use Rattle.tables.specs.Open.{open_steps, pool_opened, open_finished}
use Rattle.tables.specs.declared.LiveBuffer.{LiveBuffer}
use Rattle.tables.specs.declared.Pool.{Pool}
use Rattle.tables.specs.declared.Outcome.{Outcome}
use Rattle.tables.specs.declared.Outcome.TheVariants.{Opened, Allocated, Freed}
use Rattle.keeping.specs.Sound.{none, Ceilings, Kept, KeptBut, LeftAt, Left}
use Rattle.keeping.specs.Holds.{After, Holds}
use Rattle.keeping.specs.Malloc.{Asked}
use Rattle.keeping.specs.Open.{Configured}
use Rattle.keeping.proofs.WellFormedLeaves.{ceilings-pass}
use Rattle.keeping.proofs.Sounds.{sound-drop-none}
use Rattle.keeping.proofs.Holds.{holds-from, holds-any, holds_then, holds-give}
use Rattle.keeping.proofs.FreeCall.{frees}
use Rattle.keeping.proofs.Malloc.{mallocs}
use Rattle.keeping.proofs.Open.{OpenedKept, opens_kept}

-- By the number of an outcome: whether it is 17, and whether it is 14 or 15.
pub record LeftWhere (K : Tables → Type 0) (short halts : Bool) (t : Tables) : Type 0 where
  pub ceilings : short ≡ false → Ceilings t
  pub kept : short ≡ false → halts ≡ false → K t

abbrev pub LeftBy : (Tables → Type 0) → Outcome → Tables → Type 0
LeftBy K o t = LeftWhere K (is 17 o) (is 14 o || is 15 o) t

left-kept : {lost : ℕ → ℕ} {short halts : Bool} {t : Tables} → Kept lost t → LeftWhere (Kept lost) short halts t
left-kept k = record { ceilings = λ e. k.ceilings; kept = λ e h. k }

-- what an early ending leaves
pub left_by_lem : (lost : ℕ → ℕ) (o : Outcome) (t : Tables) → Left lost o t → LeftBy (Kept lost) o t
left_by_lem lost o t = go (is 17 o) (is 14 o || is 15 o)
  where
    go : (a b : Bool) → LeftAt a b lost t → LeftWhere (Kept lost) a b t
    go true b k = record { ceilings = λ e. absurd (false≢true (sym e)); kept = λ e h. absurd (false≢true (sym e)) }
    go false true c = record { ceilings = λ e. c; kept = λ e h. absurd (false≢true (sym h)) }
    go false false k = left-kept k

-- What a call leaves of the pool `p`, where `K` is true of tables that are kept.
pub data PoolLeft (K : Tables → Type 0) (p : Pool) : Pool → Type 0 where
  entered : PoolLeft K p p
  halted : (t : Tables) → Ceilings t → PoolLeft K p (pool_of stopped t)
  held : (t : Tables) → K t → PoolLeft K p (pool_of opened t)

pool-left : {K : Tables → Type 0} (p : Pool) (t : Tables) (o : Outcome) → LeftBy K o t → PoolLeft K p (pool_after p t o)
pool-left {K} p t o h = go (is 17 o) (is 14 o || is 15 o) h.ceilings h.kept
  where
    go : (a b : Bool) → (a ≡ false → Ceilings t) → (a ≡ false → b ≡ false → K t) → PoolLeft K p (cond a p (pool_of (cond b stopped opened) t))
    go true b c k = entered
    go false true c k = halted t (c refl)
    go false false c k = held t (k refl refl)

-- A call that goes on leaves what `Q` says, and one that ends what `E` says.
call-left : {K : Tables → Type 0} (Q E : Outcome → Tables → Type 0) → ((o : Outcome) (t : Tables) → Q o t → LeftBy K o t) →
    ((o : Outcome) (t : Tables) → E o t → LeftBy K o t) → (t : Tables) (e : Ending Outcome) → After Q E t e → LeftBy K (outcome_of e) t
call-left Q E f g t (on o) h = f o t h
call-left Q E f g t (ends o) h = g o t h

-- what is kept is kept with nothing dropped
kept_but : {lost : ℕ → ℕ} {t : Tables} → Kept lost t → KeptBut lost t
kept_but k =
    record {
      dropped = (0, 0);
      kept = record { sound = sound-drop-none k.sound; ceilings = k.ceilings };
    }

-- A success is what goes on.
abbrev pub Succeeds : Step Outcome → Type 0
Succeeds m = Holds (λ _. Unit {0}) m (λ o _. is 0 o ≡ true) (λ _ _. Unit {0})

-- whatever a step leaves
abbrev still : {A : Type 0} → A → Tables → Type 0
still a t = Unit {0}

gives : (o : Outcome) → is 0 o ≡ true → Succeeds (give o)
gives o e = holds-from (λ t u. e) (holds-give o)

pub malloc-succeeds : (n s : ℕ) → Succeeds (malloc_steps n s)
unfolding malloc_steps hand_over
malloc-succeeds n s =
    holds_then still holds-any (λ _.
    holds_then still holds-any (λ _.
    holds_then still holds-any (λ r.
    holds_then still holds-any (λ _.
    holds_then still holds-any (λ _.
    holds_then still holds-any (λ _. gives (Allocated (address (from r)) n) refl))))))

pub free-succeeds : (b : LiveBuffer) → Succeeds (free_steps b)
unfolding free_steps
free-succeeds b = holds_then still holds-any (λ _. holds_then still holds-any (λ _. gives (Freed b.size b.stream) refl))

pub open-succeeds : (initial stream : ℕ) → Succeeds (open_steps initial stream)
unfolding open_steps
open-succeeds initial stream =
    holds_then still holds-any (λ b.
    holds_then still holds-any (λ t.
    holds_then still holds-any (λ _. gives (Opened (address b) t.fields.page) refl)))

module _ (lost : ℕ → ℕ) (p : Pool) (xs : List ℕ) (t : Tables) where
  -- Malloc keeps the pool but for a range that it may drop.
  pub malloc-leaves : (n s : ℕ) → Asked lost n t → PoolLeft (KeptBut lost) p (finished p (malloc_steps n s xs 0 t)).pool
  unfolding finished
  malloc-leaves n s h =
      let w = malloc_steps n s xs 0 t in
      pool-left p w.tables (outcome_of w.ending)
      (call-left (λ _. KeptBut lost) (Left lost) (λ o u k. record { ceilings = λ a. k.kept.ceilings; kept = λ a b. k }) but w.tables w.ending
      ((mallocs lost n s).leaves xs 0 t h))
    where
      but : (o : Outcome) (u : Tables) → Left lost o u → LeftBy (KeptBut lost) o u
      but o u e = let l = left_by_lem lost o u e in record { ceilings = l.ceilings; kept = λ a b. kept_but (l.kept a b) }

  -- A malloc that does not succeed drops nothing.
  pub malloc_unsuccessful : (n s : ℕ) → Asked lost n t → is 0 (outcome_of (malloc_steps n s xs 0 t).ending) ≡ false →
      PoolLeft (Kept lost) p (finished p (malloc_steps n s xs 0 t)).pool
  unfolding finished
  malloc_unsuccessful n s h e =
      let w = malloc_steps n s xs 0 t in
      pool-left p w.tables (outcome_of w.ending)
      (go w.tables w.ending ((mallocs lost n s).leaves xs 0 t h) ((malloc-succeeds n s).leaves xs 0 t tt) e)
    where
      go : (u : Tables) (e : Ending Outcome) → After (λ _. KeptBut lost) (Left lost) u e → After (λ o _. is 0 o ≡ true) (λ _ _. Unit {0}) u e →
          is 0 (outcome_of e) ≡ false → LeftBy (Kept lost) (outcome_of e) u
      go u (on o) k s n = absurd (false≢true (sym n ∙ s))
      go u (ends o) k s n = left_by_lem lost o u k

  -- Free drops nothing.
  pub free-leaves : (b : LiveBuffer) → Kept lost t → Member b t.live → PoolLeft (Kept lost) p (finished p (free_steps b xs 0 t)).pool
  unfolding finished
  free-leaves b k m =
      let w = free_steps b xs 0 t in
      pool-left p w.tables (outcome_of w.ending)
      (call-left (λ _. Kept lost) (Left lost) (λ o u. left-kept) (left_by_lem lost) w.tables w.ending ((frees lost b).leaves xs 0 t (k, m)))

-- 0 is none of the numbers that leave a pool as at entry or stop it
zero-kept : {K : Tables → Type 0} (o : Outcome) (t : Tables) → LeftBy K o t → is 0 o ≡ true → K t
zero-kept o t h e =
    let z = eqb-true (numbers o).number 0 e in
    h.kept (rw z) (rw z)

opened-pool : (t : Tables) (o : Outcome) → is 0 o ≡ true → 0 < length t.roots → pool_opened t o ≡ pool_of opened t
opened-pool t o e h =
    let z = eqb-true (numbers o).number 0 e in
    rw (z, ne_eqb (length t.roots) 0 (λ q. omega arith))

module _ (page va initial stream : ℕ) (c : Configured page va initial) (xs : List ℕ) where
  abbrev pub open_went : Went Outcome
  open_went = open_steps initial stream xs 0 (no_tables page va)

  -- Open leaves a closed pool, as before it, or a stopped one within its ceilings, or one that has lost nothing.
  pub open-leaves : PoolLeft (Kept none) closed_pool (open_finished open_went).pool
  unfolding open_finished
  open-leaves =
      let w = open_went in
      let o = outcome_of w.ending in
      let l = call-left (λ _. OpenedKept) (Left none) (λ o u k. left-kept k.kept) (left_by_lem none) w.tables w.ending
      ((opens_kept page va initial stream c).leaves xs 0 (no_tables page va) refl) in
      go w.tables (is 17 o) (eqb (length w.tables.roots) 0) (is 0 o) l.ceilings (zero-kept o w.tables l)
    where
      go : (t : Tables) (a z b : Bool) → (a ≡ false → Ceilings t) → (b ≡ true → Kept none t) →
          PoolLeft (Kept none) closed_pool (cond (a || z) closed_pool (pool_of (cond b opened stopped) t))
      go t true z b h k = entered
      go t false true b h k = entered
      go t false false true h k = held t (k refl)
      go t false false false h k = halted t (h refl)

  -- A success opens it.
  pub open-opens : (o : Outcome) → open_went.ending ≡ on o → ((open_finished open_went).pool ≡ pool_of opened open_went.tables) × Kept none open_went.tables
  unfolding open_finished
  open-opens o e =
      let t = open_went.tables in
      let k : After (λ _. OpenedKept) (Left none) t (on o) = rw e at ((opens_kept page va initial stream c).leaves xs 0 (no_tables page va) refl) in
      let z : After (λ o _. is 0 o ≡ true) (λ _ _. Unit {0}) t (on o) = rw e at ((open-succeeds initial stream).leaves xs 0 (no_tables page va) tt) in
      (rw e (opened-pool t o z k.rooted), k.kept)

-- A stopped pool is well formed by its counts alone.
pub stopped_well_formed : (t : Tables) → Ceilings t → well_formed (pool_of stopped t) ≡ true
unfolding well_formed pool_of
stopped_well_formed t c = and-true (ceilings_kept (pool_of stopped t)) _ (ceilings-pass stopped t c) refl

-- So whatever a call leaves of a well-formed pool is well formed, if kept tables are.
pub left_well_formed : {K : Tables → Type 0} {p q : Pool} → ((t : Tables) → K t → well_formed (pool_of opened t) ≡ true) → well_formed p ≡ true →
    PoolLeft K p q → well_formed q ≡ true
left_well_formed f e entered = e
left_well_formed f e (halted t c) = stopped_well_formed t c
left_well_formed f e (held t k) = f t k
