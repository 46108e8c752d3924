-- Well formed is kept by every call, whatever it is handed and whatever the driver answers. A refusal and 17 leave the pool as it came; else the
-- tables at entry are kept, and so is what the steps leave of them.
use mathlib.Core.Path.{◌≡◌, refl}
use mathlib.Core.Logic.{◌⊎◌, inl, inr}
use mathlib.Core.Bool.{Bool, true, false, cond, ◌&&◌, ◌||◌, not}
use mathlib.Core.List.{List}
use mathlib.Core.Option.{Option, some, none}
use Prim.Native.Nat.{ℕ, ◌+◌, ◌%◌}
use native.Mathlib.Omega.{arith}
use borrow.Author.Tests.{eqb-true, eqb-false, leb-false, not-false}
use lib.Dec.{ltb, leb, eqb}
use Rattle.lists.specs.Tests.{first}
use Rattle.lists.proofs.Members.{member-first}
use Rattle.lists.proofs.Tests.{both, neither}
use Rattle.words.specs.declared.Record.{Record}
use Rattle.tables.specs.Bounds.{IDS, LOG, SPANS}
use Rattle.tables.specs.Values.{Tables, pool_of, opened, closed, stopped, at_entry, closed_pool, no_tables}
use Rattle.tables.specs.Steps.{Ending, on, ends}
use Rattle.tables.specs.WellFormed.{ceilings_kept, sound, well_formed}
use Rattle.tables.specs.HandsBack.{Reply, refused, finished, admitted}
use Rattle.tables.specs.Open.{page_size, bad_configuration, open_steps, open_finished, open_pool}
use Rattle.tables.specs.Malloc.{malloc_steps, malloc_by, malloc}
use Rattle.tables.specs.Free.{free_found, free}
use Rattle.tables.specs.Close.{close_steps, close_finished, close}
use Rattle.tables.specs.Calls.{Call, mallocs, frees, closes, answer}
use Rattle.tables.specs.declared.Outcome.TheVariants.{PoolClosed, PoolStopped, NotWellFormed, ShortLog, IdsSpent, BadSize, SpansFull, BadConfiguration}
use Rattle.tables.specs.declared.LiveBuffer.{LiveBuffer}
use Rattle.tables.specs.declared.Pool.{Pool}
use Rattle.keeping.specs.Sound as S
use Rattle.keeping.specs.Sound.{Whole, Kept, KeptBut}
use Rattle.keeping.proofs.Open.{configured}
use Rattle.keeping.proofs.Kept.{PoolLeft, entered, halted, held, stopped_well_formed, malloc-leaves, free-leaves, open-leaves, left_well_formed}
use Rattle.keeping.proofs.WellFormedEnters.{Entered, enters, entry-spans, entry-page}
use Rattle.keeping.proofs.WellFormedLeaves.{well_formed_lem}

-- a well-formed pool that is not stopped is open
pub is_open_lem : (p : Pool) → well_formed p ≡ true → eqb p.state stopped ≡ false → p.state ≡ opened
unfolding well_formed
is_open_lem p w e =
    let b = both (ceilings_kept p) (eqb p.state stopped || (eqb p.state opened && sound (at_entry p))) w in
    eqb-true p.state opened (both (eqb p.state opened) (sound (at_entry p)) (rw e at b.1)).0

-- 1 to 5 leave the pool as it came; whatever else a call of an open pool answers is to be shown
admitted-keeps : (p : Pool) (log : ℕ) (r : Reply) → well_formed p ≡ true → (p.state ≡ opened → well_formed r.pool ≡ true) →
    well_formed (admitted p log r).pool ≡ true
unfolding admitted
admitted-keeps p log r w f = go (eqb p.state closed) (eqb p.state stopped) refl (not (well_formed p)) (ltb log LOG) (leb IDS p.counter)
  where
    go : (a b : Bool) → eqb p.state stopped ≡ b → (c d e : Bool) →
        well_formed (cond a (refused p PoolClosed) (cond b (refused p PoolStopped) (cond c (refused p NotWellFormed) (cond d (refused p ShortLog) (cond e (refused p IdsSpent) r))))).pool ≡ true
    go true b q c d e = w
    go false true q c d e = w
    go false false q true d e = w
    go false false q false true e = w
    go false false q false false true = w
    go false false q false false false = f (is_open_lem p w q)

-- what is kept but for a dropped range is well formed
but_well_formed : {lost : ℕ → ℕ} (t : Tables) → KeptBut lost t → well_formed (pool_of opened t) ≡ true
but_well_formed t k = well_formed_lem _ t k.kept

pub malloc-keeps : (p : Pool) (n s : ℕ) (xs : List ℕ) (log : ℕ) → well_formed p ≡ true → well_formed (malloc p n s xs log).pool ≡ true
unfolding malloc_by
malloc-keeps p n s xs log w = admitted-keeps p log _ w (λ o. go (eqb n 0 || not (eqb (n % p.page) 0)) refl (leb SPANS (p.free.count + p.live.count)) refl (enters p o w))
  where
    go : (a : Bool) → (eqb n 0 || not (eqb (n % p.page) 0)) ≡ a → (b : Bool) → leb SPANS (p.free.count + p.live.count) ≡ b → Entered p →
        well_formed (cond a (refused p (BadSize n)) (cond b (refused p SpansFull) (finished p (malloc_steps n s xs 0 (at_entry p))))).pool ≡ true
    go true e b q h = w
    go false e true q h = w
    go false e false q h =
        let size = neither (eqb n 0) (not (eqb (n % p.page) 0)) e in
        let zero : n ≡ 0 → ⊥ = eqb-false n 0 size.0 in
        let whole : Whole p.page n = record { positive = omega arith; aligned = eqb-true (n % p.page) 0 (not-false (eqb (n % p.page) 0) size.1) } in
        left_well_formed but_well_formed w
        (malloc-leaves h.lost p xs (at_entry p) n s
        (h.kept, (rw (entry-page p) whole, omega (arith, entry-spans p, leb-false SPANS (p.free.count + p.live.count) q))))

pub free-keeps : (p : Pool) (a : ℕ) (xs : List ℕ) (log : ℕ) → well_formed p ≡ true → well_formed (free p a xs log).pool ≡ true
unfolding free free_found
free-keeps p a xs log w = admitted-keeps p log _ w (λ o. go (first (λ b. eqb b.start.0 a) (at_entry p).live) refl (enters p o w))
  where
    go : (o : Option LiveBuffer) → first (λ b. eqb b.start.0 a) (at_entry p).live ≡ o → Entered p → well_formed (free_found p a xs o).pool ≡ true
    go none e h = w
    go (some b) e h =
        left_well_formed (λ t k. well_formed_lem _ t k) w (free-leaves h.lost p xs (at_entry p) b h.kept (member-first (λ c. eqb c.start.0 a) b (at_entry p).live e))

abbrev pub ClosedOrFormed : Pool → Type 0
ClosedOrFormed p = (p ≡ closed_pool) ⊎ (well_formed p ≡ true)

close-keeps : (p : Pool) (xs : List ℕ) (log : ℕ) → well_formed p ≡ true → ClosedOrFormed (close p xs log).pool
unfolding close close_finished
close-keeps p xs log w =
    go (eqb p.state closed) (not (well_formed p)) (ltb log LOG) (close_steps xs 0 (at_entry p)).records (close_steps xs 0 (at_entry p)).ending
  where
    go : (a b c : Bool) (rs : List Record) (e : Ending (Unit {0})) →
        ClosedOrFormed (cond a (refused p PoolClosed) (cond b (refused p NotWellFormed) (cond c (refused p ShortLog) (close_finished p rs e)))).pool
    go true b c rs e = inr w
    go false true c rs e = inr w
    go false false true rs e = inr w
    go false false false rs (on u) = inl refl
    go false false false rs (ends o) = inr w

-- Well formed is kept by every call: what it leaves is well formed, or closed.
pub call-keeps : (p : Pool) (c : Call) (xs : List ℕ) (log : ℕ) → well_formed p ≡ true → ClosedOrFormed (answer p c xs log).pool
call-keeps p (mallocs n s) xs log w = inr (malloc-keeps p n s xs log w)
call-keeps p (frees a) xs log w = inr (free-keeps p a xs log w)
call-keeps p closes xs log w = close-keeps p xs log w

-- Opening leaves a closed pool or a well-formed one.
pub open-keeps : (granularity override va initial stream : ℕ) (xs : List ℕ) (log : ℕ) →
    ClosedOrFormed (open_pool granularity override va initial stream xs log).pool
unfolding open_pool
open-keeps granularity override va initial stream xs log =
    go (ltb log LOG) (bad_configuration granularity override va initial) refl
  where
    left : {q : Pool} → PoolLeft (Kept S.none) closed_pool q → (q ≡ closed_pool) ⊎ (well_formed q ≡ true)
    left entered = inl refl
    left (halted t c) = inr (stopped_well_formed t c)
    left (held t k) = inr (well_formed_lem S.none t k)

    go : (a b : Bool) → bad_configuration granularity override va initial ≡ b →
        let p = (cond a (refused closed_pool ShortLog) (cond b (refused closed_pool BadConfiguration) (open_finished (open_steps initial stream xs 0 (no_tables (page_size granularity override) va))))).pool in
        (p ≡ closed_pool) ⊎ (well_formed p ≡ true)
    go true b e = inl refl
    go false true e = inl refl
    go false false e = left (open-leaves (page_size granularity override) va initial stream (configured granularity override va initial e) xs)
