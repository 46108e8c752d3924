-- Well formed is kept by every call of the layer, as by the pool's, whatever it is handed and whatever the driver answers. What the layer adds is kept by
-- counting: current moves by the bytes that come into the small or the live buffers, or go from them.
use mathlib.Core.Path.{◌≡◌, refl, ap}
use mathlib.Core.Logic.{◌⊎◌, inl, inr, ⊎_elim}
use mathlib.Core.Bool.{Bool, true, false, cond, ◌&&◌, ◌||◌, not}
use mathlib.Core.List.{List, [], ◌∷◌, ◌++◌}
use mathlib.Core.Option.{Option, some, none}
use Prim.Native.Nat.{ℕ, ◌*◌, ◌/◌, ◌≤◌, ◌<◌}
use native.Mathlib.Omega.{arith}
use borrow.Author.Tests.{leb-false, ltb-true, eqb-false}
use lib.Dec.{ltb, leb, eqb}
use lib.ListN.{length, drop, length-append, length-take}
use Rattle.lists.specs.Tests.{All, Member, any, first}
use Rattle.lists.specs.Order.{without}
use Rattle.lists.specs.Walks.{sum}
use Rattle.lists.proofs.Tests.{neither, both, all_implies, all_append, length-filter, any_none}
use Rattle.lists.proofs.Every.{and-true}
use Rattle.lists.proofs.Members.{member-first, all_without}
use Rattle.lists.proofs.Distinct.{pairs-filter, sum-without-one}
use Rattle.lists.proofs.Pairs.{pairs-append}
use Rattle.lists.proofs.Walks.{sum-append}
use Rattle.cells.specs.Table.{entries, pack}
use Rattle.cells.proofs.Packs.{entries_pack}
use Rattle.words.specs.Answers.{lent}
use Rattle.words.specs.declared.Answer.{Answer}
use Rattle.words.specs.declared.Answer.TheVariants.{Done, Failed, Missing}
use Rattle.tables.specs.Values.{closed, opened, stopped, at_entry, pool_of}
use Rattle.tables.specs.Outcomes.{numbers, is}
use Rattle.tables.specs.HandsBack as PoolHandsBack
use Rattle.tables.specs.WellFormed as Pool
use Rattle.tables.specs.Open.{open_pool}
use Rattle.tables.specs.Calls as PoolCalls
use Rattle.tables.specs.Calls.{Call, mallocs, frees, closes}
use Rattle.tables.specs.declared.Pool.{Pool}
use Rattle.keeping.proofs.Calls as Kept
use Rattle.answering.specs.Live.{live, MallocLeavesLive, FreeLeavesLive}
use Rattle.answering.proofs.Calls.{tested, either_way}
use Rattle.answering.proofs.Live.{malloc-live, free-live}
use Rattle.answering.proofs.OpenLive.{open-live}
use Rattle.answering.proofs.PageSize.{malloc-page, free-page}
use Rattle.answering.proofs.Stops.{free-stops}
use Rattle.manager_rules.specs.Values.{BYTES, SMALLS, small_buffer, empty_small, small, with_pool, over, closed_manager}
use Rattle.manager_rules.specs.Sizes.{Request, unfit, smaller, whole, rounded, request}
use Rattle.manager_rules.specs.WellFormed.{well_formed}
use Rattle.manager_rules.specs.HandsBack.{Reply, admitted}
use Rattle.manager_rules.specs.Open.{open_manager}
use Rattle.manager_rules.specs.Malloc.{
  grown,
  whole_malloc,
  incredible,
  with_small,
  stopped_pool,
  small_answered,
  small_malloc,
  served,
  malloc,
}
use Rattle.manager_rules.specs.Free.{lowered, whole_free, drop_answered, free_found, free}
use Rattle.manager_rules.specs.Close.{close_served, close}
use Rattle.manager_rules.specs.Calls.{answer}
use Rattle.manager_rules.specs.declared.SmallBuffer.{SmallBuffer}
use Rattle.manager_rules.specs.declared.Manager.{Manager}
use Rattle.manager_rules.proofs.Own.{Small, formed, Entered, admitted-entered}

-- the list that a table was made of is the one that is read
pub small_with : (m : Manager) (l : List SmallBuffer) → small (with_small m l) ≡ l
small_with m l = entries_pack SMALLS empty_small l

length-small : (m : Manager) → length (small m) ≤ m.small.count
unfolding entries
length-small m = simp length-take (omega arith)

count_with : (m : Manager) (l : List SmallBuffer) → length l ≤ SMALLS → (with_small m l).small.count ≤ SMALLS
unfolding pack
count_with m l h = h

-- a size below a page is not 0 where a small buffer is asked for
request-smaller : (page n : ℕ) → request page n ≡ smaller → (1 ≤ n) × (n < page)
unfolding request
request-smaller page n = go (eqb n 0) refl (ltb n page) refl (ltb BYTES n || ltb BYTES (rounded page n))
  where
    go : (a : Bool) → eqb n 0 ≡ a → (b : Bool) → ltb n page ≡ b → (c : Bool) →
        cond a unfit (cond b smaller (cond c unfit (whole (rounded page n)))) ≡ smaller → (1 ≤ n) × (n < page)
    go true p b q c e = let z : ◌≡◌ {A = ℕ} 0 1 = cc in absurd (omega arith)
    go false p true q c e = let ne : n ≡ 0 → ⊥ = eqb-false n 0 p in (omega arith, ltb-true n page q)
    go false p false q true e = let z : ◌≡◌ {A = ℕ} 0 1 = cc in absurd (omega arith)
    go false p false q false e = let z : ◌≡◌ {A = ℕ} 0 1 = cc in absurd (omega arith)

abbrev Formed : Reply → Type 0
Formed r = well_formed r.manager ≡ true

module _ (m : Manager) (h : Entered m) where
  -- the layer as it came
  same_formed : well_formed m ≡ true
  same_formed = formed m h.pool h.count (inr h.own)

  -- A small buffer more: its pointer is none of those held, and its bytes are added.
  one-more_formed : (a n s : ℕ) → (1 ≤ n) × (n < m.pool.page) → m.small.count < SMALLS → incredible m a ≡ false →
      well_formed (grown n (with_small m (small m ++ small_buffer a n s ∷ []))) ≡ true
  unfolding incredible
  one-more_formed a n s size room new =
      let l = small m ++ small_buffer a n s ∷ [] in
      let q = grown n (with_small m l) in
      let e : small q ≡ l = small_with m l in
      let zero = neither (eqb a 0) _ new in
      let other = neither (any (λ b. eqb b.pointer a) (small m)) _ zero.1 in
      formed q h.pool (count_with m l (simp length-append (omega (arith, length-small m))))
      (inr
      (record {
        nonzero = rw e (all_append _ (small m) _ h.own.nonzero (eqb-false a 0 zero.0, tt));
        distinct = rw e
            (pairs-append _ (small m) _ h.own.distinct (tt, tt)
            (all_implies _ _ (λ b z. (eqb-false b.pointer a z, tt)) (small m) (any_none (λ b. eqb b.pointer a) (small m) other.0)));
        sizes = rw e (all_append _ (small m) _ h.own.sizes (size, tt));
        held = rw e (omega (arith, sum-append (λ b. b.size) (small m) (small_buffer a n s ∷ []), h.own.held));
        highest = omega arith;
      }))

  -- A small buffer less.
  one_less_formed : (b : SmallBuffer) → Member b (small m) →
      well_formed (lowered b.size (with_small m (without (λ c. c.pointer) b.pointer (small m)))) ≡ true
  one_less_formed b i =
      let l = without (λ c. c.pointer) b.pointer (small m) in
      let q = lowered b.size (with_small m l) in
      let e : small q ≡ l = small_with m l in
      formed q h.pool (count_with m l (omega (arith, length-filter (λ c. not (eqb c.pointer b.pointer)) (small m), length-small m, h.count)))
      (inr
      (record {
        nonzero = rw e (all_without _ _ b.pointer (small m) h.own.nonzero);
        distinct = rw e (pairs-filter _ _ (small m) h.own.distinct);
        sizes = rw e (all_without _ _ b.pointer (small m) h.own.sizes);
        held = rw e (omega (arith, sum-without-one (λ c. c.pointer) (λ c. c.size) b (small m) h.own.distinct i, h.own.held));
        highest = omega (arith, h.own.highest);
      }))

  -- 15 stops the pool.
  stopped_formed : well_formed (with_pool m (stopped_pool m.pool)) ≡ true
  unfolding Pool.well_formed Pool.ceilings_kept
  stopped_formed =
      let p = m.pool in
      let ceilings = (both (Pool.ceilings_kept p) (eqb p.state stopped || (eqb p.state opened && Pool.sound (at_entry p))) h.pool).0 in
      formed (with_pool m (stopped_pool p)) (and-true (Pool.ceilings_kept p) true ceilings refl) h.count (inl refl)

  small_answered_formed : (n s : ℕ) (x : Answer) → (1 ≤ n) × (n < m.pool.page) → m.small.count < SMALLS → Formed (small_answered m n s x)
  unfolding small_answered
  small_answered_formed n s Missing size room = same_formed
  small_answered_formed n s (Failed c) size room = same_formed
  small_answered_formed n s (Done a) size room = tested Formed (incredible m a) _ _ stopped_formed (one-more_formed a n s size room)

  whole_malloc_formed : (n s : ℕ) (xs : List ℕ) (log : ℕ) → Formed (whole_malloc m n s xs log)
  unfolding whole_malloc
  whole_malloc_formed n s xs log = go (is 0 r.outcome) refl
    where
      r : PoolHandsBack.Reply
      r = PoolCalls.answer m.pool (mallocs n s) xs log

      l : MallocLeavesLive m.pool n s r
      l = malloc-live m.pool n s xs log

      p : Pool.well_formed r.pool ≡ true
      p = Kept.malloc-keeps m.pool n s xs log h.pool

      sizes : All (Small r.pool.page) (small m)
      sizes = rw (malloc-page m.pool n s xs log) h.own.sizes

      go : (b : Bool) → is 0 r.outcome ≡ b → well_formed (cond b (grown n (with_pool m r.pool)) (with_pool m r.pool)) ≡ true
      go true e =
          let a = l.answered e in
          formed (grown n (with_pool m r.pool)) p h.count
          (inr
          (record {
            nonzero = h.own.nonzero;
            distinct = h.own.distinct;
            sizes = sizes;
            held = omega (arith, h.own.held, l.bytes a.0 n a.1);
            highest = omega arith;
          }))
      go false e =
          formed (with_pool m r.pool) p h.count
          (inr
          (record {
            nonzero = h.own.nonzero;
            distinct = h.own.distinct;
            sizes = sizes;
            held = omega (arith, h.own.held, ap (sum (λ b. b.size)) (l.otherwise e));
            highest = h.own.highest;
          }))

  whole_free_formed : (a : ℕ) (xs : List ℕ) (log : ℕ) → Formed (whole_free m a xs log)
  unfolding whole_free
  whole_free_formed a xs log = go (is 0 r.outcome) refl (is 14 r.outcome) refl
    where
      r : PoolHandsBack.Reply
      r = PoolCalls.answer m.pool (frees a) xs log

      l : FreeLeavesLive m.pool a r
      l = free-live m.pool a xs log

      p : Pool.well_formed r.pool ≡ true
      p = Kept.free-keeps m.pool a xs log h.pool

      sizes : All (Small r.pool.page) (small m)
      sizes = rw (free-page m.pool a xs log) h.own.sizes

      q : Manager
      q = with_pool m r.pool

      -- at 14 the buffer is gone from the live ones and current is as it was, but the pool is stopped
      go : (b : Bool) → is 0 r.outcome ≡ b → (c : Bool) → is 14 r.outcome ≡ c → well_formed (cond b (lowered (numbers r.outcome).first q) q) ≡ true
      go true e c f =
          let k = l.answered e in
          let first : (numbers r.outcome).first ≡ k.0 = ap (λ o. (numbers o).first) k.1.1 in
          formed (lowered (numbers r.outcome).first q) p h.count
          (inr
          (record {
            nonzero = h.own.nonzero;
            distinct = h.own.distinct;
            sizes = sizes;
            held = omega (arith, h.own.held, first, l.bytes k.0 k.1.0 k.1.1);
            highest = omega (arith, h.own.highest);
          }))
      go false e true f = formed q p h.count (inl (free-stops m.pool a xs log f))
      go false e false f =
          formed q p h.count
          (inr
          (record {
            nonzero = h.own.nonzero;
            distinct = h.own.distinct;
            sizes = sizes;
            held = omega (arith, h.own.held, ap (sum (λ b. b.size)) (l.otherwise (rw (e, f))));
            highest = h.own.highest;
          }))

  served_formed : (n s : ℕ) (xs : List ℕ) (log : ℕ) (q : Request) → request m.pool.page n ≡ q → Formed (served m n s xs log q)
  unfolding served small_malloc
  served_formed n s xs log unfit e = same_formed
  served_formed n s xs log smaller e =
      tested Formed (leb SMALLS m.small.count) _ _ same_formed (λ room.
      small_answered_formed n s (lent xs 0) (request-smaller m.pool.page n e) (leb-false SMALLS m.small.count room))
  served_formed n s xs log (whole k) e = whole_malloc_formed k s xs log

  free_found_formed : (a : ℕ) (xs : List ℕ) (log : ℕ) (o : Option SmallBuffer) → first (λ b. eqb b.pointer a) (small m) ≡ o →
      Formed (free_found m a xs log o)
  unfolding free_found drop_answered
  free_found_formed a xs log none e = whole_free_formed a xs log
  free_found_formed a xs log (some b) e = dropped (lent xs 0)
    where
      dropped : (x : Answer) → Formed (drop_answered m b x)
      dropped Missing = same_formed
      dropped (Failed c) = same_formed
      dropped (Done v) = one_less_formed b (member-first (λ b. eqb b.pointer a) b (small m) e)

abbrev pub ClosedOrFormed : Manager → Type 0
ClosedOrFormed m = (m ≡ closed_manager) ⊎ (well_formed m ≡ true)

-- A close leaves a closed layer, or the one that came.
pub close-leaves : (m : Manager) (xs : List ℕ) (log : ℕ) → ((close m xs log).manager ≡ closed_manager) ⊎ ((close m xs log).manager ≡ m)
unfolding close close_served
close-leaves m xs log =
    let K : Reply → Type 0 = λ r. (r.manager ≡ closed_manager) ⊎ (r.manager ≡ m) in
    either_way K (eqb m.pool.state closed) _ _ (inr refl)
    (either_way K (not (well_formed m)) _ _ (inr refl)
    (either_way K (PoolHandsBack.short_log log) _ _ (inr refl)
    (either_way K (ltb (length xs / 2) (length (small m))) _ _ (inr refl)
    (either_way (λ q. (q ≡ closed_manager) ⊎ (q ≡ m)) (is 17 r.outcome) m closed_manager (inr refl) (inl refl)))))
  where
    r : PoolHandsBack.Reply
    r = PoolCalls.answer m.pool closes (drop (2 * length (small m)) xs) log

-- Well formed is kept by every call: what it leaves is well formed, or closed.
pub manager-keeps : (m : Manager) (c : Call) (xs : List ℕ) (log : ℕ) → well_formed m ≡ true → ClosedOrFormed (answer m c xs log).manager
unfolding malloc free
manager-keeps m (mallocs n s) xs log w =
    inr (admitted-entered Formed m log _ w w w w w (λ h. served_formed m h n s xs log (request m.pool.page n) refl))
manager-keeps m (frees a) xs log w =
    inr (admitted-entered Formed m log _ w w w w w (λ h. free_found_formed m h a xs log (first (λ b. eqb b.pointer a) (small m)) refl))
manager-keeps m closes xs log w = ⊎_elim (λ e. inl e) (λ e. inr (rw e w)) (close-leaves m xs log)

-- A closed layer stays closed.
pub closed-stays : (c : Call) (xs : List ℕ) (log : ℕ) → (answer closed_manager c xs log).manager ≡ closed_manager
unfolding malloc free close admitted pool_of
closed-stays (mallocs n s) xs log = refl
closed-stays (frees a) xs log = refl
closed-stays closes xs log = refl

-- So what an opening leaves stands through every run of calls.
pub manager-stands : (m : Manager) (c : Call) (xs : List ℕ) (log : ℕ) → ClosedOrFormed m → ClosedOrFormed (answer m c xs log).manager
manager-stands m c xs log (inl e) = inl (rw e (closed-stays c xs log))
manager-stands m c xs log (inr w) = manager-keeps m c xs log w

-- Opening leaves a closed layer or a well-formed one.
pub opening-keeps : (granularity override va initial stream : ℕ) (xs : List ℕ) (log : ℕ) →
    ClosedOrFormed (open_manager granularity override va initial stream xs log).manager
unfolding open_manager
opening-keeps granularity override va initial stream xs log =
    left (open_pool granularity override va initial stream xs log).pool (open-live granularity override va initial stream xs log)
    (Kept.open-keeps granularity override va initial stream xs log)
  where
    none : (p : Pool) → small (over p) ≡ []
    none p = small_with (over p) []

    left : (p : Pool) → live p ≡ [] → Kept.ClosedOrFormed p → ClosedOrFormed (over p)
    left p e (inl c) = inl (ap over c)
    left p e (inr w) =
        let z = none p in
        inr
        (formed (over p) w (count_with (over p) [] (omega arith))
        (inr
        (record {
          nonzero = rw z tt;
          distinct = rw z tt;
          sizes = rw z tt;
          held = rw (z, e) refl;
          highest = omega arith;
        })))
