-- The two figures of a layer: current is what is held, wherever a call leaves a layer open, and never above highest, which no malloc or free lowers, or
-- raises above what is held then.
use mathlib.Core.Path.{◌≡◌, refl, ap, sym, ◌∙◌}
use mathlib.Core.Logic.{inl, inr}
use mathlib.Core.Bool.{true}
use mathlib.Core.List.{List}
use mathlib.Core.Option.{Option, some, none}
use Prim.Native.Nat.{ℕ, ◌+◌, ◌≤◌, max}
use native.Mathlib.Omega.{arith}
use lib.Dec.{leb, eqb}
use Rattle.lists.specs.Tests.{first}
use Rattle.words.specs.Answers.{lent}
use Rattle.words.specs.declared.Answer.{Answer}
use Rattle.words.specs.declared.Answer.TheVariants.{Done, Failed, Missing}
use Rattle.tables.specs.Values.{opened, pool_of}
use Rattle.tables.specs.Outcomes.{numbers, is}
use Rattle.tables.specs.Calls as PoolCalls
use Rattle.tables.specs.Calls.{Call, mallocs, frees, closes}
use Rattle.answering.proofs.Calls.{either_way}
use Rattle.manager_rules.specs.Values.{SMALLS, small, with_pool}
use Rattle.manager_rules.specs.Sizes.{Request, unfit, smaller, whole, request}
use Rattle.manager_rules.specs.WellFormed.{small_bytes, live_bytes, well_formed}
use Rattle.manager_rules.specs.HandsBack.{Reply}
use Rattle.manager_rules.specs.Open.{open_manager}
use Rattle.manager_rules.specs.Malloc.{grown, whole_malloc, incredible, small_answered, small_malloc, served, malloc}
use Rattle.manager_rules.specs.Free.{lowered, whole_free, drop_answered, free_found, free}
use Rattle.manager_rules.specs.Calls.{answer}
use Rattle.manager_rules.specs.declared.SmallBuffer.{SmallBuffer}
use Rattle.manager_rules.specs.declared.Manager.{Manager}
use Rattle.manager_rules.proofs.Own.{Own, formed-own, admitted-entered}
use Rattle.manager_rules.proofs.Keeps.{ClosedOrFormed, manager-keeps, opening-keeps}

-- What a layer adds to its pool, where it is open and is well formed; a closed one is not open.
open_own : (m : Manager) → ClosedOrFormed m → m.pool.state ≡ opened → Own m
unfolding pool_of
open_own m (inl e) o = let z : ◌≡◌ {A = ℕ} 0 1 = sym (ap (λ q. q.pool.state) e) ∙ o in absurd (omega arith)
open_own m (inr w) o = formed-own m w (rw o refl)

-- Current is the bytes of the small and of the live buffers: of an open layer, of the one that a call leaves open, and of one just opened.
pub current-is-held : (m : Manager) → well_formed m ≡ true → m.pool.state ≡ opened → m.current ≡ small_bytes m + live_bytes m
current-is-held m w o = (open_own m (inr w) o).held

pub current-stays-held : (m : Manager) (c : Call) (xs : List ℕ) (log : ℕ) → well_formed m ≡ true →
    let q = (answer m c xs log).manager in
    q.pool.state ≡ opened → q.current ≡ small_bytes q + live_bytes q
current-stays-held m c xs log w o = (open_own (answer m c xs log).manager (manager-keeps m c xs log w) o).held

pub opening-is-held : (granularity override va initial stream : ℕ) (xs : List ℕ) (log : ℕ) →
    let q = (open_manager granularity override va initial stream xs log).manager in
    q.pool.state ≡ opened → q.current ≡ small_bytes q + live_bytes q
opening-is-held granularity override va initial stream xs log o =
    (open_own (open_manager granularity override va initial stream xs log).manager (opening-keeps granularity override va initial stream xs log) o).held

-- the most that was held is at least what is
pub current-below-highest : (m : Manager) (c : Call) (xs : List ℕ) (log : ℕ) → well_formed m ≡ true →
    let q = (answer m c xs log).manager in
    q.pool.state ≡ opened → q.current ≤ q.highest
current-below-highest m c xs log w o = (open_own (answer m c xs log).manager (manager-keeps m c xs log w) o).highest

-- highest is not lowered, nor raised above what is held then
abbrev Rises : Manager → Manager → Type 0
Rises m q = (m.highest ≤ q.highest) × (q.highest ≤ max m.highest q.current)

abbrev Raises : Manager → Reply → Type 0
Raises m r = Rises m r.manager

module _ (m : Manager) where
  malloc-rises : (n s : ℕ) (xs : List ℕ) (log : ℕ) (q : Request) → Raises m (served m n s xs log q)
  unfolding served small_malloc small_answered whole_malloc
  malloc-rises n s xs log unfit = omega arith
  malloc-rises n s xs log smaller = either_way (Raises m) (leb SMALLS m.small.count) _ _ (omega arith) (answered (lent xs 0))
    where
      answered : (x : Answer) → Raises m (small_answered m n s x)
      answered Missing = omega arith
      answered (Failed c) = omega arith
      answered (Done a) = either_way (Raises m) (incredible m a) _ _ (omega arith) (omega arith)
  malloc-rises n s xs log (whole k) =
      let r = PoolCalls.answer m.pool (mallocs k s) xs log in
      let q = with_pool m r.pool in
      either_way (Rises m) (is 0 r.outcome) (grown k q) q (omega arith) (omega arith)

  free-rises : (a : ℕ) (xs : List ℕ) (log : ℕ) (o : Option SmallBuffer) → Raises m (free_found m a xs log o)
  unfolding free_found drop_answered whole_free
  free-rises a xs log none =
      let r = PoolCalls.answer m.pool (frees a) xs log in
      let q = with_pool m r.pool in
      either_way (Rises m) (is 0 r.outcome) (lowered (numbers r.outcome).first q) q (omega arith) (omega arith)
  free-rises a xs log (some b) = dropped (lent xs 0)
    where
      dropped : (x : Answer) → Raises m (drop_answered m b x)
      dropped Missing = omega arith
      dropped (Failed c) = omega arith
      dropped (Done v) = omega arith

-- What a malloc or a free makes of highest, of any layer and whatever it answers.
highest-rises : (m : Manager) (c : Call) (xs : List ℕ) (log : ℕ) → (c ≡ closes → ⊥) → Raises m (answer m c xs log)
unfolding malloc free
highest-rises m (mallocs n s) xs log h =
    admitted-entered (Raises m) m log _ (omega arith) (omega arith) (omega arith) (omega arith) (omega arith) (λ _.
    malloc-rises m n s xs log (request m.pool.page n))
highest-rises m (frees a) xs log h =
    admitted-entered (Raises m) m log _ (omega arith) (omega arith) (omega arith) (omega arith) (omega arith) (λ _.
    free-rises m a xs log (first (λ b. eqb b.pointer a) (small m)))
highest-rises m closes xs log h = absurd (h refl)

pub highest-stays : (m : Manager) (c : Call) (xs : List ℕ) (log : ℕ) → (c ≡ closes → ⊥) → m.highest ≤ (answer m c xs log).manager.highest
highest-stays m c xs log h = (highest-rises m c xs log h).0

pub highest-reached : (m : Manager) (c : Call) (xs : List ℕ) (log : ℕ) → (c ≡ closes → ⊥) →
    let q = (answer m c xs log).manager in
    q.highest ≤ max m.highest q.current
highest-reached m c xs log h = (highest-rises m c xs log h).1
