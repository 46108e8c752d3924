-- What a layer adds to its pool, as facts: from the tests of `own_sound` and back, and what a call knows of a layer that it serves.
use mathlib.Core.Path.{◌≡◌, refl}
use mathlib.Core.Logic.{◌⊎◌, inl, inr}
use mathlib.Core.Bool.{Bool, true, false, ◌||◌, not}
use mathlib.Core.List.{List, map}
use Prim.Native.Nat.{ℕ, ◌+◌, ◌≤◌, ◌<◌}
use borrow.Author.Tests.{leb-true, le-leb, ltb-true, lt-ltb, eqb-true, eqb-false, eq-eqb, ne_eqb, not-true, not-false}
use lib.Dec.{ltb, leb, eqb}
use Rattle.lists.specs.Tests.{All, Pairs}
use Rattle.lists.proofs.Tests.{both}
use Rattle.lists.proofs.Every.{and-true, every-all, all-every, pairwise-pairs, pairs-pairwise}
use Rattle.lists.proofs.Pairs.{pairs-map, pairs-unmap}
use Rattle.lists.proofs.Distinct.{Differ}
use Rattle.tables.specs.Bounds.{IDS}
use Rattle.tables.specs.Values.{closed, opened, stopped}
use Rattle.tables.specs.HandsBack.{short_log}
use Rattle.tables.specs.WellFormed as Pool
use Rattle.tables.specs.declared.Outcome.TheVariants.{PoolClosed, PoolStopped, NotWellFormed, ShortLog, IdsSpent}
use Rattle.keeping.proofs.Calls.{is_open_lem}
use Rattle.answering.proofs.Calls.{tested}
use Rattle.manager_rules.specs.Values.{SMALLS, small}
use Rattle.manager_rules.specs.WellFormed.{
  pointers_nonzero,
  pointers_distinct,
  sizes_small,
  small_bytes,
  live_bytes,
  current_held,
  own_sound,
  own_kept,
  well_formed,
}
use Rattle.manager_rules.specs.HandsBack.{Reply, refused, admitted}
use Rattle.manager_rules.specs.declared.SmallBuffer.{SmallBuffer}
use Rattle.manager_rules.specs.declared.Manager.{Manager}

-- a small buffer has at least a byte, and fewer than a page
abbrev pub Small : ℕ → SmallBuffer → Type 0
Small page b = (1 ≤ b.size) × (b.size < page)

pub record Own (m : Manager) : Type 0 where
  pub nonzero : All (λ b. b.pointer ≡ 0 → ⊥) (small m)
  pub distinct : Differ (λ b. b.pointer) (small m)
  pub sizes : All (Small m.pool.page) (small m)
  pub held : m.current ≡ small_bytes m + live_bytes m
  pub highest : m.current ≤ m.highest

-- no pointer twice
pointers_differ : (l : List SmallBuffer) → Differ (λ b. b.pointer) l → Pairs (λ a b. a ≡ b → ⊥) (map (λ b. b.pointer) l)
pointers_differ l d = pairs-map (λ b. b.pointer) (λ a b. a ≡ b → ⊥) l d

own_read : (m : Manager) → own_sound m ≡ true → Own m
unfolding own_sound
own_read m e =
    let a = both (pointers_nonzero m) _ e in
    let b = both (pointers_distinct m) _ a.1 in
    let c = both (sizes_small m) _ b.1 in
    let d = both (current_held m) (leb m.current m.highest) c.1 in
    record {
      nonzero = every-all _ _ (λ b q. eqb-false b.pointer 0 (not-true _ q)) (small m) a.0;
      distinct = pairs-unmap (λ b. b.pointer) (λ a b. a ≡ b → ⊥) (small m)
          (pairwise-pairs _ _ (λ a b q. eqb-false a b (not-true _ q)) (map (λ b. b.pointer) (small m)) b.0);
      sizes = every-all _ _
          (λ b q. let z = both (leb 1 b.size) (ltb b.size m.pool.page) q in (leb-true 1 b.size z.0, ltb-true b.size m.pool.page z.1))
          (small m) c.0;
      held = eqb-true m.current (small_bytes m + live_bytes m) d.0;
      highest = leb-true m.current m.highest d.1;
    }

own-passes : (m : Manager) → Own m → own_sound m ≡ true
unfolding own_sound
own-passes m o =
    and-true (pointers_nonzero m) _ (all-every _ _ (λ (b : SmallBuffer) (q : b.pointer ≡ 0 → ⊥). rw (ne_eqb b.pointer 0 q)) (small m) o.nonzero)
    (and-true (pointers_distinct m) _
    (pairs-pairwise _ _ (λ (a b : ℕ) (q : a ≡ b → ⊥). rw (ne_eqb a b q)) (map (λ b. b.pointer) (small m)) (pointers_differ (small m) o.distinct))
    (and-true (sizes_small m) _
    (all-every _ _ (λ (b : SmallBuffer) (q : Small m.pool.page b). rw (le-leb 1 b.size q.0, lt-ltb b.size m.pool.page q.1))
    (small m) o.sizes)
    (and-true (current_held m) _ (eq-eqb m.current (small_bytes m + live_bytes m) o.held) (le-leb m.current m.highest o.highest))))

-- A layer is well formed where its pool is and its count is within the ceiling, and if it is not stopped, what it adds is sound.
pub formed : (m : Manager) → Pool.well_formed m.pool ≡ true → m.small.count ≤ SMALLS → (m.pool.state ≡ stopped) ⊎ Own m → well_formed m ≡ true
unfolding own_kept
formed m w h o = and-true (Pool.well_formed m.pool) _ w (and-true (leb m.small.count SMALLS) _ (le-leb m.small.count SMALLS h) (go o))
  where
    go : (m.pool.state ≡ stopped) ⊎ Own m → (eqb m.pool.state stopped || own_sound m) ≡ true
    go (inl e) = rw (eq-eqb m.pool.state stopped e)
    go (inr q) = last (eqb m.pool.state stopped) (own-passes m q)
      where
        last : (b : Bool) → own_sound m ≡ true → (b || own_sound m) ≡ true
        last true z = refl
        last false z = z

-- the parts of well formed
pub formed-pool : (m : Manager) → well_formed m ≡ true → Pool.well_formed m.pool ≡ true
formed-pool m w = (both (Pool.well_formed m.pool) (own_kept m) w).0

pub formed-count : (m : Manager) → well_formed m ≡ true → m.small.count ≤ SMALLS
unfolding own_kept
formed-count m w =
    leb-true m.small.count SMALLS
    (both (leb m.small.count SMALLS) (eqb m.pool.state stopped || own_sound m) (both (Pool.well_formed m.pool) (own_kept m) w).1).0

pub formed-own : (m : Manager) → well_formed m ≡ true → eqb m.pool.state stopped ≡ false → Own m
unfolding own_kept
formed-own m w e =
    own_read m
    (rw e at (both (leb m.small.count SMALLS) (eqb m.pool.state stopped || own_sound m) (both (Pool.well_formed m.pool) (own_kept m) w).1).1)

-- What is known of a layer after 1 to 5.
pub record Entered (m : Manager) : Type 0 where
  pub running : m.pool.state ≡ opened
  pub pool : Pool.well_formed m.pool ≡ true
  pub count : m.small.count ≤ SMALLS
  pub own : Own m

pub enters : (m : Manager) → well_formed m ≡ true → eqb m.pool.state stopped ≡ false → Entered m
enters m w e =
    let p = formed-pool m w in
    record { running = is_open_lem m.pool p e; pool = p; count = formed-count m w; own = formed-own m w e }

-- what holds of 1 to 5, and of how the call goes on, which knows what was tested
pub admitted-entered : (K : Reply → Type 0) (m : Manager) (log : ℕ) (r : Reply) → K (refused m PoolClosed) → K (refused m PoolStopped) →
    K (refused m NotWellFormed) → K (refused m ShortLog) → K (refused m IdsSpent) → (Entered m → K r) → K (admitted m log r)
unfolding admitted
admitted-entered K m log r gone stops forms logs ids h =
    tested K (eqb m.pool.state closed) _ _ gone (λ _.
    tested K (eqb m.pool.state stopped) _ _ stops (λ running.
    tested K (not (well_formed m)) _ _ forms (λ formed.
    tested K (short_log log) _ _ logs (λ _.
    tested K (leb IDS m.pool.counter) _ _ ids (λ _.
    h (enters m (not-false (well_formed m) formed) running))))))
