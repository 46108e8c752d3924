-- What a layer holds once it is admitted is below 2^58, so that the bytes of a request can be added: a small buffer is smaller than a page, and a live one is
-- inside the roots.
use mathlib.Core.Path.{◌≡◌}
use mathlib.Core.Logic.{⊎_elim}
use mathlib.Core.Bool.{Bool, true, false, cond, ◌&&◌, ◌||◌}
use mathlib.Core.List.{List, [], ◌∷◌}
use Prim.Native.Nat.{ℕ, ◌+◌, ◌-◌, ◌*◌, ◌≤◌, ◌<◌, ◌^◌, min, max}
use native.Mathlib.Omega.{arith}
use native.Mathlib.Nat.{suc-mul, mod-eq_of_lt}
use borrow.Author.Tests.{leb-true, ltb-true, ltb-false, eqb-true, ne_eqb}
use lib.Dec.{ltb, leb, eqb}
use lib.ListN.{length, length-take}
use Rattle.lists.specs.Tests.{All}
use Rattle.lists.specs.Walks.{sum}
use Rattle.lists.proofs.Tests.{both, neither, cases_lt, all_implies}
use Rattle.lists.proofs.Every.{every-all}
use Rattle.tables.specs.Bounds.{HOLES, PAGES, ROOTS, SPANS, VA, ZOMBIES}
use Rattle.tables.specs.Values.{Tables, opened, stopped, at_entry}
use Rattle.tables.specs.WellFormed.{Range, ranges, ceilings_kept, sound, well_formed}
use Rattle.keeping.specs.Sound.{Ceilings}
use Rattle.keeping.proofs.Inside.{in_common}
use Rattle.keeping.proofs.Ranges.{each_of}
use Rattle.keeping.proofs.WellFormedTests.{Clauses, clauses_hold}
use Rattle.keeping.proofs.WellFormedEnters.{ceilings-read, entry-page}
use Rattle.cells.specs.Table.{entries}
use Rattle.manager_rules.specs.Values.{SMALLS, BYTES, small}
use Rattle.manager_rules.specs.Sizes.{unfit, smaller, whole, rounded, request}
use Rattle.manager_rules.specs.WellFormed.{pointers_nonzero, pointers_distinct, sizes_small, small_bytes, live_bytes, current_held, own_sound, own_kept}
use Rattle.manager_rules.specs.declared.Manager as Rules
use Rattle.manager.specs.Behind.{SmallFits}
use Rattle.manager.proofs.Entering.{Admitted}

sum-most : {A : Type 0} (f : A → ℕ) (k : ℕ) (l : List A) → All (λ x. f x ≤ k) l → sum f l ≤ length l * k
sum-most f k [] a = omega arith
sum-most f k (x ∷ l) a = omega (arith, suc-mul (length l) k, sum-most f k l a.1, a.0)

module _ (t : Tables) (c : Clauses t) where
  page-most : t.fields.page ≤ VA
  page-most =
      ⊎_elim (λ k. absurd (omega (arith, c.va.positive, c.va.aligned, mod-eq_of_lt {n = t.fields.va} {m = t.fields.page} k)))
      (λ k. omega (arith, c.small)) (cases_lt t.fields.va t.fields.page)

module _ (t : Tables) (c : Clauses t) (q : Ceilings t) where
  -- a range has at most all bytes of each root
  range-most : (h : Range) → in_common (λ a. a.0) (λ a. t.fields.va) h.from h.size t.roots ≡ h.size → h.size ≤ ROOTS * VA
  range-most h e =
      let each = all_implies _ (λ a. min (h.from + h.size) (a.0 + t.fields.va) - max h.from a.0 ≤ VA) (λ a w. omega (arith, c.small)) t.roots c.roots in
      omega (arith, e, q.roots, sum-most (λ a. min (h.from + h.size) (a.0 + t.fields.va) - max h.from a.0) VA t.roots each)

  live-most : sum (λ b. b.size) t.live ≤ SPANS * (ROOTS * VA)
  live-most =
      let each = each_of t (λ h. h.size ≤ ROOTS * VA) (all_implies _ (λ h. h.size ≤ ROOTS * VA) range-most (ranges t) c.inside) in
      omega (arith, q.spans, sum-most (λ b. b.size) (ROOTS * VA) t.live each.live)

module _ (m : Rules.Manager) (log : ℕ) (a : Admitted m log) where
  ceilings : ceilings_kept m.pool ≡ true
  unfolding well_formed
  ceilings = (both (ceilings_kept m.pool) _ a.form).0

  pool-sound : sound (at_entry m.pool) ≡ true
  unfolding well_formed
  pool-sound =
      let p = m.pool in
      let e = (both (ceilings_kept p) (eqb p.state stopped || (eqb p.state opened && sound (at_entry p))) a.form).1 in
      let d : (eqb p.state opened && sound (at_entry p)) ≡ true = rw (ne_eqb p.state stopped a.stops) at e in
      (both (eqb p.state opened) (sound (at_entry p)) d).1

  roots_few : m.pool.roots.count ≤ ROOTS
  unfolding ceilings_kept
  roots_few =
      let p = m.pool in
      let b = both (leb p.pages.count PAGES) _ ceilings in
      let c = both (leb (p.free.count + p.live.count) SPANS) _ b.1 in
      let d = both (leb p.zombies.count ZOMBIES) _ c.1 in
      leb-true p.roots.count ROOTS (both (leb (p.holes.count + p.zombies.count) HOLES) (leb p.roots.count ROOTS) d.1).1

  pub smalls-few : m.small.count ≤ SMALLS
  unfolding own_kept
  smalls-few = leb-true m.small.count SMALLS (both (leb m.small.count SMALLS) _ a.own).0

  own-sound : own_sound m ≡ true
  unfolding own_kept
  own-sound =
      let e = (both (leb m.small.count SMALLS) (eqb m.pool.state stopped || own_sound m) a.own).1 in
      rw (ne_eqb m.pool.state stopped a.stops) at e

  page-few : m.pool.page ≤ VA
  page-few = omega (arith, entry-page m.pool, page-most (at_entry m.pool) (clauses_hold (at_entry m.pool) pool-sound))

  -- sizes are small, and current is what is held
  figures : (sizes_small m ≡ true) × (current_held m ≡ true)
  unfolding own_sound
  figures =
      let b = both (pointers_nonzero m) _ own-sound in
      let c = both (pointers_distinct m) _ b.1 in
      let d = both (sizes_small m) _ c.1 in
      (d.0, (both (current_held m) (leb m.current m.highest) d.1).0)

  length-small : length (small m) ≤ SMALLS
  unfolding entries
  length-small = omega (arith, length-take m.small.count m.small.cells, smalls-few)

  small-most : small_bytes m ≤ SMALLS * VA
  small-most =
      let each = every-all _ (λ b. b.size ≤ VA)
      (λ b e. omega (arith, ltb-true b.size m.pool.page (both (leb 1 b.size) (ltb b.size m.pool.page) e).1, page-few)) (small m) figures.0 in
      omega (arith, length-small, sum-most (λ b. b.size) VA (small m) each)

  pub current-few : m.current < 2 ^ 58
  current-few =
      omega (
        arith,
        eqb-true m.current (small_bytes m + live_bytes m) figures.1,
        small-most,
        live-most (at_entry m.pool) (clauses_hold (at_entry m.pool) pool-sound) (ceilings-read m.pool ceilings),
      )

-- what a request says of its size
asks_less : (a b c : Bool) (k : ℕ) → cond a unfit (cond b smaller (cond c unfit (whole k))) ≡ smaller → b ≡ true
asks_less true b c k e = cc
asks_less false true c k e = cc
asks_less false false true k e = cc
asks_less false false false k e = cc

asks-most : (a b c : Bool) (k n : ℕ) → cond a unfit (cond b smaller (cond c unfit (whole k))) ≡ whole n → (c ≡ false) × (k ≡ n)
asks-most true b c k n e = (cc, cc)
asks-most false true c k n e = (cc, cc)
asks-most false false true k n e = (cc, cc)
asks-most false false false k n e = (cc, cc)

pub smaller_less : (page n : ℕ) → request page n ≡ smaller → n < page
unfolding request
smaller_less page n e = ltb-true n page (asks_less (eqb n 0) (ltb n page) (ltb BYTES n || ltb BYTES (rounded page n)) (rounded page n) e)

pub whole-most : (page n k : ℕ) → request page n ≡ whole k → k ≤ BYTES
unfolding request
whole-most page n k e =
    let q = asks-most (eqb n 0) (ltb n page) (ltb BYTES n || ltb BYTES (rounded page n)) (rounded page n) k e in
    omega (arith, q.1, ltb-false BYTES (rounded page n) (neither (ltb BYTES n) (ltb BYTES (rounded page n)) q.0).1)

module _ (m : Rules.Manager) (log : ℕ) (a : Admitted m log) where
  pub small-fits : (n : ℕ) → request m.pool.page n ≡ smaller → m.small.count < SMALLS → SmallFits m n
  small-fits n e h =
      record {
        room = h;
        roots = roots_few m log a;
        counted = omega (arith, current-few m log a, smaller_less m.pool.page n e, page-few m log a);
      }

  pub whole-fits : (n k : ℕ) → request m.pool.page n ≡ whole k → m.current + k < 2 ^ 64
  whole-fits n k e = omega (arith, current-few m log a, whole-most m.pool.page n k e)
