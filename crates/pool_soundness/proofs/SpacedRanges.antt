-- The tests of ranges in order as facts, and back: spaced ranges have no address in common, and ranges that have none are spaced; holes that do not
-- touch their neighbours touch none.
use mathlib.Core.Path.{◌≡◌, refl}
use mathlib.Core.Bool.{Bool, true, ◌&&◌, not}
use mathlib.Core.List.{List, [], ◌∷◌}
use Prim.Native.Nat.{ℕ, ◌+◌, ◌-◌, ◌≤◌, ◌<◌}
use native.Mathlib.Omega.{arith}
use borrow.Author.Tests.{leb-true, le-leb, eqb-false, ne_eqb, not-true}
use lib.Dec.{leb, eqb}
use Rattle.lists.specs.Tests.{All, Pairs, pairwise}
use Rattle.lists.proofs.Tests.{both}
use Rattle.lists.proofs.Every.{and-true, every-all}
use Rattle.lists.proofs.Tests.{all_implies}
use Rattle.words.specs.declared.Address.{Address}
use Rattle.tables.specs.Bounds.{END, VA}
use Rattle.tables.specs.TakeRange.{apart}
use Rattle.tables.specs.WellFormed.{Range, upto, whole}
use Rattle.keeping.proofs.WellFormedTests.{Loose}
use Rattle.pool_soundness.specs.Tests.{untouched, roots_pass}

-- aligned, nonzero
abbrev pub is_aligned : ℕ → Range → Bool
is_aligned page h = whole page h.from && whole page h.size

-- each starts at or after the end of the one before, the first at or after `b`, and ends at or below 2^63
abbrev pub spaced : ℕ → List Range → Bool
spaced b [] = true
spaced b (h ∷ l) = leb b h.from && (leb (upto h) END && spaced (upto h) l)

-- one ends where the other starts, or before
abbrev pub Before : Range → Range → Type 0
Before h k = upto h ≤ k.from

abbrev pub Low : Range → Type 0
Low h = upto h ≤ END

-- the parts of a passed test of the first
spaced-parts : (b : ℕ) (h : Range) (l : List Range) → spaced b (h ∷ l) ≡ true → (b ≤ h.from) × ((upto h ≤ END) × (spaced (upto h) l ≡ true))
spaced-parts b h l e =
    let p = both (leb b h.from) (leb (upto h) END && spaced (upto h) l) e in
    let q = both (leb (upto h) END) (spaced (upto h) l) p.1 in
    (leb-true b h.from p.0, (leb-true (upto h) END q.0, q.1))

pub spaced_low : (b : ℕ) (l : List Range) → spaced b l ≡ true → All Low l
spaced_low b [] e = tt
spaced_low b (h ∷ l) e =
    let p = spaced-parts b h l e in
    (p.1.0, spaced_low (upto h) l p.1.1)

spaced_above : (b : ℕ) (l : List Range) → spaced b l ≡ true → All (λ h. b ≤ h.from) l
spaced_above b [] e = tt
spaced_above b (h ∷ l) e =
    let p = spaced-parts b h l e in
    (p.0, all_implies (λ k. upto h ≤ k.from) (λ k. b ≤ k.from) (λ k q. omega (arith, p.0)) l (spaced_above (upto h) l p.1.1))

pub spaced-before : (b : ℕ) (l : List Range) → spaced b l ≡ true → Pairs Before l
spaced-before b [] e = tt
spaced-before b (h ∷ l) e =
    let p = spaced-parts b h l e in
    (spaced_above (upto h) l p.1.1, spaced-before (upto h) l p.1.1)

pub before_spaced : (b : ℕ) (l : List Range) → All (λ h. b ≤ h.from) l → All Low l → Pairs Before l → spaced b l ≡ true
before_spaced b [] a s r = refl
before_spaced b (h ∷ l) a s r =
    and-true (leb b h.from) (leb (upto h) END && spaced (upto h) l) (le-leb b h.from a.0)
    (and-true (leb (upto h) END) (spaced (upto h) l) (le-leb (upto h) END s.0) (before_spaced (upto h) l r.0 s.1 r.1))

-- ranges in order that do not touch their neighbours, the first not `b`
untouched-after : (b : ℕ) (l : List Range) → All (λ k. b ≤ k.from) l → Pairs Before l → untouched b l ≡ true → All (λ k. b < k.from) l
untouched-after b [] a r e = tt
untouched-after b (h ∷ l) a r e =
    let q = both (not (eqb b h.from)) (untouched (upto h) l) e in
    let ne : b ≡ h.from → ⊥ = eqb-false b h.from (not-true (eqb b h.from) q.0) in
    let le : b ≤ h.from = a.0 in
    let first : b < h.from = omega arith in
    (first, all_implies (λ k. upto h ≤ k.from) (λ k. b < k.from) (λ k p. omega arith) l r.0)

pub untouched_loose : (b : ℕ) (l : List Range) → Pairs Before l → untouched b l ≡ true → Pairs Loose l
untouched_loose b [] r e = tt
untouched_loose b (h ∷ l) r e =
    let q = both (not (eqb b h.from)) (untouched (upto h) l) e in (
      all_implies (λ k. upto h < k.from) (Loose h) (λ k p. ((λ d. omega arith), (λ d. omega arith))) l (untouched-after (upto h) l r.0 r.1 q.1),
      untouched_loose (upto h) l r.1 q.1,
    )

pub loose-untouched : (b : ℕ) (l : List Range) → All (λ k. b ≡ k.from → ⊥) l → Pairs Loose l → untouched b l ≡ true
loose-untouched b [] a r = refl
loose-untouched b (h ∷ l) a r =
    and-true (not (eqb b h.from)) (untouched (upto h) l) (rw (ne_eqb b h.from a.0))
    (loose-untouched (upto h) l (all_implies (Loose h) (λ k. upto h ≡ k.from → ⊥) (λ k p. p.0) l r.0) r.1)

-- roots that pass end at or below 2^63
pub roots_low : (page va : ℕ) (roots : List Address) → va ≤ VA → roots_pass page va roots ≡ true → All (λ a. a.0 + va ≤ END) roots
unfolding roots_pass
roots_low page va roots h e = every-all _ _ low roots (both (pairwise (λ a b. apart va a.0 b.0) roots) _ e).1
  where
    low : (a : Address) → (whole page a.0 && leb a.0 (END - va)) ≡ true → a.0 + va ≤ END
    low a q = omega (arith, leb-true a.0 (END - va) (both (whole page a.0) (leb a.0 (END - va)) q).1)

pub roots-apart : (page va : ℕ) (roots : List Address) → roots_pass page va roots ≡ true → pairwise (λ a b. apart va a.0 b.0) roots ≡ true
unfolding roots_pass
roots-apart page va roots e = (both (pairwise (λ a b. apart va a.0 b.0) roots) _ e).0

pub whole-positive : (page n : ℕ) → whole page n ≡ true → 0 < n
whole-positive page n e =
    let ne : n ≡ 0 → ⊥ = eqb-false n 0 (not-true (eqb n 0) (both (not (eqb n 0)) _ e).0) in
    omega arith
