-- Numbers each of which is above the one before are distinct.
use mathlib.Core.Path.{◌≡◌, refl, sym}
use mathlib.Core.Bool.{Bool, true, false, not, false≢true}
use mathlib.Core.List.{List, [], ◌∷◌}
use Prim.Native.Nat.{ℕ, suc, ◌+◌, ◌≤◌, ◌<◌}
use native.Mathlib.Omega.{arith}
use native.Mathlib.Numerals.{add-one}
use borrow.Author.Tests.{ne_eqb, ltb-true}
use lib.Dec.{eqb, ltb}
use lib.ListN.{length, get_or}
use Rattle.std.specs.List.{IsAllAdjacentAnswer}
use Rattle.lists.specs.Tests.{All, distinct}
use Rattle.lists.proofs.Tests.{all_implies}
use Rattle.lists.proofs.Every.{and-true, all-every}

-- each number is at least `b`, and above the one before
abbrev Climbs : ℕ → List ℕ → Type 0
Climbs b [] = Unit {0}
Climbs b (x ∷ l) = (b ≤ x) × Climbs (x + 1) l

climbs_above : (b : ℕ) (l : List ℕ) → Climbs b l → All (λ x. b ≤ x) l
climbs_above b [] c = tt
climbs_above b (x ∷ l) c = (c.0, all_implies (λ y. x + 1 ≤ y) (λ y. b ≤ y) (λ y p. omega (arith, c.0)) l (climbs_above (x + 1) l c.1))

climbs-distinct : (b : ℕ) (l : List ℕ) → Climbs b l → distinct l ≡ true
climbs-distinct b [] c = refl
climbs-distinct b (x ∷ l) c =
    and-true _ (distinct l)
    (all-every (λ y. not (eqb x y)) (λ y. x + 1 ≤ y) (λ y p. rw (ne_eqb x y (λ e. omega arith))) l (climbs_above (x + 1) l c.1))
    (climbs-distinct (x + 1) l c.1)

from_neighbours : (b : ℕ) (l : List ℕ) (d : ℕ) → (0 < length l → b ≤ get_or l 0 d) →
    ((k : ℕ) → suc k < length l → get_or l k d < get_or l (suc k) d) → Climbs b l
from_neighbours b [] d first all = tt
from_neighbours b (x ∷ l) d first all =
    (first (omega arith), from_neighbours (x + 1) l d (λ h. omega (arith, all 0 (omega arith))) (λ k h. all (suc k) (omega arith)))

abbrev pub is_below : ℕ → ℕ → Bool
is_below x y = ltb x y

pub rising_distinct : (l : List ℕ) (r : Bool) → IsAllAdjacentAnswer (λ x y b. b ≡ is_below x y) l r → r ≡ true → distinct l ≡ true
rising_distinct l true h e =
    climbs-distinct 0 l (from_neighbours 0 l 0 (λ _. omega arith) (λ k below. ltb-true _ _ (sym (rw add-one at (h k 0 (omega arith))))))
rising_distinct l false h e = absurd (false≢true e)
