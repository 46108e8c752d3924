-- The first element that passes a test, by its place: as a loop over a table's cells finds it, and what is read or taken out there.
use mathlib.Core.Path.{◌≡◌, refl, ap, sym, ◌∙◌}
use mathlib.Core.Logic.{⊎_elim}
use mathlib.Core.Bool.{Bool, true, false, cond}
use mathlib.Core.List.{List, [], ◌∷◌}
use mathlib.Core.Option.{some, none}
use Prim.Native.Nat.{ℕ, zero, suc, ◌+◌, ◌≤◌, ◌<◌}
use native.Mathlib.Omega.{arith}
use native.Mathlib.Nat.{le_of_suc-le-suc}
use lib.ListN.{length, get_or, take, drop}
use Rattle.lists.specs.Tests.{first}
use Rattle.lists.specs.Places.{remove_at, place}
use Rattle.lists.proofs.Cells.{turn, ends}
use Rattle.lists.proofs.Tests.{cases_lt}

module _ {A : Type 0} where
  module _ (p : A → Bool) where
    -- the first is the one at its place; where none passes, the place is past the list
    pub first-at : (l : List A) (d : A) → place p l < length l → first p l ≡ some (get_or l (place p l) d)
    first-at [] d h = absurd (omega arith)
    first-at (x ∷ l) d h = go (p x) (first-at l d) h
      where
        go : (b : Bool) → (place p l < length l → first p l ≡ some (get_or l (place p l) d)) → cond b 0 (suc (place p l)) < suc (length l) →
            cond b (some x) (first p l) ≡ some (get_or (x ∷ l) (cond b 0 (suc (place p l))) d)
        go true f k = refl
        go false f k = f (le_of_suc-le-suc k)

    pub first-none : (l : List A) → length l ≤ place p l → first p l ≡ none
    first-none [] h = refl
    first-none (x ∷ l) h = go (p x) (first-none l) h
      where
        go : (b : Bool) → (length l ≤ place p l → first p l ≡ none) → suc (length l) ≤ cond b 0 (suc (place p l)) → cond b (some x) (first p l) ≡ none
        go true f k = absurd (omega arith)
        go false f k = f (le_of_suc-le-suc k)

    -- the first passes; where there is none, no place is found
    pub first-passes : (l : List A) (x : A) → first p l ≡ some x → p x ≡ true
    first-passes [] x e = let z : ◌≡◌ {A = ℕ} 0 1 = cc in absurd (omega arith)
    first-passes (y ∷ l) x e = go (p y) refl (first-passes l x) e
      where
        go : (b : Bool) → p y ≡ b → (first p l ≡ some x → p x ≡ true) → cond b (some y) (first p l) ≡ some x → p x ≡ true
        go true t f q = let r : y ≡ x = cc in ap p (sym r) ∙ t
        go false t f q = f q

    pub none-first : (l : List A) (d : A) → first p l ≡ none → length l ≤ place p l
    none-first l d e = ⊎_elim (λ h. let f = first-at l d h in let z : ◌≡◌ {A = ℕ} 0 1 = cc in absurd (omega arith)) (λ h. h) (cases_lt (place p l) (length l))

  -- past the list there is nothing to take out
  pub remove_at-past : (i : ℕ) (l : List A) → length l ≤ i → remove_at i l ≡ l
  remove_at-past i [] h = refl
  remove_at-past zero (x ∷ l) h = absurd (omega arith)
  remove_at-past (suc i) (x ∷ l) h = ap (λ m. x ∷ m) (remove_at-past i l (le_of_suc-le-suc h))
