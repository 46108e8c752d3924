-- Tests of a list's elements, and what holds of each.
use Rattle.std.specs.Prelude.{◌≡◌, ◌⊎◌, Bool, true, false, cond, ◌&&◌, ◌||◌, not, List, [], ◌∷◌, ℕ, eqb}
use Rattle.std.proofs.Math.Option.{Option, some, none}

module _ {ℓ} {A : Type ℓ} where
  -- every element is a `P`
  abbrev pub All : (A → Type 0) → List A → Type 0
  All P [] = Unit {0}
  All P (x ∷ l) = P x × All P l

  -- every two elements stand in `R`, the earlier one first
  abbrev pub Pairs : (A → A → Type 0) → List A → Type 0
  Pairs R [] = Unit {0}
  Pairs R (x ∷ l) = All (R x) l × Pairs R l

  -- every element passes the test
  abbrev pub every : (A → Bool) → List A → Bool
  every p [] = true
  every p (x ∷ l) = p x && every p l

  -- some element passes the test
  abbrev pub any : (A → Bool) → List A → Bool
  any p [] = false
  any p (x ∷ l) = p x || any p l

  -- those that pass the test, in order
  abbrev pub filter : (A → Bool) → List A → List A
  filter p [] = []
  filter p (x ∷ l) = cond (p x) (x ∷ filter p l) (filter p l)

  -- the first that passes the test
  abbrev pub first : (A → Bool) → List A → Option A
  first p [] = none
  first p (x ∷ l) = cond (p x) (some x) (first p l)

  -- every two elements pass the test, the earlier one first
  abbrev pub pairwise : (A → A → Bool) → List A → Bool
  pairwise p [] = true
  pairwise p (x ∷ l) = every (p x) l && pairwise p l

-- `x` is one of the elements
abbrev pub Member : {A : Type 0} → A → List A → Type 0
Member x [] = ⊥
Member x (y ∷ l) = (x ≡ y) ⊎ Member x l

-- no number twice
abbrev pub distinct : List ℕ → Bool
distinct = pairwise (λ a b. not (eqb a b))

-- the same numbers in the same order
abbrev pub same : List ℕ → List ℕ → Bool
same [] [] = true
same [] (y ∷ m) = false
same (x ∷ l) [] = false
same (x ∷ l) (y ∷ m) = eqb x y && same l m
