-- An element's place in a list: put in at a place, taken out at a place, found, taken out in exchange for the last one.
use Rattle.std.specs.Prelude.{Bool, cond, List, [], ◌∷◌, ℕ, zero, suc, ◌-◌, length, set, take}

module _ {ℓ} {A : Type ℓ} where
  -- `a` before the element at place `i`; at the end where the list is shorter
  abbrev pub insert_at : ℕ → A → List A → List A
  insert_at zero a l = a ∷ l
  insert_at (suc i) a [] = a ∷ []
  insert_at (suc i) a (x ∷ l) = x ∷ insert_at i a l

  -- without the element at place `i`
  abbrev pub remove_at : ℕ → List A → List A
  remove_at i [] = []
  remove_at zero (x ∷ l) = l
  remove_at (suc i) (x ∷ l) = x ∷ remove_at i l

  -- the place of the first element that passes the test; the length where there is none
  abbrev pub place : (A → Bool) → List A → ℕ
  place p [] = 0
  place p (x ∷ l) = cond (p x) 0 (suc (place p l))

  -- the last element, `z` where there is none
  abbrev pub last : A → List A → A
  last z [] = z
  last z (x ∷ l) = last x l

  -- all but the last element
  abbrev pub unlast : List A → List A
  unlast l = take (length l - 1) l

  -- the element at place `i` taken out, where the last one then stands
  abbrev pub swap_out : ℕ → List A → List A
  swap_out i [] = []
  swap_out i (x ∷ l) = unlast (set (x ∷ l) i (last x l))
