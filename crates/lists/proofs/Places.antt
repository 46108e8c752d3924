-- Laws of `insert_at`, `remove_at` and `place`: what they do to lengths, to the elements before and after the place, and in the code's terms, a turn of
-- a loop that shifts cells.
use mathlib.Core.Path.{◌≡◌, refl, ap}
use mathlib.Core.Bool.{Bool, true, false, cond}
use mathlib.Core.List.{List, [], ◌∷◌, ◌++◌}
use Prim.Native.Nat.{ℕ, zero, suc, ◌+◌, ◌-◌, ◌≤◌, ◌<◌}
use native.Mathlib.Omega.{arith}
use native.Mathlib.Nat.{le_of_suc-le-suc}
use native.Mathlib.Numerals.{add-one}
use lib.ListN.{length, get_or, set, take, drop}
use Rattle.lists.specs.Places.{insert_at, remove_at, place}

module _ {ℓ} {A : Type ℓ} where
  pub length-insert_at : (i : ℕ) (a : A) (l : List A) → length (insert_at i a l) ≡ suc (length l)
  length-insert_at zero a l = refl
  length-insert_at (suc i) a [] = refl
  length-insert_at (suc i) a (x ∷ l) = ap suc (length-insert_at i a l)

  pub length-remove_at : (i : ℕ) (l : List A) → i < length l → suc (length (remove_at i l)) ≡ length l
  length-remove_at i [] h = absurd (omega arith)
  length-remove_at zero (x ∷ l) h = refl
  length-remove_at (suc i) (x ∷ l) h = ap suc (length-remove_at i l (le_of_suc-le-suc h))

  -- in the first of two lists, and where the second begins
  pub insert_at-append : (i : ℕ) (a : A) (l m : List A) → i ≤ length l → insert_at i a (l ++ m) ≡ insert_at i a l ++ m
  insert_at-append zero a l m h = refl
  insert_at-append (suc i) a [] m h = absurd (omega arith)
  insert_at-append (suc i) a (x ∷ l) m h = ap (λ k. x ∷ k) (insert_at-append i a l m (le_of_suc-le-suc h))

  pub insert_at_seam : (l : List A) (a : A) (m : List A) → insert_at (length l) a (l ++ m) ≡ l ++ a ∷ m
  insert_at_seam [] a m = refl
  insert_at_seam (y ∷ l) a m = ap (λ k. y ∷ k) (insert_at_seam l a m)

  pub remove_at-append : (i : ℕ) (l m : List A) → i < length l → remove_at i (l ++ m) ≡ remove_at i l ++ m
  remove_at-append i [] m h = absurd (omega arith)
  remove_at-append zero (x ∷ l) m h = refl
  remove_at-append (suc i) (x ∷ l) m h = ap (λ k. x ∷ k) (remove_at-append i l m (le_of_suc-le-suc h))

  pub remove_at_seam : (l : List A) (x : A) (m : List A) → remove_at (length l) (l ++ x ∷ m) ≡ l ++ m
  remove_at_seam [] x m = refl
  remove_at_seam (y ∷ l) x m = ap (λ k. y ∷ k) (remove_at_seam l x m)

  -- what stands before the place, and what stands after it
  pub take-remove_at : (i : ℕ) (l : List A) → take i (remove_at i l) ≡ take i l
  take-remove_at zero [] = refl
  take-remove_at (suc i) [] = refl
  take-remove_at zero (x ∷ l) = refl
  take-remove_at (suc i) (x ∷ l) = ap (λ m. x ∷ m) (take-remove_at i l)

  drop_remove : (i : ℕ) (l : List A) → drop i (remove_at i l) ≡ drop (suc i) l
  drop_remove zero [] = refl
  drop_remove (suc i) [] = refl
  drop_remove zero (x ∷ l) = refl
  drop_remove (suc i) (x ∷ l) = drop_remove i l

  pub drop-remove_at : (i : ℕ) (l : List A) → drop i (remove_at i l) ≡ drop (i + 1) l
  drop-remove_at i l = rw add-one (drop_remove i l)

  pub get_or-remove_at-before : (l : List A) (i j : ℕ) (d : A) → j < i → get_or (remove_at i l) j d ≡ get_or l j d
  get_or-remove_at-before [] i j d h = refl
  get_or-remove_at-before (x ∷ l) zero j d h = absurd (omega arith)
  get_or-remove_at-before (x ∷ l) (suc i) zero d h = refl
  get_or-remove_at-before (x ∷ l) (suc i) (suc j) d h = get_or-remove_at-before l i j d (le_of_suc-le-suc h)

  get_or_remove : (l : List A) (i : ℕ) (d : A) → get_or (remove_at i l) i d ≡ get_or l (suc i) d
  get_or_remove [] i d = refl
  get_or_remove (x ∷ l) zero d = refl
  get_or_remove (x ∷ l) (suc i) d = get_or_remove l i d

  pub get_or-remove_at : (l : List A) (i : ℕ) (d : A) → get_or (remove_at i l) i d ≡ get_or l (i + 1) d
  get_or-remove_at l i d = rw add-one (get_or_remove l i d)

  up : (l : List A) (j : ℕ) (d : A) → suc j < length l → remove_at j (set l (suc j) (get_or l j d)) ≡ remove_at (suc j) l
  up [] j d h = absurd (omega arith)
  up (x ∷ []) j d h = absurd (omega arith)
  up (x ∷ y ∷ l) zero d h = refl
  up (x ∷ y ∷ l) (suc j) d h = ap (λ m. x ∷ m) (up (y ∷ l) j d (le_of_suc-le-suc h))

  down : (l : List A) (i : ℕ) (d : A) → suc i < length l → remove_at (suc i) (set l i (get_or l (suc i) d)) ≡ remove_at i l
  down [] i d h = absurd (omega arith)
  down (x ∷ []) i d h = absurd (omega arith)
  down (x ∷ y ∷ l) zero d h = refl
  down (x ∷ y ∷ l) (suc i) d h = ap (λ m. x ∷ m) (down (y ∷ l) i d (le_of_suc-le-suc h))

  -- a store fills the free place
  pub set-insert_at : (l : List A) (i : ℕ) (a : A) → i < length l → set l i a ≡ insert_at i a (remove_at i l)
  set-insert_at [] i a h = absurd (omega arith)
  set-insert_at (x ∷ l) zero a h = refl
  set-insert_at (x ∷ l) (suc i) a h = ap (λ m. x ∷ m) (set-insert_at l i a (le_of_suc-le-suc h))

  pub place_le : (p : A → Bool) (l : List A) → place p l ≤ length l
  place_le p [] = omega arith
  place_le p (x ∷ l) = go (p x) (place_le p l)
    where
      go : (t : Bool) → place p l ≤ length l → cond t 0 (suc (place p l)) ≤ suc (length l)
      go true h = omega arith
      go false h = omega arith
