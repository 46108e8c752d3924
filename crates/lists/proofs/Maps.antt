-- What holds of every element of a list, its members, its sums and its order, seen through a map.
use mathlib.Core.Path.{◌≡◌, refl, ap}
use mathlib.Core.Logic.{inl, inr}
use mathlib.Core.List.{List, [], ◌∷◌, map}
use Prim.Native.Nat.{ℕ}
use native.Mathlib.Omega.{arith}
use Rattle.lists.specs.Tests.{All, Member}
use Rattle.lists.specs.Order.{Rises}
use Rattle.lists.specs.Walks.{sum}

module _ {ℓ ℓ'} {A : Type ℓ} {B : Type ℓ'} (f : A → B) where
  pub all_map : (P : B → Type 0) (l : List A) → All (λ x. P (f x)) l → All P (map f l)
  all_map P [] a = tt
  all_map P (x ∷ l) a = (a.0, all_map P l a.1)

  pub all-unmap : (P : B → Type 0) (l : List A) → All P (map f l) → All (λ x. P (f x)) l
  all-unmap P [] a = tt
  all-unmap P (x ∷ l) a = (a.0, all-unmap P l a.1)

  pub sum-map : (g : B → ℕ) (l : List A) → sum g (map f l) ≡ sum (λ x. g (f x)) l
  sum-map g [] = refl
  sum-map g (x ∷ l) = omega (arith, sum-map g l)

  -- a map that keeps the keys keeps the order
  pub rises-map : (key : A → ℕ) (to : B → ℕ) (b : ℕ) (l : List A) → ((x : A) → to (f x) ≡ key x) → Rises key b l → Rises to b (map f l)
  rises-map key to b [] e r = tt
  rises-map key to b (x ∷ l) e r = rw (e x) (r.0, rises-map key to (key x) l e r.1)

pub member-map : {A B : Type 0} (f : A → B) (x : A) (l : List A) → Member x l → Member (f x) (map f l)
member-map f x (y ∷ l) (inl e) = inl (ap f e)
member-map f x (y ∷ l) (inr m) = inr (member-map f x l m)
member-map {A = A} {B = B} f x [] x'' = elim x'' [ ]
