-- The lowest key of a list, found from its front: what is left goes on from the lower one.
use mathlib.Core.Path.{◌≡◌, refl}
use mathlib.Core.List.{List, [], ◌∷◌, foldr}
use Prim.Native.Nat.{ℕ, min}
use native.Mathlib.Omega.{arith}

module _ {ℓ} {A : Type ℓ} (key : A → ℕ) where
  pub foldr-min : (b : ℕ) (x : A) (l : List A) → foldr (λ y c. min (key y) c) b (x ∷ l) ≡ foldr (λ y c. min (key y) c) (min (key x) b) l
  foldr-min b x [] = refl
  foldr-min b x (y ∷ l) = omega (arith, foldr-min b x l)
