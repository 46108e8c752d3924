-- Laws of sums over a list: over two lists in one, over those that pass a test, over what is joined, and term by term; and of what is joined from two lists.
use mathlib.Core.Path.{◌≡◌, refl, sym, ap, ◌∙◌}
use mathlib.Core.Bool.{Bool, true, false, cond, not}
use mathlib.Core.List.{List, [], ◌∷◌, ◌++◌, append_assoc}
use Prim.Native.Nat.{ℕ, ◌+◌, ◌<◌}
use native.Mathlib.Omega.{arith}
use lib.ListN.{length}
use Rattle.lists.specs.Tests.{All, filter}
use Rattle.lists.specs.Walks.{sum, joined}

module _ {ℓ} {A : Type ℓ} (f : A → ℕ) where
  pub sum-append : (l m : List A) → sum f (l ++ m) ≡ sum f l + sum f m
  sum-append [] m = omega arith
  sum-append (x ∷ l) m = omega (arith, sum-append l m)

  -- those that pass a test and those that don't make up the whole
  pub sum-filter : (p : A → Bool) (l : List A) → sum f (filter p l) + sum f (filter (λ x. not (p x)) l) ≡ sum f l
  sum-filter p [] = omega arith
  sum-filter p (x ∷ l) = go (p x) (sum-filter p l)
    where
      go : (b : Bool) → sum f (filter p l) + sum f (filter (λ x. not (p x)) l) ≡ sum f l →
          sum f (cond b (x ∷ filter p l) (filter p l)) + sum f (cond (not b) (x ∷ filter (λ x. not (p x)) l) (filter (λ x. not (p x)) l)) ≡ f x + sum f l
      go true h = omega arith
      go false h = omega arith

module _ {ℓ} {A : Type ℓ} where
  pub sum-equal : (f g : A → ℕ) (l : List A) → All (λ x. f x ≡ g x) l → sum f l ≡ sum g l
  sum-equal f g [] a = refl
  sum-equal f g (x ∷ l) a = omega (arith, a.0, sum-equal f g l a.1)

  pub sum-none : (f : A → ℕ) (l : List A) → All (λ x. f x ≡ 0) l → sum f l ≡ 0
  sum-none f [] a = refl
  sum-none f (x ∷ l) a = omega (arith, a.0, sum-none f l a.1)

  -- what is not 0 is the sum of some
  pub sum-some : (f : A → ℕ) (l : List A) → 0 < sum f l → 0 < length l
  sum-some f [] h = h
  sum-some f (x ∷ l) h = omega arith

  -- a length is a sum too
  pub length-sum : (l : List A) → length l ≡ sum (λ x. 1) l
  length-sum [] = refl
  length-sum (x ∷ l) = omega (arith, length-sum l)

pub joined-append {ℓ ℓ'} : {A : Type ℓ} {B : Type ℓ'} (f : A → List B) (l m : List A) → joined f (l ++ m) ≡ joined f l ++ joined f m
joined-append f [] m = refl
joined-append {B} f (x ∷ l) m = ap (λ (t : List B). f x ++ t) (joined-append f l m) ∙ sym (append_assoc (f x) (joined f l) (joined f m))

pub sum-joined {ℓ ℓ'} : {A : Type ℓ} {B : Type ℓ'} (f : B → ℕ) (g : A → List B) (l : List A) → sum f (joined g l) ≡ sum (λ x. sum f (g x)) l
sum-joined f g [] = refl
sum-joined f g (x ∷ l) = omega (arith, sum-append f (g x) (joined g l), sum-joined f g l)
