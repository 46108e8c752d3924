-- Laws of `Pairs`. What is in order is in order pair by pair, and back; a joined list is, where each part is and each pair of parts is.
use mathlib.Core.Path.{◌≡◌, refl}
use mathlib.Core.Bool.{true, false≢true}
use mathlib.Core.List.{List, [], ◌∷◌, ◌++◌, map}
use Prim.Native.Nat.{ℕ, ◌≤◌, ◌<◌}
use native.Mathlib.Omega.{arith}
use borrow.Author.Tests.{eqb-true, eq-eqb}
use lib.Dec.{eqb}
use Rattle.lists.specs.Tests.{All, Pairs, same}
use Rattle.lists.specs.Order.{Ascends, Rises}
use Rattle.lists.specs.Walks.{joined}
use Rattle.lists.proofs.Tests.{both, all_implies, all_both, all_append}
use Rattle.lists.proofs.Every.{and-true}
use Rattle.lists.proofs.Maps.{all_map, all-unmap}

-- the test for the same numbers in the same order
pub same-is : (l m : List ℕ) → same l m ≡ true → l ≡ m
same-is [] [] e = refl
same-is [] (y ∷ m) e = absurd (false≢true e)
same-is (x ∷ l) [] e = absurd (false≢true e)
same-is (x ∷ l) (y ∷ m) e =
    let q = both (eqb x y) (same l m) e in
    rw (eqb-true x y q.0, same-is l m q.1)

same_refl : (l : List ℕ) → same l l ≡ true
same_refl [] = refl
same_refl (x ∷ l) = and-true (eqb x x) (same l l) (eq-eqb x x refl) (same_refl l)

pub is_same : (l m : List ℕ) → l ≡ m → same l m ≡ true
is_same l m e = rw e (same_refl m)

module _ {ℓ} {A : Type ℓ} where
  pub pairs_implies : (R S : A → A → Type 0) → ((x y : A) → R x y → S x y) → (l : List A) → Pairs R l → Pairs S l
  pairs_implies R S f [] r = tt
  pairs_implies R S f (x ∷ l) r = (all_implies (R x) (S x) (f x) l r.0, pairs_implies R S f l r.1)

  pub pairs-both : (R S : A → A → Type 0) (l : List A) → Pairs R l → Pairs S l → Pairs (λ x y. R x y × S x y) l
  pairs-both R S [] r s = tt
  pairs-both R S (x ∷ l) r s = (all_both (R x) (S x) l r.0 s.0, pairs-both R S l r.1 s.1)

  -- what holds of every element holds of both of every two
  pub pairs-all : (P : A → Type 0) (l : List A) → All P l → Pairs (λ x y. P x × P y) l
  pairs-all P [] a = tt
  pairs-all P (x ∷ l) a = (all_implies P (λ y. P x × P y) (λ y p. (a.0, p)) l a.1, pairs-all P l a.1)

  pub pairs-append : (R : A → A → Type 0) (l m : List A) → Pairs R l → Pairs R m → All (λ x. All (R x) m) l → Pairs R (l ++ m)
  pairs-append R [] m r s a = s
  pairs-append R (x ∷ l) m r s a = (all_append (R x) l m r.0 a.0, pairs-append R l m r.1 s a.1)

module _ {ℓ ℓ'} {A : Type ℓ} {B : Type ℓ'} (f : A → B) where
  pub pairs-map : (R : B → B → Type 0) (l : List A) → Pairs (λ x y. R (f x) (f y)) l → Pairs R (map f l)
  pairs-map R [] r = tt
  pairs-map R (x ∷ l) r = (all_map f (R (f x)) l r.0, pairs-map R l r.1)

  pub pairs-unmap : (R : B → B → Type 0) (l : List A) → Pairs R (map f l) → Pairs (λ x y. R (f x) (f y)) l
  pairs-unmap R [] r = tt
  pairs-unmap R (x ∷ l) r = (all-unmap f (R (f x)) l r.0, pairs-unmap R l r.1)

module _ {ℓ} {A : Type ℓ} (key : A → ℕ) where
  pub ascends_above : (b : ℕ) (l : List A) → Ascends key b l → All (λ x. b ≤ key x) l
  ascends_above b [] a = tt
  ascends_above b (x ∷ l) a =
      (a.0, all_implies (λ y. key x ≤ key y) (λ y. b ≤ key y) (λ y p. omega (arith, a.0)) l (ascends_above (key x) l a.1))

  pub ascends-pairs : (b : ℕ) (l : List A) → Ascends key b l → Pairs (λ x y. key x ≤ key y) l
  ascends-pairs b [] a = tt
  ascends-pairs b (x ∷ l) a = (ascends_above (key x) l a.1, ascends-pairs (key x) l a.1)

  pub rises_above : (b : ℕ) (l : List A) → Rises key b l → All (λ x. b < key x) l
  rises_above b [] a = tt
  rises_above b (x ∷ l) a =
      (a.0, all_implies (λ y. key x < key y) (λ y. b < key y) (λ y p. omega (arith, a.0)) l (rises_above (key x) l a.1))

  pub rises-pairs : (b : ℕ) (l : List A) → Rises key b l → Pairs (λ x y. key x < key y) l
  rises-pairs b [] a = tt
  rises-pairs b (x ∷ l) a = (rises_above (key x) l a.1, rises-pairs (key x) l a.1)

  pub pairs-rises : (b : ℕ) (l : List A) → All (λ x. b < key x) l → Pairs (λ x y. key x < key y) l → Rises key b l
  pairs-rises b [] a r = tt
  pairs-rises b (x ∷ l) a r = (a.0, pairs-rises (key x) l r.0 r.1)

module _ {ℓ ℓ'} {A : Type ℓ} {B : Type ℓ'} (f : A → List B) where
  pub all-joined : (P : B → Type 0) (l : List A) → All (λ x. All P (f x)) l → All P (joined f l)
  all-joined P [] a = tt
  all-joined P (x ∷ l) a = all_append P (f x) (joined f l) a.0 (all-joined P l a.1)

  -- Each element of `f x` is a `P x`, and stands in `R` to what is joined from those that stand in `Q` to `x`.
  pub pairs-joined : (R : B → B → Type 0) (Q : A → A → Type 0) (P : A → B → Type 0) →
      ((x y : A) (s : B) → P x s → Q x y → All (R s) (f y)) →
      (l : List A) → All (λ x. All (P x) (f x) × Pairs R (f x)) l → Pairs Q l → Pairs R (joined f l)
  pairs-joined R Q P g [] a q = tt
  pairs-joined R Q P g (x ∷ l) a q =
      pairs-append R (f x) (joined f l) a.0.1 (pairs-joined R Q P g l a.1 q.1)
      (all_implies (P x) (λ s. All (R s) (joined f l))
      (λ s p. all-joined (R s) l (all_implies (Q x) (λ y. All (R s) (f y)) (λ y r. g x y s p r) l q.0)) (f x) a.0.0)
