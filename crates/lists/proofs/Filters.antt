-- What a filter keeps of a list: what passed the test, the order, and with those that did not pass the length; two filters, one after the other; and
-- the filter of two lists in one.
use mathlib.Core.Path.{◌≡◌, refl, ap}
use mathlib.Core.Bool.{Bool, true, false, cond, not, ◌&&◌}
use mathlib.Core.List.{List, [], ◌∷◌, ◌++◌}
use Prim.Native.Nat.{ℕ, ◌+◌}
use native.Mathlib.Omega.{arith}
use lib.ListN.{length}
use Rattle.lists.specs.Tests.{All, filter}
use Rattle.lists.specs.Order.{Rises}
use Rattle.lists.proofs.Order.{rises-below}
use Rattle.lists.proofs.Walks.{sum-filter, length-sum}

module _ {ℓ} {A : Type ℓ} (p : A → Bool) where
  pub all-passed : (l : List A) → All (λ x. p x ≡ true) (filter p l)
  all-passed [] = tt
  all-passed (x ∷ l) = go (p x) refl (all-passed l)
    where
      go : (b : Bool) → p x ≡ b → All (λ x. p x ≡ true) (filter p l) → All (λ x. p x ≡ true) (cond b (x ∷ filter p l) (filter p l))
      go true e h = (e, h)
      go false e h = h

  -- those that pass a test and those that don't make up the whole
  pub length_filters : (l : List A) → length (filter p l) + length (filter (λ x. not (p x)) l) ≡ length l
  length_filters l =
      omega (arith, sum-filter (λ x. 1) p l, length-sum (filter p l), length-sum (filter (λ x. not (p x)) l), length-sum l)

pub rises-filter {ℓ} : {A : Type ℓ} (key : A → ℕ) (p : A → Bool) (b : ℕ) (l : List A) → Rises key b l → Rises key b (filter p l)
rises-filter key p b [] r = tt
rises-filter key p b (x ∷ l) r = go (p x) (rises-filter key p (key x) l r.1)
  where
    go : (t : Bool) → Rises key (key x) (filter p l) → Rises key b (cond t (x ∷ filter p l) (filter p l))
    go true h = (r.0, h)
    go false h = rises-below key b (key x) (filter p l) (omega (arith, r.0)) h

module _ {ℓ} {A : Type ℓ} where
  -- those that pass one test and then another
  pub filter-both : (p q : A → Bool) (l : List A) → filter q (filter p l) ≡ filter (λ x. p x && q x) l
  filter-both p q [] = refl
  filter-both p q (x ∷ l) = go (p x) (filter-both p q l)
    where
      go : (b : Bool) → filter q (filter p l) ≡ filter (λ x. p x && q x) l →
          filter q (cond b (x ∷ filter p l) (filter p l)) ≡ cond (b && q x) (x ∷ filter (λ x. p x && q x) l) (filter (λ x. p x && q x) l)
      go true e = ap (λ m. cond (q x) (x ∷ m) m) e
      go false e = e

  pub filter_commute : (p q : A → Bool) (l : List A) → filter q (filter p l) ≡ filter p (filter q l)
  filter_commute p q [] = refl
  filter_commute p q (x ∷ l) = go (p x) (q x) refl refl (filter_commute p q l)
    where
      go : (a b : Bool) → p x ≡ a → q x ≡ b → filter q (filter p l) ≡ filter p (filter q l) →
          filter q (cond a (x ∷ filter p l) (filter p l)) ≡ filter p (cond b (x ∷ filter q l) (filter q l))
      go true true e f h = rw (e, f) (ap (λ m. x ∷ m) h)
      go true false e f h = rw f h
      go false true e f h = rw e h
      go false false e f h = h

  pub filter-append : (p : A → Bool) (l m : List A) → filter p (l ++ m) ≡ filter p l ++ filter p m
  filter-append p [] m = refl
  filter-append p (x ∷ l) m = go (p x) (filter-append p l m)
    where
      go : (b : Bool) → filter p (l ++ m) ≡ filter p l ++ filter p m →
          cond b (x ∷ filter p (l ++ m)) (filter p (l ++ m)) ≡ cond b (x ∷ filter p l) (filter p l) ++ filter p m
      go true e = ap (λ r. x ∷ r) e
      go false e = e

  pub filter-all : (l : List A) → filter (λ x. true) l ≡ l
  filter-all [] = refl
  filter-all (x ∷ l) = ap (λ m. x ∷ m) (filter-all l)
