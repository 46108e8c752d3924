-- Laws of `every` and `pairwise`: a test of all elements passes just where what it tests for holds of all, and so for a test of all pairs.
use mathlib.Core.Path.{◌≡◌, refl}
use mathlib.Core.Bool.{Bool, true, ◌&&◌}
use mathlib.Core.List.{List, [], ◌∷◌}
use Rattle.lists.specs.Tests.{All, Pairs, every, pairwise}
use Rattle.lists.proofs.Tests.{both}

pub and-true : (a b : Bool) → a ≡ true → b ≡ true → (a && b) ≡ true
and-true a b p q = rw (p, q)

module _ {ℓ} {A : Type ℓ} where
  pub every-all : (p : A → Bool) (P : A → Type 0) → ((x : A) → p x ≡ true → P x) → (l : List A) → every p l ≡ true → All P l
  every-all p P f [] e = tt
  every-all p P f (x ∷ l) e =
      let q = both (p x) (every p l) e in
      (f x q.0, every-all p P f l q.1)

  pub all-every : (p : A → Bool) (P : A → Type 0) → ((x : A) → P x → p x ≡ true) → (l : List A) → All P l → every p l ≡ true
  all-every p P f [] a = refl
  all-every p P f (x ∷ l) a = and-true (p x) (every p l) (f x a.0) (all-every p P f l a.1)

  pub pairwise-pairs : (p : A → A → Bool) (R : A → A → Type 0) → ((x y : A) → p x y ≡ true → R x y) → (l : List A) → pairwise p l ≡ true → Pairs R l
  pairwise-pairs p R f [] e = tt
  pairwise-pairs p R f (x ∷ l) e =
      let q = both (every (p x) l) (pairwise p l) e in
      (every-all (p x) (R x) (f x) l q.0, pairwise-pairs p R f l q.1)

  pub pairs-pairwise : (p : A → A → Bool) (R : A → A → Type 0) → ((x y : A) → R x y → p x y ≡ true) → (l : List A) → Pairs R l → pairwise p l ≡ true
  pairs-pairwise p R f [] r = refl
  pairs-pairwise p R f (x ∷ l) r =
      and-true (every (p x) l) (pairwise p l) (all-every (p x) (R x) (f x) l r.0) (pairs-pairwise p R f l r.1)
