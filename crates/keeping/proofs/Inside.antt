-- A range is inside a list of ranges just where each of its addresses is covered: the addresses that it has in common with them, range by range, are
-- its covered addresses, counted one by one.
use mathlib.Core.Path.{◌≡◌, refl, ◌∙◌, sym}
use mathlib.Core.Logic.{◌⊎◌, inl, inr}
use mathlib.Core.List.{List, [], ◌∷◌}
use Prim.Native.Nat.{ℕ, zero, suc, ◌+◌, ◌-◌, ◌≤◌, ◌<◌, min, max}
use native.Mathlib.Omega.{arith}
use Rattle.lists.specs.Walks.{sum}
use Rattle.lists.proofs.Tests.{cases_lt}
use Rattle.keeping.specs.Cover.{within}
use Rattle.keeping.proofs.Cover.{within_in, within_out, within_le}
use Rattle.keeping.proofs.Counting.{cover_at}

-- `f` summed over the `n` addresses from `a` on
abbrev pub count : ℕ → ℕ → (ℕ → ℕ) → ℕ
count zero a f = 0
count (suc n) a f = f a + count n (suc a) f

count_none : (n a : ℕ) → count n a (λ x. 0) ≡ 0
count_none zero a = refl
count_none (suc n) a = omega (arith, count_none n (suc a))

pub count_plus : (n a : ℕ) (f g : ℕ → ℕ) → count n a (λ x. f x + g x) ≡ count n a f + count n a g
count_plus zero a f g = omega arith
count_plus (suc n) a f g = omega (arith, count_plus n (suc a) f g)

-- the addresses of one range that are in another: the first is or is not, then the rest
pub count-within : (n a b m : ℕ) → count n a (within b m) ≡ min (a + n) (b + m) - max a b
count-within zero a b m = omega arith
count-within (suc n) a b m =
    let u = min (suc a + n) (b + m) in
    let e : a + suc n ≡ suc a + n = omega arith in
    rw e (omega (arith, count-within n (suc a) b m, first u (cases_lt a b) (cases_lt a (b + m)) (omega arith) (λ p. omega arith)))
  where
    first : (u : ℕ) → (a < b) ⊎ (b ≤ a) → (a < b + m) ⊎ (b + m ≤ a) → u ≤ b + m → (a < b + m → a < u) →
        within b m a + (u - max (suc a) b) ≡ u - max a b
    first u (inl p) q h k = omega (arith, within_out b m a (inl p))
    first u (inr p) (inl q) h k = omega (arith, within_in b m a p q, k q)
    first u (inr p) (inr q) h k = omega (arith, within_out b m a (inr q))

-- what is at most 1 everywhere sums to `n` just where it is 1 at each of the `n` addresses
count_le : (n a : ℕ) (f : ℕ → ℕ) → ((x : ℕ) → f x ≤ 1) → count n a f ≤ n
count_le zero a f h = omega arith
count_le (suc n) a f h = omega (arith, h a, count_le n (suc a) f h)

count-full : (n a : ℕ) (f : ℕ → ℕ) → ((x : ℕ) → f x ≤ 1) → count n a f ≡ n → (x : ℕ) → a ≤ x → x < a + n → f x ≡ 1
count-full zero a f h e x p q = absurd (omega arith)
count-full (suc n) a f h e x p q = go (cases_lt a x) (count-full n (suc a) f h (omega (arith, h a, count_le n (suc a) f h)) x)
  where
    go : (a < x) ⊎ (x ≤ a) → (suc a ≤ x → x < suc a + n → f x ≡ 1) → f x ≡ 1
    go (inl r) k = k r (omega arith)
    go (inr r) k =
        let s : x ≡ a = omega arith in
        rw s (omega (arith, h a, count_le n (suc a) f h))

full-count : (n a : ℕ) (f : ℕ → ℕ) → ((x : ℕ) → a ≤ x → x < a + n → f x ≡ 1) → count n a f ≡ n
full-count zero a f h = refl
full-count (suc n) a f h = omega (arith, h a (omega arith) (omega arith), full-count n (suc a) f (λ x p q. h x (omega arith) (omega arith)))

module _ {A : Type 0} (lo size : A → ℕ) where
  -- how many addresses of the range from `a` of size `n` are in the ranges of a list
  abbrev pub in_common : ℕ → ℕ → List A → ℕ
  in_common a n l = sum (λ r. min (a + n) (lo r + size r) - max a (lo r)) l

  pub count_cover : (n a : ℕ) (l : List A) → count n a (cover_at lo size l) ≡ in_common a n l
  count_cover n a [] = count_none n a
  count_cover n a (r ∷ l) =
      omega (arith, count_plus n a (within (lo r) (size r)) (cover_at lo size l), count-within n a (lo r) (size r), count_cover n a l)

  module _ (l : List A) (once : (x : ℕ) → cover_at lo size l x ≤ 1) (a n : ℕ) where
    pub inside-covered : in_common a n l ≡ n → (x : ℕ) → within a n x ≤ cover_at lo size l x
    inside-covered e x = go (cases_lt x a) (cases_lt x (a + n))
      where
        go : (x < a) ⊎ (a ≤ x) → (x < a + n) ⊎ (a + n ≤ x) → within a n x ≤ cover_at lo size l x
        go (inl p) q = omega (arith, within_out a n x (inl p))
        go (inr p) (inr q) = omega (arith, within_out a n x (inr q))
        go (inr p) (inl q) = omega (arith, within_le a n x, count-full n a (cover_at lo size l) once (count_cover n a l ∙ e) x p q)

    pub inside-most : in_common a n l ≤ n
    inside-most = omega (arith, count_cover n a l, count_le n a (cover_at lo size l) once)

    pub covered-inside : ((x : ℕ) → within a n x ≤ cover_at lo size l x) → in_common a n l ≡ n
    covered-inside h = sym (count_cover n a l) ∙ full-count n a (cover_at lo size l) (λ x p q. omega (arith, once x, h x, within_in a n x p q))
