-- Laws of `within` and `equal`.
use mathlib.Core.Path.{◌≡◌}
use mathlib.Core.Logic.{◌⊎◌, inl, inr}
use Prim.Native.Nat.{ℕ, ◌+◌, ◌-◌, ◌≤◌, ◌<◌}
use native.Mathlib.Omega.{arith}
use Rattle.keeping.specs.Cover.{below, within, equal}

-- Two ranges that touch cover what the joined one covers.
pub within_join : (a n k x : ℕ) → within a (n + k) x ≡ within a n x + within (a + n) k x
unfolding within
within_join a n k x =
    let p : below a x ≤ below (a + n) x = omega arith in
    let q : below (a + n) x ≤ below (a + n + k) x = omega arith in
    let e : a + (n + k) ≡ a + n + k = omega arith in
    rw e (arith_join (below a x) (below (a + n) x) (below (a + n + k) x) p q)
  where
    arith_join : (u v w : ℕ) → u ≤ v → v ≤ w → w - u ≡ (v - u) + (w - v)
    arith_join u v w p q = omega arith

-- A range cut in two covers what it covered.
pub within_cut : (a n k x : ℕ) → k ≤ n → within a n x ≡ within a k x + within (a + k) (n - k) x
within_cut a n k x h =
    let e : k + (n - k) ≡ n = omega arith in
    rw e at (within_join a k (n - k) x)

pub within_in : (a n x : ℕ) → a ≤ x → x < a + n → within a n x ≡ 1
unfolding within
within_in a n x p q = omega arith

pub within_out : (a n x : ℕ) → (x < a) ⊎ (a + n ≤ x) → within a n x ≡ 0
unfolding within
within_out a n x (inl p) = omega arith
within_out a n x (inr p) = omega arith

pub within_none : (a x : ℕ) → within a 0 x ≡ 0
unfolding within
within_none a x = omega arith

pub within_le : (a n x : ℕ) → within a n x ≤ 1
unfolding within
within_le a n x = omega arith

pub equal-same : (a : ℕ) → equal a a ≡ 1
unfolding equal
equal-same a = omega arith

pub equal-other : (a b : ℕ) → (a ≡ b → ⊥) → equal a b ≡ 0
unfolding equal
equal-other a b h = omega arith

pub equal_le : (a b : ℕ) → equal a b ≤ 1
unfolding equal
equal_le a b = omega arith

pub equal-positive : (a b : ℕ) → 0 < equal a b → a ≡ b
unfolding equal
equal-positive a b h = omega arith
