-- Decimals grow by one digit at their end, and a number below 2^64 has at most twenty.
use mathlib.Core.Path.{◌≡◌, refl, ap, ◌∙◌}
use mathlib.Core.List.{[], ◌∷◌, ◌++◌}
use Prim.Native.Nat.{ℕ, zero, suc, ◌+◌, ◌*◌, ◌/◌, ◌%◌, ◌<◌, ◌≤◌, ◌^◌}
use native.Mathlib.Omega.{arith}
use borrow.Author.Tests.{lt-ltb, le-ltb}
use native.Mathlib.Nat.{pow-suc}
use lib.Dec.{ltb}
use lib.ListN.{length, length-append}
use Rattle.trace.proofs.Cases.{by-test}
use Rattle.trace.specs.Form.{spell, decimal}

-- the bound does not matter where it is large enough
pub enough : (k j n : ℕ) → n ≤ k → n ≤ j → spell k n ≡ spell j n
enough zero zero n h g = refl
enough zero (suc j) n h g = simp (lt-ltb n 10 (omega arith))
enough (suc k) zero n h g = simp (lt-ltb n 10 (omega arith))
enough (suc k) (suc j) n h g = rw (enough k j (n / 10) (omega arith) (omega arith))

one : (k d : ℕ) → d < 10 → spell k d ≡ (48 + d) ∷ []
one zero d h = refl
one (suc k) d h = simp (lt-ltb d 10 h)

pub one-digit : (d : ℕ) → d < 10 → decimal d ≡ (48 + d) ∷ []
unfolding decimal
one-digit d h = one d d h

more : (k n d : ℕ) → 0 < n → d < 10 → n * 10 + d ≤ k → spell k (n * 10 + d) ≡ spell n n ++ ((48 + d) ∷ [])
more zero n d h g i = absurd (omega arith)
more (suc k) n d h g i =
    let q : (n * 10 + d) / 10 ≡ n = omega arith in
    let r : (n * 10 + d) % 10 ≡ d = omega arith in
    simp (le-ltb (n * 10 + d) 10 (omega arith), q, r, enough k n n (omega arith) (omega arith))

pub one_more : (n d : ℕ) → 0 < n → d < 10 → decimal (n * 10 + d) ≡ decimal n ++ ((48 + d) ∷ [])
unfolding decimal
one_more n d h g = more (n * 10 + d) n d h g (omega arith)

pub ends-in : (n : ℕ) → 10 ≤ n → decimal n ≡ decimal (n / 10) ++ ((48 + n % 10) ∷ [])
ends-in n h =
    let e : n ≡ n / 10 * 10 + n % 10 = omega arith in
    ap decimal e ∙ one_more (n / 10) (n % 10) (omega arith) (omega arith)

-- how many digits
within : (j k n : ℕ) → n < 10 ^ (suc j) → length (spell k n) ≤ suc j
within j zero n h = omega arith
within zero (suc k) n h = simp (lt-ltb n 10 (omega arith)) (omega arith)
within (suc j) (suc k) n h =
    by-test (λ l. length l ≤ suc (suc j)) (ltb n 10)
    (λ t. omega arith)
    (λ t. let s : 10 ^ suc (suc j) ≡ 10 ^ suc j * 10 = pow-suc 10 (suc j) in rw length-append (omega (arith, within j k (n / 10) (omega arith))))

pub at-most_twenty : (n : ℕ) → n < 2 ^ 64 → length (decimal n) ≤ 20
unfolding decimal
at-most_twenty n h = within 19 n n (omega arith)
