-- What is counted in a list passes the test, and its number is one of the list's.
use mathlib.Core.Path.{◌≡◌, refl}
use mathlib.Core.Bool.{Bool, true}
use mathlib.Core.List.{List, [], ◌∷◌}
use Prim.Native.Nat.{ℕ, suc, ◌+◌, ◌-◌, ◌≤◌, ◌<◌}
use native.Mathlib.Omega.{arith}
use lib.ListN.{length, get_or}
use Rattle.trace.specs.Reads.{counted}
use Rattle.trace.proofs.Cases.{by-test}

module _ {A : Type 0} (p : A → Bool) where
  pub counted-within : (i : ℕ) (xs : List A) → (counted p i xs ≡ 0 → ⊥) → (i ≤ counted p i xs) × (counted p i xs < i + length xs)
  counted-within i [] h = absurd (h refl)
  counted-within i (x ∷ xs) h =
      by-test (λ k. (k ≡ 0 → ⊥) → (i ≤ k) × (k < i + suc (length xs))) (p x)
      (λ t g. omega arith)
      (λ t g. let r = counted-within (i + 1) xs g in omega arith)
      h

  -- the one that is counted stands that many places behind the first
  pub counted-passes : (i : ℕ) (xs : List A) (d : A) → (counted p i xs ≡ 0 → ⊥) → p (get_or xs (counted p i xs - i) d) ≡ true
  counted-passes i [] d h = absurd (h refl)
  counted-passes i (x ∷ xs) d h =
      by-test (λ k. (k ≡ 0 → ⊥) → p (get_or (x ∷ xs) (k - i) d) ≡ true) (p x)
      (λ t g. let e : i - i ≡ 0 = omega arith in rw e t)
      (λ t g.
      let k = counted p (i + 1) xs in
      let r = counted-within (i + 1) xs g in
      let e : k - i ≡ suc (k - (i + 1)) = omega arith in
      rw e (counted-passes (i + 1) xs d g))
      h
