-- What a size asks for, test by test.
use mathlib.Core.Path.{◌≡◌, refl, ap, ◌∙◌}
use mathlib.Core.Logic.{⊎_elim}
use mathlib.Core.Bool.{Bool, true, false, cond, or-true}
use Prim.Native.Nat.{ℕ, ◌+◌, ◌-◌, ◌*◌, ◌%◌, ◌≤◌, ◌<◌, max}
use native.Mathlib.Omega.{arith}
use lib.Dec.{eqb, ltb}
use Rattle.std.specs.Int.{next_multiple_of}
use Rattle.std.proofs.lemmas.Nat.{mod_below, mod-mul-add}
use Rattle.lists.proofs.Tests.{cases_eq}
use borrow.Author.Tests.{lt-ltb, le-ltb, eq-eqb, ne_eqb}
use Rattle.manager_rules.specs.Values.{BYTES}
use Rattle.manager_rules.specs.Sizes.{unfit, smaller, whole, rounded, request}

pub rounded_even : (page n : ℕ) → n % page ≡ 0 → rounded page n ≡ n
rounded_even page n e = rw (eq-eqb (n % page) 0 e) refl

pub rounded-more : (page n : ℕ) → (n % page ≡ 0 → ⊥) → rounded page n ≡ n + (page - n % page)
rounded-more page n e = rw (ne_eqb (n % page) 0 e) refl

-- a page size of 0 leaves a size as it is
pub rounded-none : (page n : ℕ) → page ≡ 0 → rounded page n ≡ n
rounded-none page n e = rw e (go (eqb (n % 0) 0))
  where
    go : (b : Bool) → cond b n (n + (0 - n % 0)) ≡ n
    go true = refl
    go false = omega arith

rounded-least : (page n : ℕ) → n ≤ rounded page n
rounded-least page n = go (eqb (n % page) 0)
  where
    go : (b : Bool) → n ≤ cond b n (n + (page - n % page))
    go true = omega arith
    go false = omega arith

-- what the library rounds to
pub next-is : (page n : ℕ) → next_multiple_of n (max page 1) ≡ rounded page n
next-is page n = ⊎_elim none some (cases_eq page 0)
  where
    none : page ≡ 0 → next_multiple_of n (max page 1) ≡ rounded page n
    none e = let one : max page 1 ≡ 1 = omega arith in rw (rounded-none page n e, one) (omega (arith, mod_below (1 - n % 1) 1 (omega arith)))

    some : (page ≡ 0 → ⊥) → next_multiple_of n (max page 1) ≡ rounded page n
    some e = let same : max page 1 ≡ page = omega arith in rw same (⊎_elim even more (cases_eq (n % page) 0))
      where
        even : n % page ≡ 0 → n + (page - n % page) % page ≡ rounded page n
        even r =
            let d : page - n % page ≡ 1 * page + 0 = omega arith in
            let z : (page - n % page) % page ≡ 0 = ap (λ k. k % page) d ∙ mod-mul-add 1 page 0 (omega arith) in
            omega (arith, z, rounded_even page n r)

        more : (n % page ≡ 0 → ⊥) → n + (page - n % page) % page ≡ rounded page n
        more r =
            let d : page - n % page ≡ 0 * page + (page - n % page) = omega arith in
            let z : (page - n % page) % page ≡ page - n % page =
            ap (λ k. k % page) d ∙ mod-mul-add 0 page (page - n % page) (omega (arith, mod_below n page (omega arith))) in
            omega (arith, z, rounded-more page n r)

pub asks_none : (page n : ℕ) → n ≡ 0 → request page n ≡ unfit
unfolding request
asks_none page n e = rw (eq-eqb n 0 e) refl

pub asks-smaller : (page n : ℕ) → (n ≡ 0 → ⊥) → n < page → request page n ≡ smaller
unfolding request
asks-smaller page n e h = rw (ne_eqb n 0 e, lt-ltb n page h) refl

pub asks-beyond : (page n : ℕ) → (n ≡ 0 → ⊥) → page ≤ n → BYTES < rounded page n → request page n ≡ unfit
unfolding request
asks-beyond page n e h g = rw (ne_eqb n 0 e, le-ltb n page h, lt-ltb BYTES (rounded page n) g, or-true (ltb BYTES n))

pub asks-whole : (page n k : ℕ) → (n ≡ 0 → ⊥) → page ≤ n → rounded page n ≡ k → k ≤ BYTES → request page n ≡ whole k
unfolding request
asks-whole page n k e h q b =
    let g : n ≤ BYTES = omega (arith, rounded-least page n, q) in
    rw (ne_eqb n 0 e, le-ltb n page h, le-ltb BYTES n g, q, le-ltb BYTES k b) refl
