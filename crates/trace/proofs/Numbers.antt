-- A number has the form of docs/RULES.md 6.3 exactly where it is the decimal of a number below 2^64.
use mathlib.Core.Path.{◌≡◌, refl, sym, ap, ◌∙◌}
use mathlib.Core.Bool.{Bool, true, false, ◌&&◌, not, true≢false}
use mathlib.Core.List.{List, [], ◌∷◌, ◌++◌, append_assoc, append-nil}
use Prim.Native.Nat.{ℕ, zero, suc, ◌+◌, ◌-◌, ◌*◌, ◌/◌, ◌%◌, ◌<◌, ◌≤◌, ◌^◌}
use native.Mathlib.Omega.{arith}
use borrow.Author.Tests.{lt-ltb, le-leb, ne_eqb, eqb-false, leb-true, ltb-true, ltb-false, not-true}
use lib.Dec.{ltb, leb, eqb}
use Rattle.lists.specs.Tests.{All, every}
use Rattle.lists.proofs.Tests.{both}
use Rattle.lists.proofs.Every.{and-true, every-all}
use Rattle.trace.specs.Form.{spell, decimal}
use Rattle.trace.specs.Reads.{is_digit, value, needless, is_empty, is_number}
use Rattle.trace.proofs.Cases.{by-test}
use Rattle.trace.proofs.Decimal.{one-digit, one_more}

pub is_digit_lem : (b : ℕ) → is_digit b ≡ true → (48 ≤ b) × (b ≤ 57)
is_digit_lem b t = let is = both (leb 48 b) (leb b 57) t in (leb-true 48 b is.0, leb-true b 57 is.1)

digit-is : (d : ℕ) → d < 10 → is_digit (48 + d) ≡ true
digit-is d h = and-true (leb 48 (48 + d)) (leb (48 + d) 57) (le-leb 48 (48 + d) (omega arith)) (le-leb (48 + d) 57 (omega arith))

-- one more at the end
every_more : (ds : List ℕ) (d : ℕ) → every is_digit ds ≡ true → is_digit d ≡ true → every is_digit (ds ++ (d ∷ [])) ≡ true
every_more [] d h g = and-true (is_digit d) true g refl
every_more (e ∷ ds) d h g =
    let q = both (is_digit e) (every is_digit ds) h in
    and-true (is_digit e) (every is_digit (ds ++ (d ∷ []))) q.0 (every_more ds d q.1 g)

value-more : (n : ℕ) (ds : List ℕ) (d : ℕ) → value n (ds ++ (d ∷ [])) ≡ value n ds * 10 + (d - 48)
value-more n [] d = refl
value-more n (e ∷ ds) d = value-more (n * 10 + (e - 48)) ds d

is_empty-more : (ds : List ℕ) (d : ℕ) → is_empty (ds ++ (d ∷ [])) ≡ false
is_empty-more [] d = refl
is_empty-more (e ∷ ds) d = refl

-- the first digit is a 0
abbrev zero_first : List ℕ → Bool
zero_first [] = false
zero_first (d ∷ ds) = eqb d 48

needless-more : (ds : List ℕ) (d : ℕ) → zero_first ds ≡ false → needless (ds ++ (d ∷ [])) ≡ false
needless-more [] d h = refl
needless-more (e ∷ []) d h = h
needless-more (e ∷ f ∷ ds) d h = h

zero_first-more : (ds : List ℕ) (d : ℕ) → is_empty ds ≡ false → zero_first ds ≡ false → zero_first (ds ++ (d ∷ [])) ≡ false
zero_first-more [] d e h = absurd (true≢false e)
zero_first-more (c ∷ ds) d e h = h

-- what a decimal is
record Spelled (n : ℕ) (ds : List ℕ) : Type 0 where
  digits : every is_digit ds ≡ true
  some : is_empty ds ≡ false
  leads : 0 < n → zero_first ds ≡ false
  needed : needless ds ≡ false
  worth : value 0 ds ≡ n

spelled-one : (n : ℕ) → n < 10 → Spelled n ((48 + n) ∷ [])
spelled-one n h =
    record {
      digits = and-true (is_digit (48 + n)) true (digit-is n h) refl;
      some = refl;
      leads = λ g. ne_eqb (48 + n) 48 (omega arith);
      needed = refl;
      worth = omega arith;
    }

spelled : (k n : ℕ) → n ≤ k → Spelled n (spell k n)
spelled zero n h = spelled-one n (omega arith)
spelled (suc k) n h =
    by-test (Spelled n) (ltb n 10)
    (λ t. spelled-one n (ltb-true n 10 t))
    (λ t.
    let g : 10 ≤ n = ltb-false n 10 t in
    let s = spelled k (n / 10) (omega arith) in
    let f = s.leads (omega arith) in
    record {
      digits = every_more (spell k (n / 10)) (48 + n % 10) s.digits (digit-is (n % 10) (omega arith));
      some = is_empty-more (spell k (n / 10)) (48 + n % 10);
      leads = λ p. zero_first-more (spell k (n / 10)) (48 + n % 10) s.some f;
      needed = needless-more (spell k (n / 10)) (48 + n % 10) f;
      worth = value-more 0 (spell k (n / 10)) (48 + n % 10) ∙ rw s.worth (omega arith);
    })

decimal_spelled : (n : ℕ) → Spelled n (decimal n)
unfolding decimal
decimal_spelled n = spelled n n (omega arith)

pub decimal-digits : (n : ℕ) → every is_digit (decimal n) ≡ true
decimal-digits n = (decimal_spelled n).digits

pub value-decimal : (n : ℕ) → value 0 (decimal n) ≡ n
value-decimal n = (decimal_spelled n).worth

pub number-form : (n : ℕ) → n < 2 ^ 64 → is_number (decimal n) ≡ true
unfolding is_number
number-form n h =
    let s = decimal_spelled n in
    simp (s.digits, s.some, s.needed, s.worth, lt-ltb n (2 ^ 64) h)

-- digits behind those of a number
value-behind : (n : ℕ) (ds : List ℕ) → 0 < n → All (λ b. (48 ≤ b) × (b ≤ 57)) ds → decimal (value n ds) ≡ decimal n ++ ds
value-behind n [] h a = sym (append-nil (decimal n))
value-behind n (d ∷ ds) h a =
    let e : 48 + (d - 48) ≡ d = omega (arith, a.0.0) in
    value-behind (n * 10 + (d - 48)) ds (omega arith) a.1
    ∙ ap (λ (x : List ℕ). x ++ ds) (one_more n (d - 48) h (omega (arith, a.0.1)))
    ∙ append_assoc (decimal n) ((48 + (d - 48)) ∷ []) ds
    ∙ ap (λ (x : ℕ). decimal n ++ (x ∷ ds)) e

decimal-value : (ds : List ℕ) → is_empty ds ≡ false → All (λ b. (48 ≤ b) × (b ≤ 57)) ds → needless ds ≡ false → decimal (value 0 ds) ≡ ds
decimal-value [] h a g = absurd (true≢false h)
decimal-value (d ∷ []) h a g =
    let z : 0 * 10 + (d - 48) ≡ d - 48 = omega arith in
    let e : 48 + (d - 48) ≡ d = omega (arith, a.0.0) in
    ap decimal z ∙ one-digit (d - 48) (omega (arith, a.0.1)) ∙ ap (λ (x : ℕ). x ∷ []) e
decimal-value (d ∷ f ∷ ds) h a g =
    let z : 0 * 10 + (d - 48) ≡ d - 48 = omega arith in
    let e : 48 + (d - 48) ≡ d = omega (arith, a.0.0) in
    let n : d ≡ 48 → ⊥ = eqb-false d 48 g in
    ap (λ (x : ℕ). decimal (value x (f ∷ ds))) z
    ∙ value-behind (d - 48) (f ∷ ds) (omega (arith, a.0.0, n)) a.1
    ∙ ap (λ (x : List ℕ). x ++ (f ∷ ds)) (one-digit (d - 48) (omega (arith, a.0.1)))
    ∙ ap (λ (x : ℕ). x ∷ f ∷ ds) e

pub form-number : (ds : List ℕ) → is_number ds ≡ true → (value 0 ds < 2 ^ 64) × (decimal (value 0 ds) ≡ ds)
unfolding is_number
form-number ds t =
    let q = both (not (is_empty ds) && every is_digit ds && not (needless ds)) (ltb (value 0 ds) (2 ^ 64)) t in
    let r = both (not (is_empty ds) && every is_digit ds) (not (needless ds)) q.0 in
    let s = both (not (is_empty ds)) (every is_digit ds) r.0 in
    let a = every-all is_digit (λ b. (48 ≤ b) × (b ≤ 57)) is_digit_lem ds s.1 in
    (ltb-true (value 0 ds) (2 ^ 64) q.1, decimal-value ds (not-true (is_empty ds) s.0) a (not-true (needless ds) r.1))
