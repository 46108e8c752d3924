-- The text of a proper line is read as that line: the word's letters lead to its kind, each decimal to its number.
use mathlib.Core.Path.{◌≡◌, refl, sym, ap, ◌∙◌}
use mathlib.Core.Bool.{Bool, true, false, ◌||◌, false≢true}
use mathlib.Core.List.{List, [], ◌∷◌, ◌++◌, append_assoc}
use Prim.Native.Nat.{ℕ, zero, suc, ◌+◌, ◌-◌, ◌*◌, ◌/◌, ◌%◌, ◌<◌, ◌≤◌, ◌^◌}
use native.Mathlib.Omega.{arith}
use borrow.Author.Tests.{lt-ltb, le-leb, ne_eqb, eqb-true, ltb-true, ltb-false}
use lib.Dec.{ltb, eqb}
use Rattle.std.specs.Prelude.{fold}
use Rattle.trace.specs.Form.{word, last_kind, spell, decimal, row, text_of, Proper}
use Rattle.trace.specs.Machine.{kind_of, after_letters, after_tab, after_digits, parted, fresh, after, run, line_at, read_line}
use Rattle.trace.specs.declared.Line.{Line}
use Rattle.trace.specs.declared.Reading.TheVariants.{Good}
use Rattle.trace.specs.declared.Before.{Before}
use Rattle.trace.specs.declared.Before.TheVariants.{Kind, First, Second}
use Rattle.trace.specs.declared.Partial.{Partial}
use Rattle.trace.specs.declared.Partial.TheVariants.{Letters, Tab, Digits, Broken}
use Rattle.trace.proofs.Cases.{by-test}
use Rattle.trace.proofs.Words.{each-kind}

run-append : (p : Partial) (l m : List ℕ) → run p (l ++ m) ≡ run (run p l) m
run-append p [] m = refl
run-append p (b ∷ l) m = run-append (after p b) l m

pub run-fold : (p : Partial) (l : List ℕ) → run p l ≡ fold after p l
run-fold p [] = refl
run-fold p (b ∷ l) = run-fold (after p b) l

-- one digit, before the first and after another
first-digit : (f : Before) (n : ℕ) → n < 10 → after (Tab f) (48 + n) ≡ Digits f n
unfolding after_tab
first-digit f n h =
    let e : 48 + n - 48 ≡ n = omega arith in
    simp (le-leb 48 (48 + n) (omega arith), le-leb (48 + n) 57 (omega arith), e)

next-digit : (f : Before) (n d : ℕ) → 0 < n → d < 10 → n * 10 + d < 2 ^ 64 → after (Digits f n) (48 + d) ≡ Digits f (n * 10 + d)
unfolding after_digits
next-digit f n d h g i =
    let e : 48 + d - 48 ≡ d = omega arith in
    simp (
      ne_eqb (48 + d) 9 (omega arith),
      le-leb 48 (48 + d) (omega arith),
      le-leb (48 + d) 57 (omega arith),
      e,
      lt-ltb 0 n h,
      lt-ltb (n * 10 + d) (2 ^ 64) i,
    )

read_spelled : (f : Before) (k n : ℕ) → n ≤ k → n < 2 ^ 64 → run (Tab f) (spell k n) ≡ Digits f n
read_spelled f zero n h g = first-digit f n (omega arith)
read_spelled f (suc k) n h g =
    by-test (λ l. run (Tab f) l ≡ Digits f n) (ltb n 10)
    (λ t. first-digit f n (ltb-true n 10 t))
    (λ t.
    let s : 10 ≤ n = ltb-false n 10 t in
    let e : n / 10 * 10 + n % 10 ≡ n = omega arith in
    run-append (Tab f) (spell k (n / 10)) ((48 + n % 10) ∷ [])
    ∙ ap (λ (p : Partial). after p (48 + n % 10)) (read_spelled f k (n / 10) (omega arith) (omega arith))
    ∙ next-digit f (n / 10) (n % 10) (omega arith) (omega arith) (omega arith)
    ∙ ap (Digits f) e)

read-decimal : (f : Before) (n : ℕ) → n < 2 ^ 64 → run (Tab f) (decimal n) ≡ Digits f n
unfolding decimal
read-decimal f n h = read_spelled f n n (omega arith) h

-- a number and what follows it
read_number : (f : Before) (n : ℕ) (l : List ℕ) → n < 2 ^ 64 → run (Tab f) (decimal n ++ l) ≡ run (Digits f n) l
read_number f n l h = run-append (Tab f) (decimal n) l ∙ ap (λ (p : Partial). run p l) (read-decimal f n h)

tab-after : (f : Before) (n : ℕ) → after (Digits f n) 9 ≡ parted f n
unfolding after_digits
tab-after f n = refl

-- a test whether a tab was read behind the word of a kind
abbrev is_begun : ℕ → Partial → Bool
is_begun k (Letters w) = false
is_begun k (Tab (Kind n)) = eqb n k
is_begun k (Tab (First n a)) = false
is_begun k (Tab (Second n a b)) = false
is_begun k (Digits f n) = false
is_begun k Broken = false

is-begun : (k : ℕ) (p : Partial) → is_begun k p ≡ true → p ≡ Tab (Kind k)
is-begun k (Tab (Kind n)) t = ap (λ (x : ℕ). Tab (Kind x)) (eqb-true n k t)
is-begun k (Letters w) t = absurd (false≢true t)
is-begun k (Tab (First n a)) t = absurd (false≢true t)
is-begun k (Tab (Second n a b)) t = absurd (false≢true t)
is-begun k (Digits f n) t = absurd (false≢true t)
is-begun k Broken t = absurd (false≢true t)

read_word : (k : ℕ) → 1 ≤ k → k ≤ last_kind → run fresh (word k ++ (9 ∷ [])) ≡ Tab (Kind k)
unfolding word after_letters kind_of
read_word k lo hi =
    let t = each-kind (λ n. eqb n 0 || is_begun n (run fresh (word n ++ (9 ∷ [])))) refl k hi in
    is-begun k (run fresh (word k ++ (9 ∷ []))) (rw (ne_eqb k 0 (omega arith)) at t)

pub read-printed : (l : Line) → Proper l → read_line (text_of l) ≡ Good l
unfolding read_line row text_of
read-printed l r =
    let k = l.kind in
    let a = l.first in
    let b = l.second in
    let c = l.third in
    let rest : List ℕ = decimal a ++ (9 ∷ (decimal b ++ (9 ∷ decimal c))) in
    ap line_at
    (ap (run fresh) (sym (append_assoc (word k) (9 ∷ []) rest))
    ∙ run-append fresh (word k ++ (9 ∷ [])) rest
    ∙ ap (λ (p : Partial). run p rest) (read_word k r.from_one r.to_last)
    ∙ read_number (Kind k) a (9 ∷ (decimal b ++ (9 ∷ decimal c))) r.one
    ∙ ap (λ (p : Partial). run p (decimal b ++ (9 ∷ decimal c))) (tab-after (Kind k) a)
    ∙ read_number (First k a) b (9 ∷ decimal c) r.two
    ∙ ap (λ (p : Partial). run p (decimal c)) (tab-after (First k a) b)
    ∙ read-decimal (Second k a b) c r.three)
