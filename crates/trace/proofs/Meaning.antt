-- What is read as a line is its text: each part of a line that the machine holds stands for the bytes that were read.
use mathlib.Core.Path.{◌≡◌, refl, sym, ap, ◌∙◌}
use mathlib.Core.List.{List, [], ◌∷◌, ◌++◌, append_assoc, append-nil}
use mathlib.Core.Bool.{cond, ◌&&◌}
use Prim.Native.Nat.{ℕ, zero, suc, ◌+◌, ◌-◌, ◌*◌, ◌/◌, ◌%◌, ◌<◌, ◌≤◌, ◌^◌}
use native.Mathlib.Omega.{arith}
use borrow.Author.Tests.{eq-eqb, ne_eqb, eqb-true, eqb-false, leb-true, ltb-true}
use lib.Dec.{ltb, leb, eqb}
use Rattle.lists.specs.Tests.{same}
use Rattle.lists.proofs.Tests.{both}
use Rattle.lists.proofs.Pairs.{same-is}
use Rattle.trace.specs.Form.{word, last_kind, decimal, row, text_of, Proper, ReadAs, line}
use Rattle.trace.specs.Reads.{is_digit}
use Rattle.trace.specs.Machine.{
  packed,
  kind_of,
  is_letter,
  after_letters,
  parted,
  after_tab,
  after_digits,
  fresh,
  after,
  run,
  line_at,
  read_line,
}
use Rattle.trace.specs.declared.Line.{Line}
use Rattle.trace.specs.declared.Reading.{Reading}
use Rattle.trace.specs.declared.Reading.TheVariants.{Good, Malformed}
use Rattle.trace.specs.declared.Before.{Before}
use Rattle.trace.specs.declared.Before.TheVariants.{Kind, First, Second}
use Rattle.trace.specs.declared.Partial.{Partial}
use Rattle.trace.specs.declared.Partial.TheVariants.{Letters, Tab, Digits, Broken}
use Rattle.trace.proofs.Cases.{by-test}
use Rattle.trace.proofs.Words.{each_word}
use Rattle.trace.proofs.Codes.{kind_of-within, kind_of-code}
use Rattle.trace.proofs.Decimal.{one-digit, one_more}
use Rattle.trace.proofs.Numbers.{is_digit_lem}
use Rattle.trace.proofs.Printed.{read-printed}

-- the letters that a number stands for
abbrev letters_in : ℕ → ℕ → List ℕ
letters_in zero w = []
letters_in (suc k) w = let rest = letters_in k (w / 256) in cond (eqb w 0) [] (rest ++ ((w % 256) ∷ []))

letters : ℕ → List ℕ
letters w = letters_in w w

enough : (k j w : ℕ) → w ≤ k → w ≤ j → letters_in k w ≡ letters_in j w
enough zero zero w h g = refl
enough zero (suc j) w h g = simp (eq-eqb w 0 (omega arith))
enough (suc k) zero w h g = simp (eq-eqb w 0 (omega arith))
enough (suc k) (suc j) w h g = rw (enough k j (w / 256) (omega arith) (omega arith))

letter-in : (k w b : ℕ) → 0 < b → b < 256 → w * 256 + b ≤ k → letters_in k (w * 256 + b) ≡ letters_in w w ++ (b ∷ [])
letter-in zero w b h g i = absurd (omega arith)
letter-in (suc k) w b h g i =
    let q : (w * 256 + b) / 256 ≡ w = omega arith in
    let r : (w * 256 + b) % 256 ≡ b = omega arith in
    simp (ne_eqb (w * 256 + b) 0 (omega arith), q, r, enough k w w (omega arith) (omega arith))

letter : (w b : ℕ) → 0 < b → b < 256 → letters (w * 256 + b) ≡ letters w ++ (b ∷ [])
unfolding letters
letter w b h g = letter-in (w * 256 + b) w b h g (omega arith)

kind_spelled : (n : ℕ) → (kind_of n ≡ 0 → ⊥) → letters n ≡ word (kind_of n)
unfolding letters
kind_spelled n h =
    let w = word (kind_of n) in
    ap letters (kind_of-code n h) ∙ same-is (letters (packed 0 w)) w (each_word (λ x. same (letters (packed 0 x)) x) refl (kind_of n))

-- what a part of a line says of the bytes that were read
abbrev text_before : Before → List ℕ
text_before (Kind k) = word k ++ (9 ∷ [])
text_before (First k a) = word k ++ (9 ∷ (decimal a ++ (9 ∷ [])))
text_before (Second k a b) = word k ++ (9 ∷ (decimal a ++ (9 ∷ (decimal b ++ (9 ∷ [])))))

abbrev Within : Before → Type 0
Within (Kind k) = (1 ≤ k) × (k ≤ last_kind)
Within (First k a) = ((1 ≤ k) × (k ≤ last_kind)) × (a < 2 ^ 64)
Within (Second k a b) = ((1 ≤ k) × (k ≤ last_kind)) × ((a < 2 ^ 64) × (b < 2 ^ 64))

abbrev Means : Partial → List ℕ → Type 0
Means (Letters w) l = l ≡ letters w
Means (Tab f) l = Within f × (l ≡ text_before f)
Means (Digits f n) l = (Within f × (n < 2 ^ 64)) × (l ≡ text_before f ++ decimal n)
Means Broken l = Unit {0}

letters_means : (w b : ℕ) (l : List ℕ) → l ≡ letters w → Means (after_letters w b) (l ++ (b ∷ []))
unfolding after_letters
letters_means w b l m =
    by-test (λ p. Means p (l ++ (b ∷ []))) (eqb b 9)
    (λ t.
    by-test (λ p. Means p (l ++ (b ∷ []))) (eqb (kind_of w) 0)
    (λ u. tt)
    (λ u. (kind_of-within w (eqb-false (kind_of w) 0 u), rw (m, kind_spelled w (eqb-false (kind_of w) 0 u), eqb-true b 9 t))))
    (λ t.
    by-test (λ p. Means p (l ++ (b ∷ []))) (is_letter b && ltb w (2 ^ 120))
    (λ u.
    let is = both (leb 97 b) (leb b 122) (both (is_letter b) (ltb w (2 ^ 120)) u).0 in
    let above : 97 ≤ b = leb-true 97 b is.0 in
    let below : b ≤ 122 = leb-true b 122 is.1 in
    rw m (sym (letter w b (omega arith) (omega arith))))
    (λ u. tt))

tab_means : (f : Before) (b : ℕ) (l : List ℕ) → Means (Tab f) l → Means (after_tab f b) (l ++ (b ∷ []))
unfolding after_tab
tab_means f b l m =
    by-test (λ p. Means p (l ++ (b ∷ []))) (is_digit b)
    (λ t.
    let is = is_digit_lem b t in
    let e : 48 + (b - 48) ≡ b = omega arith in
    ((m.0, omega arith), rw (m.1, one-digit (b - 48) (omega arith), e)))
    (λ t. tt)

parted_means : (f : Before) (n : ℕ) (l : List ℕ) → Means (Digits f n) l → Means (parted f n) (l ++ (9 ∷ []))
parted_means (Kind k) n l m = ((m.0.0, m.0.1), rw m.1 (simp append_assoc))
parted_means (First k a) n l m = ((m.0.0.0, (m.0.0.1, m.0.1)), rw m.1 (simp append_assoc))
parted_means (Second k a b) n l m = tt

digits_means : (f : Before) (n b : ℕ) (l : List ℕ) → Means (Digits f n) l → Means (after_digits f n b) (l ++ (b ∷ []))
unfolding after_digits
digits_means f n b l m =
    by-test (λ p. Means p (l ++ (b ∷ []))) (eqb b 9)
    (λ t. rw (eqb-true b 9 t) (parted_means f n l m))
    (λ t.
    by-test (λ p. Means p (l ++ (b ∷ []))) (is_digit b)
    (λ u.
    by-test (λ p. Means p (l ++ (b ∷ []))) (ltb 0 n && ltb (n * 10 + (b - 48)) (2 ^ 64))
    (λ v.
    let is = is_digit_lem b u in
    let fit = both (ltb 0 n) (ltb (n * 10 + (b - 48)) (2 ^ 64)) v in
    let e : 48 + (b - 48) ≡ b = omega arith in (
      (m.0.0, ltb-true (n * 10 + (b - 48)) (2 ^ 64) fit.1),
      rw (m.1, one_more n (b - 48) (ltb-true 0 n fit.0) (omega arith), e) (simp append_assoc),
    ))
    (λ v. tt))
    (λ u. tt))

means : (p : Partial) (b : ℕ) (l : List ℕ) → Means p l → Means (after p b) (l ++ (b ∷ []))
means (Letters w) b l m = letters_means w b l m
means (Tab f) b l m = tab_means f b l m
means (Digits f n) b l m = digits_means f n b l m
means Broken b l m = tt

run_means : (p : Partial) (l m : List ℕ) → Means p l → Means (run p m) (l ++ m)
run_means p l [] h = rw append-nil h
run_means p l (b ∷ m) h = rw append_assoc at (run_means (after p b) (l ++ (b ∷ [])) m (means p b l h))

pub never : {l : Line} {A : Type 0} → Malformed ≡ Good l → A
never e = absurd (let z : ◌≡◌ {A = ℕ} 0 1 = cc in omega arith)

line_means : (p : Partial) (bytes : List ℕ) (l : Line) → Means p bytes → line_at p ≡ Good l → Proper l × (bytes ≡ text_of l)
unfolding row text_of
line_means (Letters w) bytes l m e = never e
line_means (Tab f) bytes l m e = never e
line_means (Digits (Kind k) n) bytes l m e = never e
line_means (Digits (First k a) n) bytes l m e = never e
line_means (Digits (Second k a b) n) bytes l m e =
    let same : line k a b n ≡ l = cc in
    rw (← same) (
      record {
        from_one = m.0.0.0.0;
        to_last = m.0.0.0.1;
        one = m.0.0.1.0;
        two = m.0.0.1.1;
        three = m.0.1;
      },
      m.1 ∙ simp append_assoc,
    )
line_means Broken bytes l m e = never e

sound : (bytes : List ℕ) (l : Line) → read_line bytes ≡ Good l → Proper l × (bytes ≡ text_of l)
unfolding read_line letters
sound bytes l e = line_means (run fresh bytes) bytes l (run_means fresh [] bytes refl) e

-- the machine answers what reading must
pub read_as : (bytes : List ℕ) → ReadAs bytes (read_line bytes)
read_as bytes = go (read_line bytes) refl
  where
    go : (r : Reading) → read_line bytes ≡ r → ReadAs bytes r
    go (Good l) e = sound bytes l e
    go Malformed e = λ l p is. never (sym e ∙ ap read_line is ∙ read-printed l p)

-- and there is no other answer
pub only : (bytes : List ℕ) (r : Reading) → ReadAs bytes r → r ≡ read_line bytes
only bytes (Good l) is = sym (ap read_line is.1 ∙ read-printed l is.0)
only bytes Malformed bad = go (read_line bytes) refl
  where
    go : (r : Reading) → read_line bytes ≡ r → Malformed ≡ read_line bytes
    go (Good l) e = let is = sound bytes l e in absurd (bad l is.0 is.1)
    go Malformed e = sym e
