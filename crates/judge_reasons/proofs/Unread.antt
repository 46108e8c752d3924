-- A line that has nothing wrong but for one part is malformed only where that part is.
use mathlib.Core.Path.{◌≡◌, refl, ap, ◌∙◌}
use mathlib.Core.List.{List, [], ◌∷◌, ◌++◌, append_assoc}
use Prim.Native.Nat.{ℕ}
use native.Mathlib.Omega.{arith}
use lib.ListN.{take}
use Rattle.trace.specs.Form.{word, decimal, row, text_of, line, ReadAs}
use Rattle.trace.specs.Put.{Put}
use Rattle.trace.specs.declared.Reading.{Reading}
use Rattle.trace.specs.declared.Reading.TheVariants.{Malformed}
use Rattle.trace.proofs.Put.{put_front}
use Rattle.judge_reasons.specs.Forms.{NoWord, NoDecimal}

-- three noughts behind the word, and two behind the number, each behind a tab
abbrev three : List ℕ
three = 9 ∷ 48 ∷ 9 ∷ 48 ∷ 9 ∷ 48 ∷ []

abbrev two : List ℕ
two = 9 ∷ 48 ∷ 9 ∷ 48 ∷ []

-- `map` and a tab
abbrev start : List ℕ
start = 109 ∷ 97 ∷ 112 ∷ 9 ∷ []

text-of-word : (k : ℕ) → word k ++ three ≡ text_of (line k 0 0 0)
unfolding text_of row decimal
text-of-word k = refl

zeros : two ≡ 9 ∷ (decimal 0 ++ (9 ∷ decimal 0))
unfolding decimal
zeros = refl

text-of-number : (n : ℕ) → (start ++ decimal n) ++ two ≡ text_of (line 3 n 0 0)
unfolding text_of row word
text-of-number n = append_assoc start (decimal n) two ∙ ap (λ z. start ++ (decimal n ++ z)) zeros

as_malformed : {bytes : List ℕ} {r : Reading} → r ≡ Malformed → ReadAs bytes r → ReadAs bytes Malformed
as_malformed {bytes} e f = rw e at f

pub word_unread : {w l m o : List ℕ} {p q : ℕ} {r : Reading} → Put l m 0 p w → Put m o p q three → ReadAs (take q o) r → r ≡ Malformed → NoWord w
word_unread {w} {l} {m} {o} {p} {q} a b f e k h i s =
    as_malformed {bytes = take q o} e f (line k 0 0 0)
    (record { from_one = h; to_last = i; one = omega arith; two = omega arith; three = omega arith })
    (put_front b ∙ ap (λ z. z ++ three) (put_front a ∙ s) ∙ text-of-word k)

pub decimal_unread : {w l m o x : List ℕ} {p q t : ℕ} {r : Reading} → Put l m 0 p start → Put m o p q w → Put o x q t two →
    ReadAs (take t x) r → r ≡ Malformed → NoDecimal w
decimal_unread {w} {l} {m} {o} {x} {p} {q} {t} a b d f e n h s =
    as_malformed {bytes = take t x} e f (line 3 n 0 0)
    (record { from_one = omega arith; to_last = omega arith; one = h; two = omega arith; three = omega arith })
    (put_front d ∙ ap (λ z. z ++ two) (put_front b ∙ ap (λ z. z ++ w) (put_front a) ∙ ap (λ z. start ++ z) s) ∙ text-of-number n)
