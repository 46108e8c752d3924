-- A line read byte by byte, in the code's words. What it comes to is said by Form and Reads alone: proofs/Meaning.antt, proofs/Fields.antt.
use Rattle.std.specs.Prelude.{Bool, false, cond, ◌&&◌, List, [], ◌∷◌, map, ℕ, ◌+◌, ◌-◌, ◌*◌, ◌^◌, ltb, leb, eqb, Option, Some, None}
use Rattle.trace.specs.Form.{words, line}
use Rattle.trace.specs.Reads.{counted, is_digit}
use Rattle.trace.specs.declared.Reading.{Reading}
use Rattle.trace.specs.declared.Reading.TheVariants.{Good, Malformed}
use Rattle.trace.specs.declared.Before.{Before}
use Rattle.trace.specs.declared.Before.TheVariants.{Kind, First, Second}
use Rattle.trace.specs.declared.Partial.{Partial}
use Rattle.trace.specs.declared.Partial.TheVariants.{Letters, Tab, Digits, Broken}

-- letters as the digits of a number in base 256
abbrev pub packed : ℕ → List ℕ → ℕ
packed w [] = w
packed w (b ∷ l) = packed (w * 256 + b) l

abbrev pub codes : List ℕ
codes = map (packed 0) words

unfoldable pub kind_of : ℕ → ℕ
kind_of w = counted (eqb w) 1 codes

-- a kind, where there is one
abbrev pub known : ℕ → Option ℕ
known k = cond (eqb k 0) None (Some k)

abbrev pub is_letter : ℕ → Bool
is_letter b = leb 97 b && leb b 122

-- a tab after a word
abbrev pub begun : ℕ → Partial
begun k = cond (eqb k 0) Broken (Tab (Kind k))

-- one letter more, of sixteen at the most
unfoldable pub after_letters : ℕ → ℕ → Partial
after_letters w b =
    cond (eqb b 9) (begun (kind_of w))
    (cond (is_letter b && ltb w (2 ^ 120)) (Letters (w * 256 + b)) Broken)

-- a tab after a number
abbrev pub parted : Before → ℕ → Partial
parted (Kind k) n = Tab (First k n)
parted (First k a) n = Tab (Second k a n)
parted (Second k a b) n = Broken

unfoldable pub after_tab : Before → ℕ → Partial
after_tab f b = cond (is_digit b) (Digits f (b - 48)) Broken

-- a number, where it fits
abbrev pub fitting : ℕ → Option ℕ
fitting n = cond (ltb n (2 ^ 64)) (Some n) None

-- one digit more: none after a 0, and no number of 2^64 or more
abbrev pub more : Before → ℕ → ℕ → Partial
more f n d = cond (ltb 0 n && ltb (n * 10 + d) (2 ^ 64)) (Digits f (n * 10 + d)) Broken

unfoldable pub after_digits : Before → ℕ → ℕ → Partial
after_digits f n b = cond (eqb b 9) (parted f n) (cond (is_digit b) (more f n (b - 48)) Broken)

-- before the first byte
abbrev pub fresh : Partial
fresh = Letters 0

-- one byte more
abbrev pub after : Partial → ℕ → Partial
after (Letters w) b = after_letters w b
after (Tab f) b = after_tab f b
after (Digits f n) b = after_digits f n b
after Broken b = Broken

abbrev pub run : Partial → List ℕ → Partial
run p [] = p
run p (b ∷ l) = run (after p b) l

-- what a line says that ends here
abbrev pub full : Before → ℕ → Reading
full (Kind k) n = Malformed
full (First k a) n = Malformed
full (Second k a b) n = Good (line k a b n)

abbrev pub line_at : Partial → Reading
line_at (Letters w) = Malformed
line_at (Tab f) = Malformed
line_at (Digits f n) = full f n
line_at Broken = Malformed

-- no byte of a line is read
abbrev pub is_fresh : Partial → Bool
is_fresh (Letters w) = eqb w 0
is_fresh (Tab f) = false
is_fresh (Digits f n) = false
is_fresh Broken = false

-- a whole line
unfoldable pub read_line : List ℕ → Reading
read_line l = line_at (run fresh l)
