-- Lines that are printed one after the other are read as they were: no text has a line feed in it, so the rows are the texts.
use mathlib.Core.Path.{◌≡◌, refl, ap, ◌∙◌}
use mathlib.Core.Bool.{false, ◌||◌}
use mathlib.Core.List.{List, [], ◌∷◌, ◌++◌, map, append_assoc}
use Prim.Native.Nat.{ℕ}
use native.Mathlib.Omega.{arith}
use borrow.Author.Tests.{ne_eqb}
use lib.Dec.{eqb}
use Rattle.lists.specs.Tests.{All}
use Rattle.lists.specs.Walks.{joined}
use Rattle.lists.proofs.Tests.{neither, all_implies, all_append}
use Rattle.lists.proofs.Every.{every-all}
use Rattle.trace.specs.Form.{word, decimal, row, text, text_of, printed, Proper}
use Rattle.trace.specs.Reads.{is_digit, reading}
use Rattle.trace.specs.Lines.{rows, lines_of}
use Rattle.trace.specs.declared.Line.{Line}
use Rattle.trace.specs.declared.Reading.TheVariants.{Good}
use Rattle.trace.proofs.Words.{word-plain}
use Rattle.trace.proofs.Numbers.{is_digit_lem, decimal-digits}
use Rattle.trace.proofs.Theorems.{printed_then-read}

abbrev pub NoFeed : List ℕ → Type 0
NoFeed = All (λ b. eqb b 10 ≡ false)

rows-part : (x l : List ℕ) → NoFeed x → rows (x ++ (10 ∷ l)) ≡ x ∷ rows l
rows-part [] l a = refl
rows-part (b ∷ x) l a = rw (a.0, rows-part x l a.1)

-- a line that ends, and what follows it
pub lines_of-line : (x l : List ℕ) → NoFeed x → lines_of (x ++ (10 ∷ l)) ≡ reading x ∷ lines_of l
unfolding lines_of
lines_of-line x l a = ap (map reading) (rows-part x l a)

decimal-no-feed : (n : ℕ) → NoFeed (decimal n)
decimal-no-feed n =
    every-all is_digit (λ b. eqb b 10 ≡ false)
    (λ b t. let is = is_digit_lem b t in ne_eqb b 10 (omega arith))
    (decimal n) (decimal-digits n)

word-no-feed : (k : ℕ) → NoFeed (word k)
word-no-feed k = all_implies (λ b. (eqb b 9 || eqb b 10) ≡ false) (λ b. eqb b 10 ≡ false) (λ b e. (neither (eqb b 9) (eqb b 10) e).1) (word k) (word-plain k)

both-no-feed : (x y : List ℕ) → NoFeed x → NoFeed y → NoFeed (x ++ y)
both-no-feed = all_append (λ b. eqb b 10 ≡ false)

pub row-no-feed : (w : List ℕ) (a b c : ℕ) → NoFeed w → NoFeed (row w a b c)
unfolding row
row-no-feed w a b c h =
    let third : NoFeed (9 ∷ decimal c) = (refl, decimal-no-feed c) in
    let second : NoFeed (9 ∷ (decimal b ++ (9 ∷ decimal c))) = (refl, both-no-feed (decimal b) (9 ∷ decimal c) (decimal-no-feed b) third) in
    both-no-feed w (9 ∷ (decimal a ++ (9 ∷ (decimal b ++ (9 ∷ decimal c))))) h
    (refl, both-no-feed (decimal a) (9 ∷ (decimal b ++ (9 ∷ decimal c))) (decimal-no-feed a) second)

-- a printed line, whatever its numbers
pub lines_of-printed : (l : Line) (rest : List ℕ) → lines_of (printed l ++ rest) ≡ reading (text_of l) ∷ lines_of rest
unfolding text text_of printed
lines_of-printed l rest =
    ap lines_of (append_assoc (text_of l) (10 ∷ []) rest)
    ∙ lines_of-line (text_of l) rest (row-no-feed (word l.kind) l.first l.second l.third (word-no-feed l.kind))

-- a trace that is printed and read is the trace
pub trace-printed_then-read : (ls : List Line) → All Proper ls → lines_of (joined printed ls) ≡ map Good ls
unfolding lines_of
trace-printed_then-read [] a = refl
trace-printed_then-read (l ∷ ls) a =
    lines_of-printed l (joined printed ls) ∙ rw (printed_then-read l a.0, trace-printed_then-read ls a.1)
