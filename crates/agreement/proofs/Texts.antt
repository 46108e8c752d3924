-- A text that begins with printed lines, whatever their numbers, and says only well-formed lines says these lines first: a row's fields are its word and its
-- decimals, and both have only one meaning.
use mathlib.Core.Path.{◌≡◌, refl, sym, ap, ◌∙◌}
use mathlib.Core.Bool.{◌&&◌}
use mathlib.Core.List.{List, [], ◌∷◌, ◌++◌, map, append_assoc}
use Prim.Native.Nat.{ℕ, ◌<◌}
use native.Mathlib.Omega.{arith}
use native.Mathlib.Decide.{dec_le}
use borrow.Author.Tests.{ltb-true}
use lib.Dec.{ltb}
use Rattle.lists.specs.Walks.{joined}
use Rattle.lists.proofs.Tests.{both}
use Rattle.trace.specs.Form.{word, last_kind, decimal, row, text, text_of, line, printed}
use Rattle.trace.specs.Reads.{kind, value, is_number, reading}
use Rattle.trace.specs.Lines.{lines_of}
use Rattle.trace.specs.declared.Line.{Line}
use Rattle.trace.specs.declared.Reading.TheVariants.{Good, Malformed}
use Rattle.trace.proofs.Cases.{by-test}
use Rattle.trace.proofs.Words.{no_word}
use Rattle.trace.proofs.Numbers.{value-decimal}
use Rattle.trace.proofs.Fields.{word-no-tab, fields-row, kind-word}
use Rattle.trace.proofs.Meaning.{never}
use Rattle.trace.proofs.Feeds.{NoFeed, lines_of-line, row-no-feed, lines_of-printed}

-- a kind that has a word is that word's
kind-some : (k : ℕ) → 0 < kind (word k) → kind (word k) ≡ k
unfolding kind
kind-some k some =
    elim (dec_le k last_kind) [
      | yes h ↦ kind-word k h
      | no h ↦ let none : kind (word k) ≡ 0 = ap kind (no_word k (omega arith)) in absurd (omega arith)
    ]

-- A line whose text is read as a line is that line.
text-is : (l m : Line) → reading (text_of l) ≡ Good m → m ≡ l
unfolding reading text_of
text-is l m e =
    let w = word l.kind in
    let a = decimal l.first in
    let b = decimal l.second in
    let c = decimal l.third in
    by-test (λ r. r ≡ Good m → m ≡ l) (ltb 0 (kind w) && is_number a && is_number b && is_number c)
    (λ t g.
    let q = both (ltb 0 (kind w) && is_number a && is_number b) (is_number c) t in
    let r = both (ltb 0 (kind w) && is_number a) (is_number b) q.0 in
    let s = both (ltb 0 (kind w)) (is_number a) r.0 in
    let is : line (kind w) (value 0 a) (value 0 b) (value 0 c) ≡ m = cc in
    sym is ∙ rw (kind-some l.kind (ltb-true 0 (kind w) s.0), value-decimal l.first, value-decimal l.second, value-decimal l.third) refl)
    (λ t. never)
    (rw (fields-row w l.first l.second l.third (word-no-tab l.kind)) at e)

-- The lines that a text says are `front` and those that the rest says.
pub record Begins (front : List Line) (rest : List ℕ) (lines : List Line) : Type 0 where
  pub more : List Line
  pub is : lines ≡ front ++ more
  pub says : lines_of rest ≡ map Good more

begins-more : (l : Line) (front : List Line) (rest : List ℕ) (lines : List Line) → Begins front rest lines → Begins (l ∷ front) rest (l ∷ lines)
begins-more l front rest lines b = record { more = b.more; is = ap (λ (ls : List Line). l ∷ ls) b.is; says = b.says }

pub begins : (front : List Line) (rest : List ℕ) (lines : List Line) → lines_of (joined printed front ++ rest) ≡ map Good lines → Begins front rest lines
begins [] rest lines e = record { more = lines; is = refl; says = e }
begins (l ∷ front) rest lines e =
    go lines (sym (lines_of-printed l (joined printed front ++ rest)) ∙ ap lines_of (sym (append_assoc (printed l) (joined printed front) rest)) ∙ e) (begins front rest)
  where
    go : (ls : List Line) → reading (text_of l) ∷ lines_of (joined printed front ++ rest) ≡ map Good ls →
        ((ms : List Line) → lines_of (joined printed front ++ rest) ≡ map Good ms → Begins front rest ms) → Begins (l ∷ front) rest ls
    go [] d next = absurd (let z : ◌≡◌ {A = ℕ} 0 1 = cc in omega arith)
    go (m ∷ ms) d next =
        let first : reading (text_of l) ≡ Good m = cc in
        let others : lines_of (joined printed front ++ rest) ≡ map Good ms = cc in
        rw (text-is l m first) (begins-more l front rest ms (next ms others))

-- a row of another word is no line
pub not_good : {A : Type 0} (w : List ℕ) (a b c : ℕ) (lines : List Line) → NoFeed w → reading (row w a b c) ≡ Malformed → lines_of (text w a b c) ≡ map Good lines → A
unfolding text
not_good {A} w a b c lines h bad e = go lines (sym (lines_of-line (row w a b c) [] (row-no-feed w a b c h)) ∙ e)
  where
    go : (ls : List Line) → reading (row w a b c) ∷ lines_of [] ≡ map Good ls → A
    go [] d = absurd (let z : ◌≡◌ {A = ℕ} 0 1 = cc in omega arith)
    go (l ∷ ls) d = never (let q : reading (row w a b c) ≡ Good l = cc in sym bad ∙ q)
