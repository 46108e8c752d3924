-- `trace::Line::put` meets its contract: the word's letters, then the numbers.
use Rattle.std.proofs.Common.{ap}
use Rattle.std.proofs.Common.{arith, length-append}
use Rattle.std.specs.Prelude.{List, ℕ, ◌≡◌, ◌<◌, ◌^◌, ◌≤◌, length}
use Rattle.trace.specs.Bounds.{longest_word, longest_line}
use Rattle.trace.proofs.Words.{length-word}
use Rattle.trace.specs.Form.{word, row, text, printed}
use Rattle.trace.specs.Put.{Put}
use Rattle.trace.specs.declared.Line.{Line}
use Rattle.trace.proofs.Decimal.{at-most_twenty}
use Rattle.trace.proofs.Put.{put_as}
use Rattle.trace.proofs.Line.put.Goals as goal

pub put_text-requires : goal.put_text-requires
put_text-requires c = let w : length c.word-word.result.now ≤ longest_word = rw c.word-word.ensures (length-word c.args.self.kind) in omega arith

put-printed : {out out' : List ℕ} {at r : ℕ} {w : List ℕ} (l : Line) → w ≡ word l.kind → Put out out' at r (text w l.first l.second l.third) → Put out out' at r (printed l)
unfolding printed
put-printed l e p = put_as (ap (λ (x : List ℕ). text x l.first l.second l.third) e) p

length-printed : (l : Line) → l.first < 2 ^ 64 → l.second < 2 ^ 64 → l.third < 2 ^ 64 → length (printed l) ≤ longest_line
unfolding printed row text
length-printed l a b c =
    simp length-append (omega (arith, length-word l.kind, at-most_twenty l.first a, at-most_twenty l.second b, at-most_twenty l.third c))

pub returns : goal.returns
returns c =
    let l = c.args.self in
    let p = put-printed l c.word-word.ensures c.put_text.ensures in
    let n = length-printed l (omega arith) (omega arith) (omega arith) in
    record { puts = p; within = omega (arith, p.next, n) }
