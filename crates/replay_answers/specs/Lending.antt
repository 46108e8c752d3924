-- docs/RULES.md 7.1: the answers that the lines of a trace lend to a call.
use Rattle.std.specs.Prelude.{Bool, cond, ◌||◌, ◌&&◌, not, List, [], ◌∷◌, ◌++◌, ℕ, ◌+◌, leb, eqb}
use Rattle.words.specs.Words.{number}
use Rattle.words.specs.declared.Word.TheVariants.{Reserve, Create, Asked}
use Rattle.trace.specs.Kinds.{last_driver, RESULT}
use Rattle.trace.specs.declared.Line.{Line}
use Rattle.trace.specs.declared.Reading.{Reading}
use Rattle.trace.specs.declared.Reading.TheVariants.{Good, Malformed}

-- the words by their kinds
abbrev pub is_driver : Line → Bool
is_driver l = leb l.kind last_driver

-- a result, or a small buffer's line between calls: every kind from `result` on
abbrev pub is_passed_over : Line → Bool
is_passed_over l = leb RESULT l.kind

unfoldable pub is_call : Line → Bool
is_call l = not (is_driver l) && not (is_passed_over l)

-- A driver line lends its code, and as value the base or the handle, whether the event is complete, or 0.
unfoldable pub value_in : Line → ℕ
value_in l =
    cond (eqb l.kind (number Reserve) || eqb l.kind (number Create)) l.first
    (cond (eqb l.kind (number Asked)) l.second 0)

abbrev pub answer_in : Line → List ℕ
answer_in l = l.third ∷ value_in l ∷ []

-- What lines come to while no call stands in them: the answers lent so far, the number of the next line, and what is left.
pub record Passed : Type 0 where
  pub answers : List ℕ
  pub number : ℕ
  pub rest : List Reading

abbrev pub passed : List ℕ → ℕ → List Reading → Passed
passed xs n [] = record { answers = xs; number = n; rest = [] }
passed xs n (Malformed ∷ ls) = record { answers = xs; number = n; rest = Malformed ∷ ls }
passed xs n (Good l ∷ ls) =
    cond (is_driver l) (passed (xs ++ answer_in l) (n + 1) ls)
    (cond (is_passed_over l) (passed xs (n + 1) ls) (record { answers = xs; number = n; rest = Good l ∷ ls }))
