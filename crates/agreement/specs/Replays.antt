-- What replay's input asks for at its opening.
use Rattle.std.specs.Prelude.{List, [], ◌∷◌, ℕ}
use Rattle.trace.specs.Lines.{lines_of}
use Rattle.trace.specs.declared.Line.{Line}
use Rattle.trace.specs.declared.Reading.{Reading}
use Rattle.trace.specs.declared.Reading.TheVariants.{Good, Malformed}
use Rattle.replay_answers.specs.Lending.{passed}
use Rattle.agreement.specs.Runs.{Opening}
use Rattle.tables.specs.Bounds.{LOG}

-- docs/RULES.md 7.3: no override, initial stream 0; the log has room.
abbrev pub opening_by : Line → List ℕ → Opening
opening_by l xs =
    record {
      granularity = l.first;
      override = 0;
      va = l.second;
      initial = l.third;
      stream = 0;
      answers = xs;
      log = LOG;
    }

-- an opening that is refused: its log is short
abbrev pub no_opening : Opening
no_opening = record { granularity = 0; override = 0; va = 0; initial = 0; stream = 0; answers = []; log = 0 }

-- The first line, on the answers lent before the next call line.
abbrev pub opening_in : List Reading → Opening
opening_in [] = no_opening
opening_in (Malformed ∷ ls) = no_opening
opening_in (Good l ∷ ls) = opening_by l (passed [] 2 ls).answers

abbrev pub opening_of : List ℕ → Opening
opening_of input = opening_in (lines_of input)
