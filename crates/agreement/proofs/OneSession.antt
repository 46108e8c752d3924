-- Session A to N is one session: the trace that the judge accepts in judge_rules is what the pool's rows in tables come to, line for line.
use mathlib.Core.Path.{◌≡◌, refl}
use mathlib.Core.List.{List, [], ◌∷◌, ◌++◌, map}
use Rattle.lists.specs.Walks.{joined}
use Rattle.tables.specs.Session.{Request, opens, calls, Row}
use Rattle.tables.proofs.AToN.{a_to_n}
use Rattle.trace.specs.Kinds.{of_record, open_line}
use Rattle.trace.specs.declared.Line.{Line}
use Rattle.trace.specs.declared.Reading.TheVariants.{Good}
use Rattle.replay_lines.specs.Traced.{line_of, result_of}
use Rattle.judge_rules.proofs.Sessions.{session}

abbrev asked : Request → Line
asked (opens page va initial) = open_line page va initial
asked (calls c) = line_of c

abbrev row_lines : Row → List Line
row_lines r = asked r.request ∷ (map of_record r.records ++ (result_of r.result ∷ []))

one_session : session ≡ map Good (joined row_lines a_to_n)
one_session = refl
