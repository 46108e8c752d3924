-- `trace::kind_of` meets its contract: the rows of the table are the codes of the words.
use mathlib.Core.Path.{◌∙◌}
use Rattle.std.specs.Prelude.{Some, None}
use Rattle.trace.proofs.Codes.{known_placed}
use Rattle.trace.proofs.kind_of.Goals as goal

pub returns-in_err-place : goal.returns-in_err-place
returns-in_err-place c = c.from_residual.ensures ∙ known_placed c.args.letters None c.in_err-place.ensures

pub returns : goal.returns
returns c = known_placed c.args.letters (Some c.in_ok-place.place) c.in_ok-place.ensures
