-- `calls::leaving::leave` meets its contract: as at entry for 17, else by the state.
use mathlib.Core.Path.{sym, ◌∙◌}
use Rattle.calls.proofs.Left.{left-ran_out, left_by_lem}
use Rattle.calls.proofs.leaving.leave.Goals as goal

pub returns-in_default : goal.returns-in_default
returns-in_default c =
    let a = c.args in
    rw (← c.outcome_of-outcome.ensures)
    (c.leave_short.ensures ∙ sym (left-ran_out a.pool a.left _ a.made (sym c.state_after.ensures ∙ c.in_default.is)))

pub returns : goal.returns
returns c =
    let a = c.args in
    rw (← c.outcome_of-outcome.ensures)
    (sym (left_by_lem a.pool a.left _ a.made c.requires (sym c.state_after.ensures ∙ c.in-Some.is)))
