-- `driving::Driver::try_tell` meets its contract: the step goes on, unless no answer is left.
use Rattle.std.proofs.lemmas.Result.{err_from_is_err_and}
use Rattle.driving.proofs.Ran.{next, stop, gave}
use Rattle.driving.proofs.Driver.try_tell.Goals as goal

pub returns-in_err-tell : goal.returns-in_err-tell
returns-in_err-tell c =
    let p = err_from_is_err_and c.from_residual.result c.from_residual.ensures.1 in
    let d = c.in_err-tell.ensures in
    rw (p.1, p.2) (record { lent = d.lent; made = d.made; ran = λ t. stop _ (d.ran t) })

pub returns : goal.returns
returns c =
    let d = c.in_ok-tell.ensures in
    record { lent = d.lent; made = d.made; ran = λ t. next _ (d.ran t) gave }
