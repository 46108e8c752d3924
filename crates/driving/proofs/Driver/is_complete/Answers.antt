-- `driving::Driver::is_complete` meets its contract: complete for the value 1 alone, and an end where no answer is left.
use Rattle.std.proofs.lemmas.Result.{err_from_is_err_and}
use Rattle.driving.proofs.Ran.{next, stop, gave}
use Rattle.driving.proofs.Driver.is_complete.Goals as goal

pub returns-in_err-answer : goal.returns-in_err-answer
returns-in_err-answer c =
    let p = err_from_is_err_and c.from_residual.result c.from_residual.ensures.1 in
    let d = c.in_err-answer.ensures in
    rw (p.1, p.2) (record { lent = d.lent; made = d.made; ran = λ t. stop _ (d.ran t) })

pub returns : goal.returns
returns c =
    let d = c.in_ok-answer.ensures in
    rw c.value.ensures (record { lent = d.lent; made = d.made; ran = λ t. next _ (d.ran t) gave })
