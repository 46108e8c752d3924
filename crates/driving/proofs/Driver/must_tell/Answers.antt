-- `driving::Driver::must_tell` meets its contract: by the answer, the step goes on or ends.
use Rattle.std.proofs.lemmas.Result.{err_from_is_err_and}
use Rattle.driving.proofs.Ran.{next, stop, gave, ended}
use Rattle.driving.proofs.Endings.{not_failed}
use Rattle.driving.proofs.Driver.must_tell.Goals as goal

pub returns-in_err-code : goal.returns-in_err-code
returns-in_err-code c =
    let p = err_from_is_err_and c.from_residual.result c.from_residual.ensures.1 in
    let d = c.in_err-code.ensures in
    rw (p.1, p.2) (record { lent = d.lent; made = d.made; ran = λ t. stop _ (d.ran t) })

pub returns-in-Failed : goal.returns-in-Failed
returns-in-Failed c =
    let d = c.in_ok-code.ensures in
    record { lent = d.lent; made = d.made; ran = λ t. next _ (d.ran t) (rw c.in-Failed.is ended) }

pub returns-in_default : goal.returns-in_default
returns-in_default c =
    let d = c.in_ok-code.ensures in
    record { lent = d.lent; made = d.made; ran = λ t. next _ (d.ran t) (rw (not_failed c.in_ok-code.field-0 c.in_default.not-Failed) gave) }
