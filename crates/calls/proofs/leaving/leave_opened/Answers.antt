-- `calls::leaving::leave_opened` meets its contract: closed for 17 or no root, else by the state.
use mathlib.Core.Path.{◌≡◌, ap, sym, ◌∙◌}
use native.Mathlib.Omega.{arith}
use Rattle.tables.specs.Values.{tables_of, pool_of}
use Rattle.calls.proofs.States.{is-short-open, is-left-open}
use Rattle.calls.proofs.Left.{with-state}
use Rattle.calls.proofs.Opening.{opened-short, opened-none, opened_by}
use Rattle.calls.proofs.leaving.leave_opened.Goals as goal

pub returns-in_default : goal.returns-in_default
returns-in_default c =
    let a = c.args in
    rw (← c.outcome_of-outcome.ensures)
    (rw c.closed-value.ensures at c.leave_short.ensures ∙ sym (opened-short a.left _ a.made (is-short-open _ (sym c.opened_after.ensures ∙ c.in_default.is))))

pub returns-then-left-gt0 : goal.returns-then-left-gt0
returns-then-left-gt0 c =
    let a = c.args in
    let o = c.outcome_of-outcome.result in
    let w = is-left-open o (sym c.opened_after.ensures ∙ c.in-Some.is) in
    rw (← c.outcome_of-outcome.ensures)
    (ap (λ q. record { pool = record { value = q }; outcome = o; records = a.made; taken = a.made })
    (with-state _ a.left c.requires ∙ ap (λ n. pool_of n (tables_of a.left)) w.1)
    ∙ sym (opened_by a.left o a.made w.0 c.requires (λ z. omega (arith, z, c.if-left-gt0.true))))

pub returns-else-left-gt0 : goal.returns-else-left-gt0
returns-else-left-gt0 c =
    let a = c.args in
    let o = c.outcome_of-outcome.result in
    let w = is-left-open o (sym c.opened_after.ensures ∙ c.in-Some.is) in
    rw (← c.outcome_of-outcome.ensures)
    (ap (λ q. record { pool = record { value = q }; outcome = o; records = a.made; taken = a.made }) c.closed-value.ensures
    ∙ sym (opened-none a.left o a.made w.0 c.requires (omega (arith, c.if-left-gt0.false))))
