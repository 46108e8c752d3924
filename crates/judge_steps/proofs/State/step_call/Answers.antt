-- `judge_steps::State::step_call` meets its contract: refused by R0, or a run begins.
use mathlib.Core.Path.{ap, sym, ◌∙◌}
use Rattle.judge_rules.specs.Verdict.{on, with_run}
use Rattle.judge_steps.specs.State.{judge_of}
use Rattle.judge_steps.proofs.LineKinds.{call-refused, call-on}
use Rattle.judge_steps.proofs.State.step_call.Goals as goal

pub returns-then-not-starts_run-clause-does : goal.returns-then-not-starts_run-clause-does
unfolding judge_of
returns-then-not-starts_run-clause-does c =
    let v = c.args in
    call-refused (judge_of v.self.now) v.l v.c (sym c.starts_run.ensures ∙ c.if-not-starts_run.true)

pub returns-clause-does : goal.returns-clause-does
unfolding judge_of
returns-clause-does c =
    let v = c.args in
    ap (λ r. on (with_run (judge_of v.self.now) r)) c.run_on-self.ensures
    ∙ call-on (judge_of v.self.now) v.l v.c (sym c.starts_run.ensures ∙ c.if-not-starts_run.false)
