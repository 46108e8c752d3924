-- `judge_steps::State::step_result` meets its contract: refused by R0, without effect, or as its call has it.
use mathlib.Core.Path.{ap, sym, ◌∙◌}
use Rattle.judge_rules.specs.Verdict.{with_run}
use Rattle.judge_steps.specs.State.{judge_of}
use Rattle.judge_steps.proofs.LineKinds.{result-refused, result-failed, result_done, same_refusal}
use Rattle.judge_steps.proofs.State.step_result.Goals as goal

pub returns-then-not-ends_run-clause-does : goal.returns-then-not-ends_run-clause-does
unfolding judge_of
returns-then-not-ends_run-clause-does c =
    let v = c.args in
    result-refused (judge_of v.self.now) v.l (sym c.ends_run.ensures ∙ c.if-not-ends_run.true)

pub returns-then-l-ne0-clause-does : goal.returns-then-l-ne0-clause-does
unfolding judge_of
returns-then-l-ne0-clause-does c =
    let v = c.args in
    result-failed (judge_of v.self.now) v.l (sym c.ends_run.ensures ∙ c.if-not-ends_run.false) c.if-l-ne0.true

pub returns-in-Err-clause-does : goal.returns-in-Err-clause-does
unfolding judge_of
returns-in-Err-clause-does c =
    let v = c.args in
    same_refusal c.in-Err.fault _ _
    ∙ c.in-Err.ensures.does
    ∙ result_done (judge_of v.self.now) v.l (sym c.ends_run.ensures ∙ c.if-not-ends_run.false) c.if-l-ne0.false

pub returns-in-Err-clause-stays : goal.returns-in-Err-clause-stays
unfolding judge_of
returns-in-Err-clause-stays c = ap (λ j. with_run j c.args.self.now.run) c.in-Err.ensures.stays

pub returns-clause-does : goal.returns-clause-does
unfolding judge_of
returns-clause-does c =
    let v = c.args in
    c.in_default.ensures.does
    ∙ result_done (judge_of v.self.now) v.l (sym c.ends_run.ensures ∙ c.if-not-ends_run.false) c.if-l-ne0.false
