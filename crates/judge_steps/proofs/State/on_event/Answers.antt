-- `judge_steps::State::on_event` meets its contract: refused by its rule, or the last id.
use mathlib.Core.Path.{sym, ◌∙◌}
use Rattle.judge_rules.specs.Rules.{R9_recorded}
use Rattle.judge_rules.specs.Verdict.{recorded}
use Rattle.judge_steps.specs.State.{judge_of}
use Rattle.judge_steps.proofs.Tested.{rising-is}
use Rattle.judge_steps.proofs.Stepping.{refused, passed}
use Rattle.judge_steps.proofs.State.on_event.Goals as goal

pub returns-then-not-is_rising-clause-does : goal.returns-then-not-is_rising-clause-does
unfolding recorded judge_of
returns-then-not-is_rising-clause-does c =
    let v = c.args in
    let s = v.self.now in
    refused 9 (R9_recorded (judge_of s) v.id) _ (sym (rising-is s v.id) ∙ sym c.is_rising.ensures ∙ c.if-not-is_rising.true)

pub returns-clause-does : goal.returns-clause-does
unfolding recorded judge_of
returns-clause-does c =
    let v = c.args in
    let s = v.self.now in
    passed 9 (R9_recorded (judge_of s) v.id) _ (sym (rising-is s v.id) ∙ sym c.is_rising.ensures ∙ c.if-not-is_rising.false)
