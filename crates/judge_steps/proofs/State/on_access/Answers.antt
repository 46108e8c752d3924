-- `judge_steps::State::on_access` meets its contract: refused by its rule, or without effect.
use mathlib.Core.Path.{sym, ◌∙◌}
use Rattle.judge_rules.specs.Rules.{R6}
use Rattle.judge_rules.specs.Verdict.{recorded}
use Rattle.judge_steps.specs.State.{judge_of}
use Rattle.judge_steps.proofs.Tested.{r6-is}
use Rattle.judge_steps.proofs.Stepping.{refused, passed}
use Rattle.judge_steps.proofs.State.on_access.Goals as goal

pub returns-then-not-is_whole : goal.returns-then-not-is_whole
unfolding recorded judge_of
returns-then-not-is_whole c =
    let v = c.args in
    let s = v.self.now in
    refused 6 (R6 (judge_of s) v.address v.bytes) _ (sym (r6-is s v.address v.bytes) ∙ sym c.is_whole.ensures ∙ c.if-not-is_whole.true)

pub returns : goal.returns
unfolding recorded judge_of
returns c =
    let v = c.args in
    let s = v.self.now in
    passed 6 (R6 (judge_of s) v.address v.bytes) _ (sym (r6-is s v.address v.bytes) ∙ sym c.is_whole.ensures ∙ c.if-not-is_whole.false)
