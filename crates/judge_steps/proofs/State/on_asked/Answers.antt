-- `judge_steps::State::on_asked` meets its contract: refused by its rule, or without effect.
use mathlib.Core.Path.{sym, ◌∙◌}
use Rattle.judge_rules.specs.Rules.{R9_asked}
use Rattle.judge_rules.specs.Verdict.{recorded}
use Rattle.judge_steps.specs.State.{judge_of}
use Rattle.judge_steps.proofs.Tested.{known-is}
use Rattle.judge_steps.proofs.Stepping.{refused, passed}
use Rattle.judge_steps.proofs.State.on_asked.Goals as goal

pub returns-then-not-is_known : goal.returns-then-not-is_known
unfolding recorded judge_of
returns-then-not-is_known c =
    let v = c.args in
    let s = v.self.now in
    refused 9 (R9_asked (judge_of s) v.id) _ (sym (known-is s v.id) ∙ sym c.is_known.ensures ∙ c.if-not-is_known.true)

pub returns : goal.returns
unfolding recorded judge_of
returns c =
    let v = c.args in
    let s = v.self.now in
    passed 9 (R9_asked (judge_of s) v.id) _ (sym (known-is s v.id) ∙ sym c.is_known.ensures ∙ c.if-not-is_known.false)
