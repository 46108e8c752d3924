-- `judge_steps::State::on_malloc` meets its contract: refused by its rule, too large, or one row more.
use mathlib.Core.Path.{ap, sym, ◌∙◌}
use Rattle.judge_rules.specs.Rules.{R7}
use Rattle.judge_rules.specs.Sizes.{most_live, too_many_live}
use Rattle.judge_rules.specs.Verdict.{answered, with_live}
use Rattle.judge_tables.specs.Rows.{buffer_of, live_in}
use Rattle.judge_steps.specs.State.{judge_of}
use Rattle.judge_steps.proofs.Tested.{r7-is}
use Rattle.judge_steps.proofs.Stepping.{refused, none_left, one_more, length-in, more}
use Rattle.judge_steps.proofs.State.on_malloc.Goals as goal

pub returns-then-not-keeps_r7-clause-does : goal.returns-then-not-keeps_r7-clause-does
unfolding answered judge_of
returns-then-not-keeps_r7-clause-does c =
    let v = c.args in
    let s = v.self.now in
    refused 7 (R7 (judge_of s) v.start v.size) _ (sym (r7-is s v.start v.size) ∙ sym c.keeps_r7.ensures ∙ c.if-not-keeps_r7.true)

pub returns-then-is_full-clause-does : goal.returns-then-is_full-clause-does
unfolding answered judge_of
returns-then-is_full-clause-does c =
    let v = c.args in
    let s = v.self.now in
    none_left 7 too_many_live most_live _ _ (R7 (judge_of s) v.start v.size) c.is_full.result _ (sym (r7-is s v.start v.size) ∙ sym c.keeps_r7.ensures ∙ c.if-not-keeps_r7.false) (length-in buffer_of s.live.items) c.is_full.ensures.value c.if-is_full.true

pub returns-clause-does : goal.returns-clause-does
unfolding answered judge_of
returns-clause-does c =
    let v = c.args in
    let s = v.self.now in
    one_more 7 too_many_live most_live _ _ (R7 (judge_of s) v.start v.size) c.is_full.result _ (sym (r7-is s v.start v.size) ∙ sym c.keeps_r7.ensures ∙ c.if-not-keeps_r7.false) (length-in buffer_of s.live.items) c.is_full.ensures.value c.if-is_full.false c.is_full.ensures.fits _
    (ap (λ z. with_live (judge_of s) z) (ap live_in c.push.ensures.items ∙ more buffer_of s.live.items (record { start = v.start; size = v.size; stream = s.run.asked.second })))
