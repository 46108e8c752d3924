-- `judge_steps::State::on_create` meets its contract: refused by its rule, too large, or one row more.
use mathlib.Core.Path.{ap, sym, ◌∙◌}
use mathlib.Core.List.{reverse}
use Rattle.std.proofs.lemmas.List.{length-reverse}
use Rattle.judge_tables.proofs.Newest.{newest-more}
use Rattle.judge_rules.specs.Rules.{R2}
use Rattle.judge_rules.specs.Sizes.{most_held, too_many_held}
use Rattle.judge_rules.specs.Verdict.{recorded, with_held}
use Rattle.judge_steps.specs.State.{judge_of}
use Rattle.judge_steps.proofs.Tested.{r2-is}
use Rattle.judge_steps.proofs.Stepping.{refused, none_left, one_more}
use Rattle.judge_steps.proofs.State.on_create.Goals as goal

pub returns-then-not-keeps_r2-clause-does : goal.returns-then-not-keeps_r2-clause-does
unfolding recorded judge_of
returns-then-not-keeps_r2-clause-does c =
    let v = c.args in
    let s = v.self.now in
    refused 2 (R2 (judge_of s) v.handle) _ (sym (r2-is s v.handle) ∙ sym c.keeps_r2.ensures ∙ c.if-not-keeps_r2.true)

pub returns-then-is_full-clause-does : goal.returns-then-is_full-clause-does
unfolding recorded judge_of
returns-then-is_full-clause-does c =
    let v = c.args in
    let s = v.self.now in
    none_left 2 too_many_held most_held _ _ (R2 (judge_of s) v.handle) c.is_full.result _ (sym (r2-is s v.handle) ∙ sym c.keeps_r2.ensures ∙ c.if-not-keeps_r2.false) (length-reverse s.held.items) c.is_full.ensures.value c.if-is_full.true

pub returns-clause-does : goal.returns-clause-does
unfolding recorded judge_of
returns-clause-does c =
    let v = c.args in
    let s = v.self.now in
    one_more 2 too_many_held most_held _ _ (R2 (judge_of s) v.handle) c.is_full.result _ (sym (r2-is s v.handle) ∙ sym c.keeps_r2.ensures ∙ c.if-not-keeps_r2.false) (length-reverse s.held.items) c.is_full.ensures.value c.if-is_full.false c.is_full.ensures.fits _
    (ap (λ z. with_held (judge_of s) z) (ap reverse c.push.ensures.items ∙ newest-more s.held.items v.handle))
