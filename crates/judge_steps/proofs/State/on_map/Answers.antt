-- `judge_steps::State::on_map` meets its contract: refused by its rule, too large, or one row more.
use mathlib.Core.Path.{ap, sym, ◌∙◌}
use Rattle.judge_rules.specs.Rules.{R3}
use Rattle.judge_rules.specs.Sizes.{most_mapped, too_many_mapped}
use Rattle.judge_rules.specs.Verdict.{recorded, with_mapped}
use Rattle.judge_tables.specs.Rows.{page_of, pages_in}
use Rattle.judge_steps.specs.State.{judge_of}
use Rattle.judge_steps.proofs.Tested.{r3-is}
use Rattle.judge_steps.proofs.Stepping.{refused, none_left, one_more, length-in, more}
use Rattle.judge_steps.proofs.State.on_map.Goals as goal

pub returns-then-not-keeps_r3-clause-does : goal.returns-then-not-keeps_r3-clause-does
unfolding recorded judge_of
returns-then-not-keeps_r3-clause-does c =
    let v = c.args in
    let s = v.self.now in
    refused 3 (R3 (judge_of s) v.address v.handle) _ (sym (r3-is s v.address v.handle) ∙ sym c.keeps_r3.ensures ∙ c.if-not-keeps_r3.true)

pub returns-then-is_full-clause-does : goal.returns-then-is_full-clause-does
unfolding recorded judge_of
returns-then-is_full-clause-does c =
    let v = c.args in
    let s = v.self.now in
    none_left 3 too_many_mapped most_mapped _ _ (R3 (judge_of s) v.address v.handle) c.is_full.result _ (sym (r3-is s v.address v.handle) ∙ sym c.keeps_r3.ensures ∙ c.if-not-keeps_r3.false) (length-in page_of s.mapped.items) c.is_full.ensures.value c.if-is_full.true

pub returns-clause-does : goal.returns-clause-does
unfolding recorded judge_of
returns-clause-does c =
    let v = c.args in
    let s = v.self.now in
    one_more 3 too_many_mapped most_mapped _ _ (R3 (judge_of s) v.address v.handle) c.is_full.result _ (sym (r3-is s v.address v.handle) ∙ sym c.keeps_r3.ensures ∙ c.if-not-keeps_r3.false) (length-in page_of s.mapped.items) c.is_full.ensures.value c.if-is_full.false c.is_full.ensures.fits _
    (ap (λ z. with_mapped (judge_of s) z) (ap pages_in c.push.ensures.items ∙ more page_of s.mapped.items (record { at = v.address; handle = v.handle })))
