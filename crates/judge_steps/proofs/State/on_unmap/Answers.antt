-- `judge_steps::State::on_unmap` meets its contract: refused by its rule, or the rows that stay.
use mathlib.Core.Path.{ap, sym, ◌∙◌}
use mathlib.Core.Bool.{not}
use Rattle.std.proofs.Common.{rules}
use Rattle.fixed_rows.proofs.Retained.{filter-from_retain}
use Rattle.judge_rules.specs.Ranges.{inside}
use Rattle.judge_rules.specs.Rules.{R4}
use Rattle.judge_rules.specs.Verdict.{on, recorded, with_mapped}
use Rattle.judge_tables.specs.Rows.{page_of, pages_in}
use Rattle.judge_steps.specs.State.{judge_of}
use Rattle.judge_steps.proofs.Tested.{r4-is}
use Rattle.judge_steps.proofs.Stepping.{refused, passed, rest}
use Rattle.judge_steps.proofs.State.on_unmap.Goals as goal

pub returns-then-not-keeps_r4-clause-does : goal.returns-then-not-keeps_r4-clause-does
unfolding recorded judge_of
returns-then-not-keeps_r4-clause-does c =
    let v = c.args in
    let s = v.self.now in
    refused 4 (R4 (judge_of s) v.address v.bytes) _ (sym (r4-is s v.address v.bytes) ∙ sym c.keeps_r4.ensures ∙ c.if-not-keeps_r4.true)

pub returns-clause-does : goal.returns-clause-does
unfolding recorded judge_of
returns-clause-does c =
    let v = c.args in
    let s = v.self.now in
    let e = filter-from_retain _ (λ p. not (inside v.address v.bytes p.at)) _ (λ x b g y k. search rules) _ _ c.retain.ensures.filtered in
    ap (λ z. on (with_mapped (judge_of s) z)) (ap pages_in e ∙ rest page_of (λ p. not (inside v.address v.bytes p.at)) s.mapped.items)
    ∙ passed 4 (R4 (judge_of s) v.address v.bytes) _ (sym (r4-is s v.address v.bytes) ∙ sym c.keeps_r4.ensures ∙ c.if-not-keeps_r4.false)
