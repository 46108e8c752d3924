-- `judge_steps::State::on_free` meets its contract: refused by its rule, or the rows that stay.
use mathlib.Core.Path.{ap, sym, ◌∙◌}
use mathlib.Core.Bool.{not}
use lib.Dec.{eqb}
use Rattle.std.proofs.Common.{rules}
use Rattle.fixed_rows.proofs.Retained.{filter-from_retain}
use Rattle.judge_rules.specs.Rules.{R8}
use Rattle.judge_rules.specs.Verdict.{on, answered, with_live}
use Rattle.judge_tables.specs.Rows.{buffer_of, live_in}
use Rattle.judge_steps.specs.State.{judge_of}
use Rattle.judge_steps.proofs.Tested.{r8-is}
use Rattle.judge_steps.proofs.Stepping.{refused, passed, rest}
use Rattle.judge_steps.proofs.State.on_free.Goals as goal

pub returns-then-not-keeps_r8-clause-does : goal.returns-then-not-keeps_r8-clause-does
unfolding answered judge_of
returns-then-not-keeps_r8-clause-does c =
    let v = c.args in
    let s = v.self.now in
    refused 8 (R8 (judge_of s) v.size v.stream) _ (sym (r8-is s v.size v.stream) ∙ sym c.keeps_r8.ensures ∙ c.if-not-keeps_r8.true)

pub returns-clause-does : goal.returns-clause-does
unfolding answered judge_of
returns-clause-does c =
    let v = c.args in
    let s = v.self.now in
    let e = filter-from_retain _ (λ b. not (eqb b.start s.run.asked.first)) _ (λ x b g y k. search rules) _ _ c.retain.ensures.filtered in
    ap (λ z. on (with_live (judge_of s) z)) (ap live_in e ∙ rest buffer_of (λ b. not (eqb b.start s.run.asked.first)) s.live.items)
    ∙ passed 8 (R8 (judge_of s) v.size v.stream) _ (sym (r8-is s v.size v.stream) ∙ sym c.keeps_r8.ensures ∙ c.if-not-keeps_r8.false)
