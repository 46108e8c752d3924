-- `judge_steps::State::on_giveback` meets its contract: refused by its rule, or the rows that stay.
use mathlib.Core.Path.{ap, sym, ◌∙◌}
use mathlib.Core.Bool.{not}
use lib.Dec.{eqb}
use Rattle.std.proofs.Common.{rules}
use Rattle.fixed_rows.proofs.Retained.{filter-from_retain}
use Rattle.judge_rules.specs.Rules.{R10}
use Rattle.judge_rules.specs.Verdict.{on, recorded, with_reservations}
use Rattle.judge_tables.specs.Rows.{reservation_of, reservations_in}
use Rattle.judge_steps.specs.State.{judge_of}
use Rattle.judge_steps.proofs.Tested.{r10-is}
use Rattle.judge_steps.proofs.Stepping.{refused, passed, rest}
use Rattle.judge_steps.proofs.State.on_giveback.Goals as goal

pub returns-then-not-keeps_r10-clause-does : goal.returns-then-not-keeps_r10-clause-does
unfolding recorded judge_of
returns-then-not-keeps_r10-clause-does c =
    let v = c.args in
    let s = v.self.now in
    refused 10 (R10 (judge_of s) v.base v.size) _ (sym (r10-is s v.base v.size) ∙ sym c.keeps_r10.ensures ∙ c.if-not-keeps_r10.true)

pub returns-clause-does : goal.returns-clause-does
unfolding recorded judge_of
returns-clause-does c =
    let v = c.args in
    let s = v.self.now in
    let e = filter-from_retain _ (λ r. not (eqb r.base v.base)) _ (λ x b g y k. search rules) _ _ c.retain.ensures.filtered in
    ap (λ z. on (with_reservations (judge_of s) z)) (ap reservations_in e ∙ rest reservation_of (λ r. not (eqb r.base v.base)) s.reservations.items)
    ∙ passed 10 (R10 (judge_of s) v.base v.size) _ (sym (r10-is s v.base v.size) ∙ sym c.keeps_r10.ensures ∙ c.if-not-keeps_r10.false)
