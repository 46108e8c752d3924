-- `judge_steps::State::on_reserve` meets its contract: refused by its rule, too large, or one row more.
use mathlib.Core.Path.{ap, sym, ◌∙◌}
use Rattle.judge_rules.specs.Rules.{R1}
use Rattle.judge_rules.specs.Sizes.{most_reservations, too_many_reservations}
use Rattle.judge_rules.specs.Verdict.{recorded, with_reservations}
use Rattle.judge_tables.specs.Rows.{reservation_of, reservations_in}
use Rattle.judge_steps.specs.State.{judge_of}
use Rattle.judge_steps.proofs.Tested.{r1-is}
use Rattle.judge_steps.proofs.Stepping.{refused, none_left, one_more, length-in, more}
use Rattle.judge_steps.proofs.State.on_reserve.Goals as goal

pub returns-then-not-keeps_r1-clause-does : goal.returns-then-not-keeps_r1-clause-does
unfolding recorded judge_of
returns-then-not-keeps_r1-clause-does c =
    let v = c.args in
    let s = v.self.now in
    refused 1 (R1 (judge_of s) v.base v.size) _ (sym (r1-is s v.base v.size) ∙ sym c.keeps_r1.ensures ∙ c.if-not-keeps_r1.true)

pub returns-then-is_full-clause-does : goal.returns-then-is_full-clause-does
unfolding recorded judge_of
returns-then-is_full-clause-does c =
    let v = c.args in
    let s = v.self.now in
    none_left 1 too_many_reservations most_reservations _ _ (R1 (judge_of s) v.base v.size) c.is_full.result _ (sym (r1-is s v.base v.size) ∙ sym c.keeps_r1.ensures ∙ c.if-not-keeps_r1.false) (length-in reservation_of s.reservations.items) c.is_full.ensures.value c.if-is_full.true

pub returns-clause-does : goal.returns-clause-does
unfolding recorded judge_of
returns-clause-does c =
    let v = c.args in
    let s = v.self.now in
    one_more 1 too_many_reservations most_reservations _ _ (R1 (judge_of s) v.base v.size) c.is_full.result _ (sym (r1-is s v.base v.size) ∙ sym c.keeps_r1.ensures ∙ c.if-not-keeps_r1.false) (length-in reservation_of s.reservations.items) c.is_full.ensures.value c.if-is_full.false c.is_full.ensures.fits _
    (ap (λ z. with_reservations (judge_of s) z) (ap reservations_in c.push.ensures.items ∙ more reservation_of s.reservations.items (record { base = v.base; size = v.size })))
