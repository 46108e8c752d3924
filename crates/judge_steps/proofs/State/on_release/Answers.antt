-- `judge_steps::State::on_release` meets its contract: refused by its rule, or the rows that stay.
use mathlib.Core.Path.{ap, sym, ◌∙◌}
use mathlib.Core.Bool.{Bool, not}
use lib.Dec.{eqb}
use mathlib.Core.List.{reverse}
use Rattle.std.proofs.Common.{rules}
use Rattle.fixed_rows.proofs.Retained.{filter-from_retain}
use Rattle.judge_rules.specs.Rules.{R5}
use Rattle.judge_rules.specs.Verdict.{on, recorded, with_held}
use Rattle.judge_steps.specs.State.{judge_of}
use Rattle.judge_steps.proofs.Tested.{r5-is}
use Rattle.judge_steps.proofs.Stepping.{refused, passed, rest-plain}
use Prim.Native.Nat.{ℕ}
use Rattle.judge_steps.proofs.State.on_release.Goals as goal

pub returns-then-not-keeps_r5-clause-does : goal.returns-then-not-keeps_r5-clause-does
unfolding recorded judge_of
returns-then-not-keeps_r5-clause-does c =
    let v = c.args in
    let s = v.self.now in
    refused 5 (R5 (judge_of s) v.handle) _ (sym (r5-is s v.handle) ∙ sym c.keeps_r5.ensures ∙ c.if-not-keeps_r5.true)

pub returns-clause-does : goal.returns-clause-does
unfolding recorded judge_of
returns-clause-does c =
    let v = c.args in
    let s = v.self.now in
    let t : ℕ → Bool = λ h. not (eqb h v.handle) in
    let e = filter-from_retain _ (t) _ (λ x b g y k. search rules) _ _ c.retain.ensures.filtered in
    ap (λ z. on (with_held (judge_of s) z)) (ap reverse e ∙ rest-plain t s.held.items)
    ∙ passed 5 (R5 (judge_of s) v.handle) _ (sym (r5-is s v.handle) ∙ sym c.keeps_r5.ensures ∙ c.if-not-keeps_r5.false)
