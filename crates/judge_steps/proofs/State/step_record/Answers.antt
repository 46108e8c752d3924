-- `judge_steps::State::step_record` meets its contract: refused by R0, or as a record that may stand there has it.
use mathlib.Core.Path.{◌≡◌, refl, ap, sym, ◌∙◌}
use mathlib.Core.Bool.{cond}
use mathlib.Core.List.{List, []}
use lib.Dec.{eqb}
use Rattle.judge_rules.specs.Verdict.{on, recorded, ended, with_live}
use Rattle.judge_tables.specs.Rows.{live_in}
use Rattle.fixed_rows.specs.Rows.{Rows}
use Rattle.judge_rules.specs.declared.Call.TheVariants.{Close}
use Rattle.judge_tables.specs.declared.rows.Live.{Live}
use Rattle.judge_steps.specs.State.{judge_of}
use Rattle.judge_steps.specs.declared.State.{State}
use Rattle.judge_steps.proofs.LineKinds.{record-refused, record_stands, same_refusal}
use Rattle.judge_steps.proofs.State.step_record.Goals as goal

-- without its live buffers a state is as a close ends it
ends : (s : State) → s.run.asked.call ≡ Close → (bs : List Live) → bs ≡ [] → with_live (judge_of s) (live_in bs) ≡ ended s.run.asked.call (judge_of s)
unfolding judge_of
ends s e bs n = ap (λ b. with_live (judge_of s) (live_in b)) n ∙ ap (λ d. ended d (judge_of s)) (sym e)

pub returns-then-not-in_run-clause-does : goal.returns-then-not-in_run-clause-does
unfolding judge_of
returns-then-not-in_run-clause-does c =
    let v = c.args in
    record-refused (judge_of v.self.now) v.l v.word (sym c.in_run.ensures ∙ c.if-not-in_run.true)

pub returns-then-not-ends_live-clause-does : goal.returns-then-not-ends_live-clause-does
unfolding judge_of
returns-then-not-ends_live-clause-does c =
    let v = c.args in
    c.on_standing.ensures.does
    ∙ ap (λ z. cond (eqb v.l.third 0) (recorded v.word z v.l.first v.l.second) (on z)) (sym (c.if-not-ends_live.ensures.goes_on refl))
    ∙ record_stands (judge_of v.self.now) v.l v.word (sym c.in_run.ensures ∙ c.if-not-in_run.false)

pub returns-in-Err-clause-does : goal.returns-in-Err-clause-does
unfolding judge_of
returns-in-Err-clause-does c =
    let v = c.args in
    same_refusal c.in-Err.fault _ _
    ∙ c.in-Err.ensures.does
    ∙ ap (λ z. cond (eqb v.l.third 0) (recorded v.word z v.l.first v.l.second) (on z)) (ends v.self.now (c.if-not-ends_live.ensures.ends refl) _ c.take-live.ensures.after)
    ∙ record_stands (judge_of v.self.now) v.l v.word (sym c.in_run.ensures ∙ c.if-not-in_run.false)

pub returns-in-Err-clause-stays : goal.returns-in-Err-clause-stays
unfolding judge_of
returns-in-Err-clause-stays c =
    let b = live_in c.args.self.now.live.items in
    ap (λ (v : Rows Live). with_live (judge_of c.on_standing-2.new.self) (live_in v.items)) c.take-live.ensures.value
    ∙ ap (λ j. with_live j b) c.in-Err.ensures.stays

pub returns-clause-does : goal.returns-clause-does
unfolding judge_of
returns-clause-does c =
    let v = c.args in
    c.in_default.ensures.does
    ∙ ap (λ z. cond (eqb v.l.third 0) (recorded v.word z v.l.first v.l.second) (on z)) (ends v.self.now (c.if-not-ends_live.ensures.ends refl) _ c.take-live.ensures.after)
    ∙ record_stands (judge_of v.self.now) v.l v.word (sym c.in_run.ensures ∙ c.if-not-in_run.false)
