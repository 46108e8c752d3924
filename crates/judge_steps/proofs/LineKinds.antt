-- A line's step by its kind: R0, then what a call line, a record or a result does to the state.
use mathlib.Core.Path.{◌≡◌, refl, sym, ◌∙◌}
use mathlib.Core.Bool.{true, false, and-false, cond}
use mathlib.Core.Logic.{◌⊎◌, inl, inr}
use Prim.Native.Nat.{ℕ, ◌≤◌}
use borrow.Author.Tests.{eq-eqb, ne_eqb}
use lib.Dec.{eqb}
use Rattle.std.proofs.Common.{Err}
use lib.ListN.{length, get_or-eq_default}
use Rattle.words.specs.declared.Word.{Word}
use Rattle.trace.specs.declared.Line.{Line}
use Rattle.judge_rules.specs.Said.{kinds, said}
use Rattle.judge_rules.specs.Rules.{Judge, R0}
use Rattle.judge_rules.specs.Verdict.{on, broken, ended, called, told, recorded, answered, taken, judged}
use Rattle.judge_rules.specs.declared.Call.{Call}
use Rattle.judge_rules.specs.declared.Call.TheVariants.{Open, Malloc, Free, Close}
use Rattle.judge_rules.specs.declared.Run.{Run}
use Rattle.judge_rules.specs.declared.Said.TheVariants.{Record, Call as Calls, Result, Aside, Unknown}
use Rattle.judge_steps.specs.State.{outcome_of, starts_run, in_run, ends_run, between_runs}
use Rattle.judge_steps.specs.declared.Fault.{Fault}
use Rattle.judge_steps.specs.declared.Fault.TheVariants.{Broken, Beyond}
use Rattle.judge_steps.proofs.Stepping.{refused, passed}

r0-call : (c : Call) (r : Run) (l : Line) → R0 (Calls c) r l ≡ starts_run c r l.first
unfolding R0
r0-call Open r l = refl
r0-call Malloc r l = refl
r0-call Free r l = refl
r0-call Close r l = refl

r0_unknown : (r : Run) (l : Line) → R0 Unknown r l ≡ false
unfolding R0
r0_unknown r l = and-false r.opened

module _ (s : Judge) (l : Line) where
  pub call-refused : (c : Call) → starts_run c s.run l.first ≡ false → broken 0 ≡ judged (Calls c) s l
  unfolding judged
  call-refused c e = refused 0 (R0 (Calls c) s.run l) _ (r0-call c s.run l ∙ e)

  pub call-on : (c : Call) → starts_run c s.run l.first ≡ true → on (called c s l) ≡ judged (Calls c) s l
  unfolding judged taken
  call-on c e = passed 0 (R0 (Calls c) s.run l) _ (r0-call c s.run l ∙ e)

  pub unknown-refused : broken 0 ≡ judged Unknown s l
  unfolding judged
  unknown-refused = refused 0 (R0 Unknown s.run l) _ (r0_unknown s.run l)

  pub record-refused : (w : Word) → in_run s.run ≡ false → broken 0 ≡ judged (Record w) s l
  unfolding judged R0
  record-refused w e = refused 0 (in_run s.run) _ e

  pub record-failed : (w : Word) → in_run s.run ≡ true → (l.third ≡ 0 → ⊥) → on (ended s.run.asked.call s) ≡ judged (Record w) s l
  unfolding judged taken R0
  record-failed w e f = rw (ne_eqb l.third 0 f) (passed 0 (in_run s.run) (on (ended s.run.asked.call s)) e)

  pub record_done : (w : Word) → in_run s.run ≡ true → l.third ≡ 0 → recorded w (ended s.run.asked.call s) l.first l.second ≡ judged (Record w) s l
  unfolding judged taken R0
  record_done w e f = rw (eq-eqb l.third 0 f) (passed 0 (in_run s.run) (recorded w (ended s.run.asked.call s) l.first l.second) e)

  pub record_stands : (w : Word) → in_run s.run ≡ true →
      cond (eqb l.third 0) (recorded w (ended s.run.asked.call s) l.first l.second) (on (ended s.run.asked.call s)) ≡ judged (Record w) s l
  unfolding judged taken R0
  record_stands w e = passed 0 (in_run s.run) _ e

  pub result-refused : ends_run s.run l ≡ false → broken 0 ≡ judged Result s l
  unfolding judged R0
  result-refused e = refused 0 (ends_run s.run l) _ e

  pub result-failed : ends_run s.run l ≡ true → (l.third ≡ 0 → ⊥) → on (told s) ≡ judged Result s l
  unfolding judged taken R0
  result-failed e f = rw (ne_eqb l.third 0 f) (passed 0 (ends_run s.run l) (on (told s)) e)

  pub result_done : ends_run s.run l ≡ true → l.third ≡ 0 → answered s.run.asked.call (told s) l.first l.second ≡ judged Result s l
  unfolding judged taken R0
  result_done e f = rw (eq-eqb l.third 0 f) (passed 0 (ends_run s.run l) (answered s.run.asked.call (told s) l.first l.second) e)

  pub aside-refused : between_runs s.run ≡ false → broken 0 ≡ judged Aside s l
  unfolding judged R0
  aside-refused e = refused 0 (between_runs s.run) _ e

  pub aside-on : between_runs s.run ≡ true → on s ≡ judged Aside s l
  unfolding judged taken R0
  aside-on e = passed 0 (between_runs s.run) (on s) e

-- a number that is no kind
pub said-none : (k : ℕ) → (k ≡ 0) ⊎ (length kinds ≤ k) → Unknown ≡ said k
unfolding said
said-none k (inl e) = rw e
said-none k (inr h) = sym (get_or-eq_default kinds Unknown h)

-- what a refusal comes to is the same, whatever the state behind it
pub same_refusal : (f : Fault) (i j : Judge) → outcome_of (Err f) i ≡ outcome_of (Err f) j
same_refusal (Broken rule) i j = refl
same_refusal (Beyond which) i j = refl
