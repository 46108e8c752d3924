-- The first byte and the last: what the verdict is before any, and what it is where none follows.
use mathlib.Core.Path.{◌≡◌, ap, sym, ◌∙◌}
use mathlib.Core.Bool.{true, false, cond}
use mathlib.Core.List.{List, [], ◌∷◌}
use Prim.Native.Nat.{ℕ, ◌+◌}
use Rattle.std.proofs.Common.{Ok}
use Rattle.trace.specs.Lines.{lines_of}
use Rattle.trace.specs.Machine.{is_fresh, line_at}
use Rattle.trace.specs.Chunks.{lines_from}
use Rattle.trace.specs.declared.Reading.{Reading}
use Rattle.trace.proofs.Chunks.{lines_from-fresh}
use Rattle.judge_rules.specs.Verdict.{at_end, start, verdict_from, verdict}
use Rattle.judge_rules.specs.declared.Verdict.TheVariants.{Accepted, Rejected}
use Rattle.judge_steps.specs.State.{judge_of}
use Rattle.judge_chunks.specs.Promises.{settled, verdict_on, verdict_after, IsStart, Judged}
use Rattle.judge_chunks.specs.declared.Progress.{Progress}

-- At the start the verdict is that of the definitions on the lines of the whole.
pub start-says : (p : Progress) → IsStart p → (bytes : List ℕ) → verdict_after p bytes ≡ verdict (lines_of bytes)
unfolding verdict
start-says p s bytes =
    (λ i. settled (s.outcome i) (s.lines i) (verdict_from (s.lines i) (s.state i) (lines_from (s.partial i) bytes)))
    ∙ ap (λ xs. verdict_from 0 start xs) (lines_from-fresh bytes)

module _ (p : Progress) where
  pub ends_fresh : is_fresh p.partial ≡ true → verdict_on p [] ≡ verdict_after p []
  ends_fresh e = ap (λ b. verdict_on p (cond b [] (line_at p.partial ∷ []))) (sym e)

  pub ends-line : is_fresh p.partial ≡ false → p.outcome ≡ Ok tt → (r : Progress) (x : Reading) → x ≡ line_at p.partial →
      Judged r p x → verdict_on r [] ≡ verdict_after p []
  ends-line e o r x q j =
      j.says []
      ∙ ap (λ z. verdict_from p.lines (judge_of p.state) (z ∷ [])) q
      ∙ ap (λ b. verdict_from p.lines (judge_of p.state) (cond b [] (line_at p.partial ∷ []))) (sym e)
      ∙ ap (λ z. settled z p.lines (verdict_from p.lines (judge_of p.state) (lines_from p.partial []))) (sym o)

  -- where no line follows: R0 at the one after the last, or accepted
  module _ (u : Unit {0}) (o : p.outcome ≡ Ok u) where
    pub settle_unopened : p.state.run.opened ≡ false → Rejected (p.lines + 1) 0 ≡ verdict_on p []
    unfolding at_end judge_of
    settle_unopened e = rw (o, e)

    pub settle-waiting : p.state.run.opened ≡ true → p.state.run.waiting ≡ true → Rejected (p.lines + 1) 0 ≡ verdict_on p []
    unfolding at_end judge_of
    settle-waiting e f = rw (o, e, f)

    pub settle_accepted : p.state.run.opened ≡ true → p.state.run.waiting ≡ false → Accepted ≡ verdict_on p []
    unfolding at_end judge_of
    settle_accepted e f = rw (o, e, f)
