-- One line more: what its step says of the verdict.
use mathlib.Core.Path.{◌≡◌, refl, ap, sym, ◌∙◌}
use mathlib.Core.Bool.{true, false, true≢false}
use mathlib.Core.List.{List, ◌∷◌, ◌++◌}
use Prim.Native.Nat.{ℕ, ◌+◌}
use lib.ListN.{drop}
use Rattle.std.proofs.Common.{Result, Ok, Err, is_err}
use Rattle.trace.specs.Machine.{fresh, line_at}
use Rattle.trace.specs.Chunks.{lines_from}
use Rattle.trace.specs.declared.Line.{Line}
use Rattle.trace.specs.declared.Reach.{Reach}
use Rattle.trace.proofs.Scanned.{Scanned}
use Rattle.trace.specs.declared.Reading.{Reading}
use Rattle.trace.specs.declared.Reading.TheVariants.{Good}
use Rattle.judge_rules.specs.Said.{said}
use Rattle.judge_rules.specs.Rules.{Judge}
use Rattle.judge_rules.specs.Verdict.{judged, onward, verdict_from}
use Rattle.judge_rules.specs.declared.Verdict.{Verdict}
use Rattle.judge_steps.specs.State.{judge_of, outcome_of}
use Rattle.judge_steps.specs.declared.State.{State}
use Rattle.judge_steps.specs.declared.Fault.{Fault}
use Rattle.judge_steps.specs.declared.Fault.TheVariants.{Broken, Beyond}
use Rattle.judge_chunks.specs.Promises.{settled, verdict_on, verdict_after, Judged}
use Rattle.judge_chunks.specs.declared.Progress.{Progress}

settled-onward : (o : Result (Unit {0}) Fault) (n : ℕ) (s : Judge) (next : Judge → Verdict) → settled o n (next s) ≡ onward n (outcome_of o s) next
settled-onward (Ok u) n s next = refl
settled-onward (Err (Broken rule)) n s next = refl
settled-onward (Err (Beyond which)) n s next = refl

pub good-says : (s z : State) (o : Result (Unit {0}) Fault) (x : Line) → outcome_of o (judge_of z) ≡ judged (said x.kind) (judge_of s) x → (n : ℕ) (xs : List Reading) →
    settled o (n + 1) (verdict_from (n + 1) (judge_of z) xs) ≡ verdict_from n (judge_of s) (Good x ∷ xs)
good-says s z o x e n xs =
    settled-onward o (n + 1) (judge_of z) (λ y. verdict_from (n + 1) y xs)
    ∙ ap (λ q. onward (n + 1) q (λ y. verdict_from (n + 1) y xs)) e

-- a line of a chunk, whatever follows
module _ (p : Progress) (chunk : List ℕ) (at : ℕ) (reach : Reach) (sc : Scanned reach chunk at p.partial) where
  pub going-says : reach.ended ≡ false → (rest : List ℕ) →
      verdict_on p (lines_from reach.partial (drop reach.at chunk ++ rest)) ≡ verdict_after p (drop at chunk ++ rest)
  going-says e rest = ap (λ xs. verdict_on p xs) (sym (sc.going e rest))

  pub ended-says : reach.ended ≡ true → p.outcome ≡ Ok tt → (r : Progress) (x : Reading) → x ≡ line_at reach.partial → Judged r p x →
      (rest : List ℕ) → verdict_after r (drop reach.at chunk ++ rest) ≡ verdict_after p (drop at chunk ++ rest)
  ended-says e o r x q j rest =
      let tail = lines_from fresh (drop reach.at chunk ++ rest) in
      ap (λ z. verdict_on r (lines_from z (drop reach.at chunk ++ rest))) j.partial
      ∙ j.says tail
      ∙ ap (λ z. verdict_from p.lines (judge_of p.state) (z ∷ tail)) q
      ∙ ap (λ xs. verdict_from p.lines (judge_of p.state) xs) (sym (sc.ended e rest))
      ∙ ap (λ z. settled z p.lines (verdict_from p.lines (judge_of p.state) (lines_from p.partial (drop at chunk ++ rest)))) (sym o)

-- once a line is refused, or too much, what follows counts no more
pub no_more : (o : Result (Unit {0}) Fault) → is_err o ≡ true → (n : ℕ) (v w : Verdict) → settled o n v ≡ settled o n w
no_more (Ok u) k n v w = absurd (true≢false (sym k))
no_more (Err (Broken rule)) k n v w = refl
no_more (Err (Beyond which)) k n v w = refl

pub well : (o : Result (Unit {0}) Fault) → is_err o ≡ false → o ≡ Ok tt
well (Ok u) k = refl
well (Err e) k = absurd (true≢false k)
