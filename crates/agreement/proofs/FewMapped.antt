-- The premise on mapped pages holds of every accepted trace: the judge counts what the lines map.
use mathlib.Core.Path.{◌≡◌, refl}
use mathlib.Core.Bool.{true}
use mathlib.Core.List.{List, [], ◌∷◌, map}
use Prim.Native.Nat.{ℕ, ◌+◌, ◌≤◌}
use native.Mathlib.Omega.{arith}
use borrow.Author.Tests.{le-leb}
use lib.Dec.{leb}
use lib.ListN.{length, length-map}
use Rattle.lists.proofs.Every.{and-true}
use Rattle.trace.specs.declared.Line.{Line}
use Rattle.trace.specs.declared.Reading.TheVariants.{Good}
use Rattle.judge_rules.specs.Sizes.{most_mapped}
use Rattle.judge_rules.specs.Said.{said}
use Rattle.judge_rules.specs.Rules.{Judge}
use Rattle.judge_rules.specs.Verdict.{Step, on, broken, beyond, step, onward, start, verdict_from, verdict}
use Rattle.judge_rules.specs.InBounds.{InBounds}
use Rattle.judge_rules.specs.declared.Verdict.TheVariants.{Accepted}
use Rattle.judge_rules.proofs.InBounds.{bounds-step, bounds-start}
use Rattle.agreement.specs.Premises.{mapped_after, few_mapped}
use Rattle.agreement.specs.Judges.{addresses}
use Rattle.agreement.proofs.Reading.{step-mapped}

few-from : (n : ℕ) (s : Judge) (ls : List Line) → InBounds s → verdict_from n s (map Good ls) ≡ Accepted → few_mapped (addresses s.mapped) ls ≡ true
few-from n s [] f e = refl
few-from n s (l ∷ ls) f e = go (step s (Good l)) refl e (λ z g q. few-from (n + 1) z ls g q)
  where
    go : (x : Step) → step s (Good l) ≡ x → onward (n + 1) x (λ z. verdict_from (n + 1) z (map Good ls)) ≡ Accepted →
        ((z : Judge) → InBounds z → verdict_from (n + 1) z (map Good ls) ≡ Accepted → few_mapped (addresses z.mapped) ls ≡ true) →
        few_mapped (addresses s.mapped) (l ∷ ls) ≡ true
    go (on z) q e more =
        let g : InBounds z = bounds-step (said l.kind) s l z f q in
        let m : addresses z.mapped ≡ mapped_after l (addresses s.mapped) = step-mapped s l z q in
        let k : length (addresses z.mapped) ≤ most_mapped = rw (length-map z.mapped) g.mapped in
        rw (← m) (and-true (leb (length (addresses z.mapped)) most_mapped) (few_mapped (addresses z.mapped) ls) (le-leb _ most_mapped k) (more z g e))
    go (broken rule) q e more = let y : ◌≡◌ {A = ℕ} 0 1 = cc in absurd (omega arith)
    go (beyond which) q e more = let y : ◌≡◌ {A = ℕ} 0 1 = cc in absurd (omega arith)

pub accepted-few : (ls : List Line) → verdict (map Good ls) ≡ Accepted → few_mapped [] ls ≡ true
unfolding verdict
accepted-few ls e = few-from 0 start ls bounds-start e
