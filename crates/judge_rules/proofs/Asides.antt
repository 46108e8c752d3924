-- Between calls the judge passes over a small buffer's line: so a trace with such lines there is judged as the trace without them.
use mathlib.Core.Path.{◌≡◌, refl}
use mathlib.Core.Bool.{true, false}
use mathlib.Core.Logic.{⊎_elim}
use Prim.Native.Nat.{ℕ, ◌≤◌}
use native.Mathlib.Omega.{arith}
use Rattle.lists.proofs.Tests.{cases_eq}
use Rattle.trace.specs.Kinds.{SMALL, DROPSMALL}
use Rattle.trace.specs.declared.Line.{Line}
use Rattle.trace.specs.declared.Reading.TheVariants.{Good}
use Rattle.judge_rules.specs.Said.{said}
use Rattle.judge_rules.specs.Rules.{Judge, R0}
use Rattle.judge_rules.specs.Verdict.{on, ruled, taken, judged, step}
use Rattle.judge_rules.specs.declared.Said.TheVariants.{Aside}

pub said_aside : (k : ℕ) → SMALL ≤ k → k ≤ DROPSMALL → said k ≡ Aside
unfolding said
said_aside k a b = ⊎_elim (λ e. rw e refl) (λ n. let e : k ≡ DROPSMALL = omega arith in rw e refl) (cases_eq k SMALL)

pub step_aside : (s : Judge) (l : Line) → SMALL ≤ l.kind → l.kind ≤ DROPSMALL → s.run.opened ≡ true → s.run.waiting ≡ false → step s (Good l) ≡ on s
unfolding judged ruled taken R0
step_aside s l a b o v = rw (said_aside l.kind a b, o, v) refl
