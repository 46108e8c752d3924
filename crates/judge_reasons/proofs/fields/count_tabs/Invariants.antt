use Prim.Native.Nat.{◌≤◌}
use mathlib.Core.Path.{◌≡◌}
use Rattle.judge_reasons.specs.Forms.{tabs}
use Rattle.judge_reasons.proofs.fields.count_tabs.Given as goal

abbrev pub invariant-loop-b : goal.invariant-loop-b
invariant-loop-b l = (l.n ≤ l.b-index) × (l.n ≡ tabs l.b-index l.line)
