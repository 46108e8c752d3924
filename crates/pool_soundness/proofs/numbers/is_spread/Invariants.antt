use mathlib.Core.Path.{◌≡◌}
use mathlib.Core.Bool.{true}
use lib.ListN.{length, drop}
use Rattle.lists.specs.Tests.{distinct}
use Rattle.pool_soundness.proofs.RemainderMarks.{Marked}
use Rattle.pool_soundness.proofs.numbers.is_spread.Given as goal

-- the numbers passed, from the end on, are distinct, and each has left its mark
abbrev pub invariant-loop-i : goal.invariant-loop-i
invariant-loop-i l = (length l.marks ≡ 1021) × ((distinct (drop l.i l.numbers) ≡ true) × Marked l.marks (drop l.i l.numbers))
