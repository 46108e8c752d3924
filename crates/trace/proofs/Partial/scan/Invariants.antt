use mathlib.Core.Path.{◌≡◌}
use Prim.Native.Nat.{◌+◌}
use lib.ListN.{drop}
use Rattle.trace.specs.Chunks.{reached}
use Rattle.trace.proofs.Partial.scan.Given as goal

abbrev pub invariant-loop-passed : goal.invariant-loop-passed
invariant-loop-passed l = reached l.at l.initial.partial l.rest ≡ reached (l.at + l.passed) l.partial (drop l.passed l.rest)
