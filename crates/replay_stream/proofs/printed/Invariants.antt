use Prim.Native.Nat.{◌+◌, ◌-◌, ◌≤◌}
use Rattle.replay_stream.proofs.printed.Given as goal

abbrev pub invariant-loop-total : goal.invariant-loop-total
invariant-loop-total g l = (l.run.place.line ≤ l.total + 1) × (l.total ≤ 9223372036854841344)

abbrev pub decreases-loop-total : goal.decreases-loop-total
decreases-loop-total g l = 9223372036854841344 - l.total
