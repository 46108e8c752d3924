use Prim.Native.Nat.{ℕ, ◌+◌, ◌-◌, ◌^◌, ◌≤◌}
use Rattle.judge_stream.specs.Promises.{most_read}
use Rattle.judge_stream.proofs.pump.Given as goal

-- the bytes that came, with one read more at the end
abbrev most : ℕ
most = 2 ^ 63 + most_read

abbrev pub invariant-loop-total : goal.invariant-loop-total
invariant-loop-total g l = (l.p.lines ≤ l.total) × (l.total ≤ most)

abbrev pub decreases-loop-total : goal.decreases-loop-total
decreases-loop-total g l = most - l.total
