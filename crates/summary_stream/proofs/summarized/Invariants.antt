use Prim.Native.Nat.{ℕ, ◌+◌, ◌-◌, ◌^◌, ◌≤◌}
use Rattle.summary_stream.specs.Promises.{lines}
use Rattle.summary_stream.proofs.summarized.Given as goal

-- the bytes that came, with one read more at the end
abbrev most : ℕ
most = 2 ^ 63 + 65536

abbrev pub invariant-loop-total : goal.invariant-loop-total
invariant-loop-total g l = (lines l.reader ≤ l.total) × (l.total ≤ most)

abbrev pub decreases-loop-total : goal.decreases-loop-total
decreases-loop-total g l = most - l.total
