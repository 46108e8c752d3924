use Prim.Native.Nat.{◌+◌, ◌-◌, ◌≤◌}
use lib.ListN.{length}
use Rattle.summary_stream.specs.Promises.{lines}
use Rattle.summary_stream.proofs.reader.Reader.feed.Given as goal

-- each byte that is read counts at most one line
abbrev pub invariant-loop-at : goal.invariant-loop-at
invariant-loop-at l = (l.at ≤ length l.chunk) × (lines l.self ≤ lines l.initial.self + l.at)

abbrev pub decreases-loop-at : goal.decreases-loop-at
decreases-loop-at l = length l.chunk - l.at
