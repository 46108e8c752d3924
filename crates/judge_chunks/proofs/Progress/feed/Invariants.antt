use mathlib.Core.Path.{◌≡◌}
use mathlib.Core.List.{List, ◌++◌}
use Prim.Native.Nat.{ℕ, ◌+◌, ◌-◌, ◌≤◌}
use lib.ListN.{length, drop}
use Rattle.judge_chunks.specs.Promises.{verdict_after}
use Rattle.judge_chunks.proofs.Progress.feed.Given as goal

abbrev pub invariant-loop-at : goal.invariant-loop-at
invariant-loop-at l =
    (l.at ≤ length l.chunk) × ((l.self.lines ≤ l.initial.self.lines + l.at)
    × ((rest : List ℕ) → verdict_after l.self (drop l.at l.chunk ++ rest) ≡ verdict_after l.initial.self (l.chunk ++ rest)))

abbrev pub decreases-loop-at : goal.decreases-loop-at
decreases-loop-at l = length l.chunk - l.at
