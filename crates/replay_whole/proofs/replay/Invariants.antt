use Prim.Native.Nat.{◌-◌}
use lib.ListN.{length}
use Rattle.replay_whole.proofs.Goes.{Goes}
use Rattle.replay_whole.proofs.replay.Given as goal

abbrev pub invariant-loop-at : goal.invariant-loop-at
invariant-loop-at l = Goes l.input l.initial.out l.room.answers l.out l.pool l.place l.at l.written

abbrev pub decreases-loop-at : goal.decreases-loop-at
decreases-loop-at l = length l.input - l.at
