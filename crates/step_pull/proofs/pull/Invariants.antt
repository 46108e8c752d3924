use Rattle.step_pull.proofs.Turns.{Due}
use Rattle.step_pull.proofs.pull.Given as goal

abbrev pub invariant-loop-left : goal.invariant-loop-left
invariant-loop-left l = Due l.stream l.lacks l.made l.initial.driver l.initial.free l.initial.zombies l.left l.driver l.free l.zombies

abbrev pub decreases-loop-left : goal.decreases-loop-left
decreases-loop-left l = l.left
