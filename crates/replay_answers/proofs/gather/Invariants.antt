use mathlib.Core.Path.{◌≡◌}
use Prim.Native.Nat.{◌-◌}
use lib.ListN.{length}
use Rattle.replay_answers.specs.declared.Stop.TheVariants.{More}
use Rattle.replay_answers.proofs.Sofar.{Sofar}
use Rattle.replay_answers.proofs.gather.Given as goal

abbrev pub invariant-loop-g : goal.invariant-loop-g
invariant-loop-g l =
    (l.g.stop ≡ More) × Sofar l.fn.partial l.line l.chunk l.at l.initial.answers l.count l.answers l.g.at l.g.partial l.g.line l.g.count

abbrev pub decreases-loop-g : goal.decreases-loop-g
decreases-loop-g l = length l.chunk - l.g.at
