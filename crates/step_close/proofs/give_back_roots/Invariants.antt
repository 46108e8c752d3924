use Rattle.step_close.specs.Promises.{give_back}
use Rattle.step_close.proofs.Turns.{Stands}
use Rattle.step_close.proofs.give_back_roots.Given as goal

abbrev pub invariant-loop-base : goal.invariant-loop-base
invariant-loop-base l = Stands (give_back l.va) 1 l.roots l.base-index l.initial.failed l.initial.driver l.failed l.driver
