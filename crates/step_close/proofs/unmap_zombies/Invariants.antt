use Rattle.step_close.specs.Promises.{unmap_zombie}
use Rattle.step_close.proofs.Turns.{Stands}
use Rattle.step_close.proofs.unmap_zombies.Given as goal

abbrev pub invariant-loop-z : goal.invariant-loop-z
invariant-loop-z l = Stands unmap_zombie 1 l.zombies l.z-index l.initial.failed l.initial.driver l.failed l.driver
