-- `pool_soundness::names::names_sound` meets its contract.
use Rattle.std.proofs.Common.{arith}
use Rattle.std.proofs.lemmas.Grind.{common_steps}
use Rattle.pool_soundness.specs.Tests.{names_pass}
use Rattle.pool_soundness.proofs.names.names_sound.Goals as goal

pub returns-then-free_ids_below : goal.returns-then-free_ids_below
unfolding names_pass
returns-then-free_ids_below c = grind (arith, common_steps)

pub returns-else-free_ids_below : goal.returns-else-free_ids_below
unfolding names_pass
returns-else-free_ids_below c = grind (arith, common_steps)
