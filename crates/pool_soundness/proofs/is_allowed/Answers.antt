-- `pool_soundness::is_allowed` meets its contract.
use Rattle.std.proofs.Common.{arith}
use Rattle.std.proofs.lemmas.Grind.{common_steps}
use Rattle.tables.specs.WellFormed.{allowed}
use Rattle.pool_soundness.proofs.is_allowed.Goals as goal

pub returns-then-va-page-eq0 : goal.returns-then-va-page-eq0
unfolding allowed
returns-then-va-page-eq0 c = grind (arith, common_steps)

pub returns-else-va-page-eq0 : goal.returns-else-va-page-eq0
unfolding allowed
returns-else-va-page-eq0 c = grind (arith, common_steps)
