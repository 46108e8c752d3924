-- `step_open::no_tables` meets its contract: a closed pool's tables are those of a pool with none.
use mathlib.Core.Path.{refl}
use Rattle.tables.specs.Values.{pool_of}
use Rattle.step_open.proofs.no_tables.Goals as goal

pub returns : goal.returns
unfolding pool_of
returns c = rw c.closed.ensures refl
