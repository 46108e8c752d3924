-- `driving::Driver::create` meets its contract, by the promise of `hear`.
use Rattle.tables.specs.Driver.{create}
use Rattle.driving.proofs.Driver.create.Goals as goal

pub returns : goal.returns
unfolding create
returns c = c.hear.ensures
