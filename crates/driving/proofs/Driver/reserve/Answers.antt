-- `driving::Driver::reserve` meets its contract, by the promise of `hear`.
use Rattle.tables.specs.Driver.{reserve}
use Rattle.driving.proofs.Driver.reserve.Goals as goal

pub returns : goal.returns
unfolding reserve
returns c = c.hear.ensures
