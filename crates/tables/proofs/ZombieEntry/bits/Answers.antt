-- `tables::ZombieEntry::bits` meets its contract: the numbers joined are 0 exactly in the empty entry.
use Rattle.tables.proofs.Bits.{zombie-bits}
use Rattle.tables.proofs.ZombieEntry.bits.Goals as goal

pub returns : goal.returns
returns c = zombie-bits c.args.self
