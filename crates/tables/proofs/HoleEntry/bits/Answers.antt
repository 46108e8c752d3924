-- `tables::HoleEntry::bits` meets its contract: the numbers joined are 0 exactly in the empty entry.
use Rattle.tables.proofs.Bits.{hole-bits}
use Rattle.tables.proofs.HoleEntry.bits.Goals as goal

pub returns : goal.returns
returns c = hole-bits c.args.self
