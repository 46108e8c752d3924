-- `tables::FreeRegionEntry::bits` meets its contract: the numbers joined are 0 exactly in the empty entry.
use Rattle.tables.proofs.Bits.{region-bits}
use Rattle.tables.proofs.FreeRegionEntry.bits.Goals as goal

pub returns : goal.returns
returns c = region-bits c.args.self
