-- `tables::PageEntry::bits` meets its contract: the numbers joined are 0 exactly in the empty entry.
use Rattle.tables.proofs.Bits.{page-bits}
use Rattle.tables.proofs.PageEntry.bits.Goals as goal

pub returns : goal.returns
returns c = page-bits c.args.self
