-- `tables::LiveBufferEntry::bits` meets its contract: the numbers joined are 0 exactly in the empty entry.
use Rattle.tables.proofs.Bits.{buffer-bits}
use Rattle.tables.proofs.LiveBufferEntry.bits.Goals as goal

pub returns : goal.returns
returns c = buffer-bits c.args.self
