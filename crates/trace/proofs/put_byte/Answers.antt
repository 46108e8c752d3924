-- `trace::put_byte` meets its contract: one store is one byte put.
use Rattle.trace.proofs.Put.{put_one}
use Rattle.trace.proofs.put_byte.Goals as goal

pub returns : goal.returns
returns c = put_one c.args.out.now c.args.at c.args.b c.requires
