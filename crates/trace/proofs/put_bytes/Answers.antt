-- `trace::put_bytes` meets its contract: a copy into a range puts what is copied.
use Rattle.trace.proofs.Put.{put-range}
use Rattle.trace.proofs.put_bytes.Goals as goal

pub returns : goal.returns
returns c = rw c.copy_from_slice.ensures.after (put-range c.args.out.now c.args.at c.args.bytes.now c.requires)
