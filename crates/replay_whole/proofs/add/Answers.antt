-- `replay_whole::add` meets its contract.
use Rattle.replay_whole.proofs.Fits.{adds-fitting}
use Rattle.replay_whole.proofs.add.Goals as goal

pub returns : goal.returns
returns c = adds-fitting c.min-fitting.result c.min-fitting.ensures c.requires c.put_bytes.ensures
