-- `manager_parts::pool_refused` meets its contract: the pool's entry is tried on a copy.
use Rattle.manager_parts.proofs.Entry.{enters-tells}
use Rattle.manager_parts.proofs.pool_refused.Goals as goal

pub returns : goal.returns
returns c = enters-tells c.args.pool.now c.args.room c.enter.result c.enter.new.pool c.enter.ensures
