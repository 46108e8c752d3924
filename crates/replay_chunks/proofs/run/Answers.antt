-- `replay_chunks::run` meets its contract, kind by kind.
use Rattle.replay_chunks.proofs.Turning.{runs-open, runs-malloc, runs-free, runs_close}
use borrow.Author.Rules.{rules}
use Rattle.replay_chunks.proofs.run.Goals as goal

pub returns-in-12 : goal.returns-in-12
returns-in-12 c =
    runs-open c.args.pool c.args.call c.requires c.in-12.is c.open.ensures

pub returns-in-13 : goal.returns-in-13
returns-in-13 c =
    runs-malloc c.args.pool c.args.call c.requires c.in-13.is c.malloc.ensures

pub returns-in-14 : goal.returns-in-14
returns-in-14 c =
    runs-free c.args.pool c.args.call c.requires c.in-14.is c.free.ensures

pub returns-in_default : goal.returns-in_default
returns-in_default c =
    runs_close c.args.pool c.args.call c.requires (search rules) (search rules) (search rules) c.close.ensures
