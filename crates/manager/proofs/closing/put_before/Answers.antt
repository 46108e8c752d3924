-- `manager::closing::put_before` meets its contract: the records moved up, and those of the small buffers written before them.
use Rattle.manager_parts.proofs.Combined.{written-before}
use Rattle.manager_parts.proofs.Drops.{length-drops}
use Rattle.manager.proofs.closing.put_before.Goals as goal
use lib.ListN.{length}

pub returns : goal.returns
returns c =
    let a = c.args in
    record {
      stand = λ l rs e n.
          written-before l _ _ _ _ rs (length a.small.now) e (rw n c.move_up.ensures) c.write_drops.ensures.wrote
          (length-drops a.answers.now a.small.now c.requires.answered);
    }
