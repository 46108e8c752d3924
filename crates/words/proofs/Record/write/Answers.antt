-- `words::Record::write` meets its contract, by the promise of `put` on the rest of the log.
use Rattle.words.proofs.Log.{written_one}
use Rattle.words.proofs.Record.write.Goals as goal

pub returns : goal.returns
returns c =
    let a = c.args in
    written_one a.log.now a.made a.self c.put.new.rest c.requires c.put.ensures
