-- `step_free::free_steps` meets its contract: it takes the buffer out and inserts its range, as the rule does.
use Rattle.std.proofs.lemmas.Result.{err_from_is_err_and}
use Rattle.tables.proofs.Packs.{live_cell}
use Rattle.step_free.proofs.Sounds.{insertable}
use Rattle.step_free.proofs.Ways.{steps-left}
use Rattle.step_free.proofs.free_steps.Goals as goal

pub insert_free-requires : goal.insert_free-requires
insert_free-requires c =
    (rw (← live_cell c.args.live.now c.args.at c.requires.0.placed) (insertable c.requires.0), c.requires.1)

pub returns-in_err-insert_free : goal.returns-in_err-insert_free
returns-in_err-insert_free c =
    let r = err_from_is_err_and c.from_residual.result c.from_residual.ensures.1 in
    rw (r.1, r.2) (steps-left c.requires.0 c.remove_at.ensures c.in_err-insert_free.ensures)

pub returns : goal.returns
returns c = steps-left c.requires.0 c.remove_at.ensures c.in_ok-insert_free.ensures
