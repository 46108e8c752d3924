-- `step_new_room::insert_new` meets its contract: its two calls are the steps of the rule in order.
use native.Mathlib.Omega.{arith}
use Rattle.std.proofs.lemmas.Result.{err_from_is_err_and}
use Rattle.driving.proofs.Lent.{room-left}
use Rattle.step_new_room.proofs.Inserting.{can_insert, access-stopped, new_inserted}
use Rattle.step_new_room.proofs.insert_new.Goals as goal

pub returns-in_err-must_tell : goal.returns-in_err-must_tell
returns-in_err-must_tell c =
    let p = err_from_is_err_and c.from_residual.result c.from_residual.ensures.1 in
    rw (p.1, p.2) (access-stopped c.args.room c.args.pool.now c.requires.0 _ _ c.in_err-must_tell.ensures)

pub insert_free-requires : goal.insert_free-requires
insert_free-requires c =
    let d = c.must_tell.ensures in
    (can_insert c.args.room c.args.pool.now c.requires.0, room-left 1 1 c.requires.1 d.lent (omega (arith, d.made)) (omega arith))

pub returns : goal.returns
returns c =
    new_inserted c.args.room c.args.pool.now c.requires.0 _ _ c.in_ok-must_tell.ensures _ _ _ _ c.insert_free.ensures
