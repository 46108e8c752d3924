-- `step_make_room::make_room` meets its contract: its parts are those of the rule in order.
use Prim.Native.Nat.{◌<◌}
use native.Mathlib.Omega.{arith}
use Rattle.std.proofs.lemmas.Result.{err_from_is_err_and}
use Rattle.driving.proofs.Lent.{lent-then, room-left}
use Rattle.step_make_room.proofs.Ways.{take-stopped, fillable-all, filled-all, insertable, new-stopped, new-enough, fillable-rest, filled-rest}
use Rattle.step_make_room.proofs.make_room.Goals as goal

pub returns-in_err-room : goal.returns-in_err-room
returns-in_err-room c =
    let p = err_from_is_err_and c.from_residual.result c.from_residual.ensures.1 in
    rw (p.1, p.2) (take-stopped c.requires.0 c.in_err-room.ensures)

pub pull_in-requires : goal.pull_in-requires
pull_in-requires c =
    let w = c.in_ok-room.ensures in
    (fillable-all c.requires.0 w c.if-room-eq0.true, omega (arith, c.requires.1, w.most, w.lent.cells))

pub returns-then-room-eq0 : goal.returns-then-room-eq0
returns-then-room-eq0 c = filled-all c.requires.0 c.in_ok-room.ensures c.if-room-eq0.true _ c.pull_in.ensures

pub insert_new-requires : goal.insert_new-requires
insert_new-requires c =
    let w = c.in_ok-room.ensures in
    (insertable c.requires.0 w (omega (arith, c.if-room-eq0.false)), omega (arith, c.requires.1, w.most, w.lent.cells))

pub returns-in_err-region : goal.returns-in_err-region
returns-in_err-region c =
    let p = err_from_is_err_and c.from_residual-in_err-region.result c.from_residual-in_err-region.ensures.1 in
    rw (p.1, p.2) (new-stopped c.requires.0 c.in_ok-room.ensures (omega (arith, c.if-room-eq0.false)) c.in_err-region.ensures)

pub returns-then-requested-region : goal.returns-then-requested-region
returns-then-requested-region c =
    new-enough c.requires.0 c.in_ok-room.ensures (omega (arith, c.if-room-eq0.false)) c.in_ok-region.ensures c.if-requested-region.true

pub pull_in-requires-2 : goal.pull_in-requires-2
pull_in-requires-2 c =
    let w = c.in_ok-room.ensures in
    let i = c.in_ok-region.ensures in
    let short : c.in_ok-region.region.size < c.args.requested = omega (arith, c.if-requested-region.false) in (
      fillable-rest c.requires.0 w (omega (arith, c.if-room-eq0.false)) i short,
      omega (arith, c.requires.1, w.most, w.lent.cells, i.walked.most, i.walked.lent.cells),
    )

pub returns : goal.returns
returns c =
    let short : c.in_ok-region.region.size < c.args.requested = omega (arith, c.if-requested-region.false) in
    filled-rest c.requires.0 c.in_ok-room.ensures (omega (arith, c.if-room-eq0.false)) c.in_ok-region.ensures short _ c.pull_in-2.ensures
