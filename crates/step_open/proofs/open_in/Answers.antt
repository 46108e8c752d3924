-- `step_open::open_in` meets its contract: its calls are the steps of the rule in order.
use Prim.Native.Nat.{◌<◌}
use native.Mathlib.Omega.{arith}
use Rattle.std.proofs.lemmas.Result.{err_from_is_err_and}
use Rattle.tables.specs.Driver.{sync}
use Rattle.step_open.proofs.Opening.{takeable, root-fits, root-stopped, root_opened, roomable, room-stopped, sync-stopped, pages-opened}
use Rattle.step_open.proofs.open_in.Goals as goal

pub reserve_root-requires : goal.reserve_root-requires
reserve_root-requires c =
    let k = c.requires.configured in
    record { takeable = takeable k.0 c.requires.empty; count_bound = (root-fits k.0 c.requires.empty, omega (arith, k.1)) }

pub returns-in_err-base : goal.returns-in_err-base
returns-in_err-base c =
    let p = err_from_is_err_and c.from_residual.result c.from_residual.ensures.1 in
    rw (p.1, p.2) (root-stopped c.requires.configured.0 c.requires.empty c.args.stream c.in_err-base.ensures)

pub returns-then-initial-eq0 : goal.returns-then-initial-eq0
returns-then-initial-eq0 c =
    root_opened c.requires.configured.0 c.requires.empty c.args.stream c.in_ok-base.ensures c.if-initial-eq0.true

pub make_room-requires : goal.make_room-requires
make_room-requires c =
    let w = c.in_ok-base.ensures in (
      roomable c.requires.configured.0 c.requires.empty c.args.stream w (omega (arith, c.if-initial-eq0.false)),
      omega (arith, c.requires.configured.1, w.most, w.lent.cells),
    )

pub returns-in_err-make_room : goal.returns-in_err-make_room
returns-in_err-make_room c =
    let p = err_from_is_err_and c.from_residual-in_err-make_room.result c.from_residual-in_err-make_room.ensures.1 in
    rw (p.1, p.2)
    (room-stopped c.requires.configured.0 c.requires.empty c.args.stream c.in_ok-base.ensures (omega (arith, c.if-initial-eq0.false))
    c.in_err-make_room.ensures)

pub must_tell-requires : goal.must_tell-requires
must_tell-requires c =
    let w = c.in_ok-base.ensures in
    let v = c.in_ok-make_room.ensures in
    omega (arith, c.requires.configured.1, w.most, w.lent.cells, v.most, v.lent.cells)

pub returns-in_err-must_tell : goal.returns-in_err-must_tell
unfolding sync
returns-in_err-must_tell c =
    let p = err_from_is_err_and c.from_residual-in_err-must_tell.result c.from_residual-in_err-must_tell.ensures.1 in
    rw (p.1, p.2)
    (sync-stopped c.requires.configured.0 c.requires.empty c.args.stream c.in_ok-base.ensures (omega (arith, c.if-initial-eq0.false))
    c.in_ok-make_room.ensures c.in_err-must_tell.ensures)

pub returns : goal.returns
unfolding sync
returns c =
    pages-opened c.requires.configured.0 c.requires.empty c.args.stream c.in_ok-base.ensures (omega (arith, c.if-initial-eq0.false))
    c.in_ok-make_room.ensures c.in_ok-must_tell.ensures
