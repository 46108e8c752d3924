-- `step_malloc::malloc_room` meets its contract: its calls are the steps of the rule in order.
use mathlib.Core.Path.{◌≡◌, ap, ◌∙◌}
use Prim.Native.Nat.{◌-◌}
use native.Mathlib.Omega.{arith}
use Rattle.std.proofs.lemmas.Result.{err_from_is_err_and}
use Rattle.step_new_room.specs.Promises.{free_bytes}
use Rattle.step_malloc.proofs.Rooms.{bytes_most, readable, refused-stops, roomable, room-stops, room-handable, room-handed}
use Rattle.step_malloc.proofs.malloc_room.Goals as goal
use Rattle.step_malloc.proofs.malloc_room.Goals.{After-missing_of-missing}

lack : (c : After-missing_of-missing) → c.missing_of-missing.result ≡ c.args.bytes - free_bytes c.args.pool.now
lack c = c.missing_of-missing.ensures ∙ ap (λ f. c.args.bytes - f) c.free_bytes.ensures

pub free_bytes-requires : goal.free_bytes-requires
free_bytes-requires c = let h = c.requires.0 in (h.tables.free, omega (arith, bytes_most h))

pub room_refused-requires : goal.room_refused-requires
room_refused-requires c = readable c.requires.0 (lack (goal.at.room_refused-requires c).After-missing_of-missing)

pub returns-in_err-room_refused : goal.returns-in_err-room_refused
returns-in_err-room_refused c =
    let p = err_from_is_err_and c.from_residual.result c.from_residual.ensures.1 in
    let l = lack (goal.at.returns-in_err-room_refused c).After-missing_of-missing in
    rw (p.1, p.2) (refused-stops c.requires.0 l c.args.stream c.args.driver.now c.in_err-room_refused.ensures)

pub make_room-requires : goal.make_room-requires
make_room-requires c =
    let l = lack (goal.at.make_room-requires c).After-missing_of-missing in
    (roomable c.requires.0 l c.args.stream c.args.driver.now c.in_ok-room_refused.ensures, c.requires.1)

pub returns-in_err-region : goal.returns-in_err-region
returns-in_err-region c =
    let p = err_from_is_err_and c.from_residual-in_err-region.result c.from_residual-in_err-region.ensures.1 in
    let l = lack (goal.at.returns-in_err-region c).After-missing_of-missing in
    rw (p.1, p.2) (room-stops c.requires.0 l c.args.stream c.args.driver.now c.in_ok-room_refused.ensures c.in_err-region.ensures)

pub hand_out-requires : goal.hand_out-requires
hand_out-requires c =
    let l = lack (goal.at.hand_out-requires c).After-missing_of-missing in
    room-handable c.requires.0 l c.args.stream c.args.driver.now c.in_ok-room_refused.ensures c.in_ok-region.ensures

pub returns : goal.returns
returns c =
    let l = lack (goal.at.returns c).After-missing_of-missing in
    room-handed c.requires.0 l c.args.stream c.args.driver.now c.in_ok-room_refused.ensures c.in_ok-region.ensures c.hand_out.ensures
