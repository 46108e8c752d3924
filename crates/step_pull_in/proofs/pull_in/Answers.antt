-- `step_pull_in::pull_in` meets its contract: its calls are the steps of the rule in order, and each leaves what the next leans on.
use mathlib.Core.Path.{◌≡◌, ap}
use Prim.Native.Nat.{◌-◌}
use native.Mathlib.Omega.{arith}
use lib.ListN.{length, take, drop}
use Rattle.std.proofs.lemmas.Result.{err_from_is_err_and}
use Rattle.tables.specs.Values.{zombies_of}
use Rattle.step_pull_in.proofs.Grows.{end-of}
use Rattle.step_pull_in.proofs.Ways.{
  ends-below,
  pullable,
  room_for-pull,
  pull-stops,
  zombies-stay,
  pages-movable,
  room_for-move,
  move-stops,
  room_for-access,
  insertable,
  access-stops,
  inserts,
}
use Rattle.step_pull_in.proofs.pull_in.Goals as goal
use Rattle.step_pull_in.proofs.pull_in.Goals.{After-entries, After-move_pages}

pub overflow_add-to : goal.overflow_add-to
overflow_add-to c = omega (arith, ends-below c.requires.0)

pub pull-requires-clause-pullable : goal.pull-requires-clause-pullable
pull-requires-clause-pullable c = pullable c.requires.0

pub pull-requires-clause-room_for : goal.pull-requires-clause-room_for
pull-requires-clause-room_for c = room_for-pull c.requires.0 c.args.driver.now c.requires.1

pub returns-in_err-pull : goal.returns-in_err-pull
returns-in_err-pull c =
    let p = err_from_is_err_and c.from_residual.result c.from_residual.ensures.1 in
    rw (p.1, p.2) (pull-stops c.requires.0 c.in_err-pull.ensures)

pub slice_bounds-pulled-count : goal.slice_bounds-pulled-count
slice_bounds-pulled-count c = omega (arith, ap length c.entries.ensures, zombies-stay c.requires.0 c.in_ok-pull.ensures)

pub slice_bounds-pulled-start : goal.slice_bounds-pulled-start
slice_bounds-pulled-start c = omega (arith, ap length c.entries.ensures, zombies-stay c.requires.0 c.in_ok-pull.ensures)

-- the zombies that were just pulled, as the code takes them
its : (c : After-entries) →
    take (length c.entries.result.now - c.args.pool.now.zombies.count) (drop c.args.pool.now.zombies.count c.entries.result.now) ≡
    drop c.args.pool.now.zombies.count (zombies_of c.pull.new.zombies)
its c = end-of c.args.pool.now.zombies.count c.entries.result.now (zombies_of c.pull.new.zombies) c.entries.ensures

pub move_pages-requires-clause-pages_movable : goal.move_pages-requires-clause-pages_movable
move_pages-requires-clause-pages_movable c =
    rw (its (goal.at.move_pages-requires-clause-pages_movable c).After-entries) (pages-movable c.requires.0 c.in_ok-pull.ensures)

pub move_pages-requires-clause-room_for : goal.move_pages-requires-clause-room_for
move_pages-requires-clause-room_for c =
    rw (its (goal.at.move_pages-requires-clause-room_for c).After-entries) (room_for-move c.requires.0 c.in_ok-pull.ensures c.requires.1)

pub returns-in_err-move_pages : goal.returns-in_err-move_pages
returns-in_err-move_pages c =
    let p = err_from_is_err_and c.from_residual-in_err-move_pages.result c.from_residual-in_err-move_pages.ensures.1 in
    let v = rw (its (goal.at.returns-in_err-move_pages c).After-entries) at c.in_err-move_pages.ensures in
    rw (p.1, p.2) (move-stops c.requires.0 c.in_ok-pull.ensures v)

pub must_tell-requires : goal.must_tell-requires
must_tell-requires c =
    let v = rw (its (goal.at.must_tell-requires c).After-entries) at c.in_ok-move_pages.ensures in
    omega (arith, room_for-access c.requires.0 c.in_ok-pull.ensures v c.requires.1)

pub returns-in_err-must_tell : goal.returns-in_err-must_tell
returns-in_err-must_tell c =
    let p = err_from_is_err_and c.from_residual-in_err-must_tell.result c.from_residual-in_err-must_tell.ensures.1 in
    let v = rw (its (goal.at.returns-in_err-must_tell c).After-entries) at c.in_ok-move_pages.ensures in
    rw (p.1, p.2) (access-stops c.requires.0 c.in_ok-pull.ensures v c.in_err-must_tell.ensures)

pub insert_free-requires : goal.insert_free-requires
insert_free-requires c =
    let v = rw (its (goal.at.insert_free-requires c).After-entries) at c.in_ok-move_pages.ensures in
    let d = c.in_ok-must_tell.ensures in (
      insertable c.requires.0 c.in_ok-pull.ensures v,
      omega (arith, room_for-access c.requires.0 c.in_ok-pull.ensures v c.requires.1, d.lent.cells, d.made),
    )

pub returns : goal.returns
returns c =
    let v = rw (its (goal.at.returns c).After-entries) at c.in_ok-move_pages.ensures in
    inserts c.requires.0 c.in_ok-pull.ensures v c.in_ok-must_tell.ensures c.insert_free.ensures
