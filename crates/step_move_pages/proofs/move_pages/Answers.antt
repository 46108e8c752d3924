-- `step_move_pages::move_pages` meets its contract. The invariant: what moving the pages of the zombies that are left does from here, moving those of all of
-- them does.
use native.Mathlib.Omega.{arith}
use Rattle.std.proofs.lemmas.Result.{err_from_is_err_and}
use Rattle.tables.specs.Values.{empty_zombie}
use Rattle.step_move_pages.proofs.Walks.{goes-first, goes_done, movable, few, ends-within, goes-stop, goes-next}
use Rattle.step_move_pages.proofs.move_pages.Goals as goal

pub loop-zombie-init : goal.loop-zombie-init
loop-zombie-init c = goes-first c.requires.pages_movable

pub move_zombie-requires : goal.move_zombie-requires
move_zombie-requires c =
    let s = c.loop-zombie.invariant in
    let h = c.loop-zombie-test.true in
    (movable s empty_zombie h, omega (arith, few s empty_zombie h, s.lent.cells, c.requires.room_for))

pub returns-in_err-move_zombie : goal.returns-in_err-move_zombie
returns-in_err-move_zombie c =
    let p = err_from_is_err_and c.from_residual.result c.from_residual.ensures.1 in
    rw (p.1, p.2) (goes-stop c.loop-zombie.invariant empty_zombie c.loop-zombie-test.true c.in_err-move_zombie.ensures)

pub overflow_add-at : goal.overflow_add-at
overflow_add-at c = omega (arith, ends-within c.loop-zombie.invariant empty_zombie c.loop-zombie-test.true)

pub loop-zombie-preserved : goal.loop-zombie-preserved
loop-zombie-preserved c = goes-next c.loop-zombie.invariant empty_zombie c.loop-zombie-test.true c.in_ok-move_zombie.ensures

pub returns : goal.returns
returns c = goes_done c.loop-zombie.invariant (omega arith)
