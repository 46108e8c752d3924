-- `step_move_pages::move_zombie` meets its contract. The invariant: what moving the pages that are left does from here, moving all of them does, whatever
-- is moved after them.
use mathlib.Core.Path.{◌≡◌, refl}
use Prim.Native.Nat.{◌+◌, ◌-◌, ◌*◌, ◌/◌}
use native.Mathlib.Omega.{arith}
use Rattle.keeping.proofs.Whole.{aligned-pages}
use Rattle.step_move_pages.proofs.Walks.{walks-first, walks_done, waits, walks-next, walks-stop}
use Rattle.step_move_pages.proofs.Turns.{mul-more}
use Rattle.step_move_pages.proofs.Sounds.{fits-page, in-use}
use Rattle.step_move_pages.proofs.move_zombie.Goals as goal

pub loop-init : goal.loop-init
loop-init c = walks-first (omega arith)

pub handle_at-handle-requires : goal.handle_at-handle-requires
handle_at-handle-requires c = (waits c.loop.invariant (omega (arith, c.loop-test.true)) _ c.requires.0.waiting).pages

pub must_tell-requires : goal.must_tell-requires
must_tell-requires c = omega (arith, c.requires.1, c.loop.invariant.lent.cells, c.loop.invariant.most, c.loop-test.true)

pub without_page-requires : goal.without_page-requires
without_page-requires c =
    let w = waits c.loop.invariant (omega (arith, c.loop-test.true)) _ c.requires.0.waiting in
    (w.pages, w.moving.sound.pages_rise)

pub returns-in-Err : goal.returns-in-Err
returns-in-Err c =
    walks-stop c.loop.invariant (omega (arith, c.loop-test.true)) c.handle_at-handle.ensures c.in-Err.ensures refl c.without_page.ensures _
    c.requires.0.waiting

pub with_moved-requires-clause-kept_pages : goal.with_moved-requires-clause-kept_pages
with_moved-requires-clause-kept_pages c =
    let w = waits c.loop.invariant (omega (arith, c.loop-test.true)) _ c.requires.0.waiting in
    (w.pages, w.moving.sound.pages_rise)

pub with_moved-requires-clause-active : goal.with_moved-requires-clause-active
with_moved-requires-clause-active c = in-use (waits c.loop.invariant (omega (arith, c.loop-test.true)) _ c.requires.0.waiting)

pub overflow_add-from : goal.overflow_add-from
overflow_add-from c =
    let s = c.loop.invariant in
    let p = c.args.page in
    let k = c.args.zombie.size / p in
    let whole : k * p ≡ c.args.zombie.size = aligned-pages p c.args.zombie.size c.requires.0.range.size.aligned in
    omega (arith, s.from, whole, mul-more (k - c.loop.counter) p (omega (arith, c.loop-test.true)), c.requires.0.end)

pub overflow_add-at : goal.overflow_add-at
overflow_add-at c = omega (arith, fits-page (waits c.loop.invariant (omega (arith, c.loop-test.true)) _ c.requires.0.waiting))

pub loop-preserved : goal.loop-preserved
loop-preserved c =
    let left : c.args.zombie.size / c.args.page - c.loop.counter - 1 ≡ c.args.zombie.size / c.args.page - (c.loop.counter + 1) = omega arith in
    rw left at
    (walks-next c.loop.invariant (omega (arith, c.loop-test.true)) c.handle_at-handle.ensures c.in_default.ensures refl c.with_moved.ensures)

pub returns : goal.returns
returns c = walks_done c.loop.invariant (omega (arith, c.loop-test.false)) _ c.requires.0.waiting
