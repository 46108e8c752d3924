-- `step_new_pages::make_pages` meets its contract. The invariant is `Making`: whatever making the pages that are left does, making all of them does.
use mathlib.Core.Path.{◌≡◌, refl, ap, sym, ◌∙◌}
use Prim.Native.Nat.{◌+◌, ◌-◌}
use native.Mathlib.Omega.{arith}
use borrow.Author.Rules.{rules}
use Rattle.std.proofs.lemmas.Result.{err_from_is_err_and}
use Rattle.lists.proofs.Order.{rises-ascends}
use Rattle.tables.specs.Steps.{on}
use Rattle.tables.specs.Values.{pages_of}
use Rattle.tables.specs.NewPages.{at}
use Rattle.step_new_pages.proofs.Making.{
  making-begins,
  making_done,
  room-driver,
  room_for-one,
  page-fits,
  making-missing,
  making-there,
  making-failed,
  returnable,
  making-back,
  making-active,
  making-unmapped,
  making-next,
}
use Rattle.step_new_pages.proofs.make_pages.Goals as goal

pub loop-init : goal.loop-init
loop-init c = making-begins c.requires (omega arith)

pub create-requires : goal.create-requires
create-requires c = omega (arith, room-driver c.loop.invariant (omega (arith, c.loop-test.true)) c.requires.log)

pub returns-in_err-handle : goal.returns-in_err-handle
returns-in_err-handle c =
    let p = err_from_is_err_and c.from_residual.result c.from_residual.ensures.1 in
    rw (p.1, p.2) (making-missing c.loop.invariant (omega (arith, c.loop-test.true)) c.in_err-handle.ensures refl)

pub roll_back-requires : goal.roll_back-requires
roll_back-requires c = returnable c.loop.invariant (omega (arith, c.loop-test.true)) c.in_ok-handle.ensures c.requires.log

pub returns-in-Failed-eq2 : goal.returns-in-Failed-eq2
returns-in-Failed-eq2 c =
    let z = c.in-Failed-eq2 in
    making-back c.loop.invariant (omega (arith, c.loop-test.true)) c.in_ok-handle.ensures (ap on z.is) z.field-0-test c.roll_back.ensures

pub returns-in-Failed : goal.returns-in-Failed
returns-in-Failed c =
    making-failed c.loop.invariant (omega (arith, c.loop-test.true)) c.in_ok-handle.ensures (ap on c.in-Failed.is) c.in-Failed.code-test.1

pub returns-in-Missing : goal.returns-in-Missing
returns-in-Missing c = making-there c.loop.invariant (omega (arith, c.loop-test.true)) c.in_ok-handle.ensures (ap on c.in-Missing.is)

pub returns-then-is_active : goal.returns-then-is_active
returns-then-is_active c =
    making-active c.loop.invariant (omega (arith, c.loop-test.true)) c.in_ok-handle.ensures (ap on c.in-Done.is)
    (sym c.is_active.ensures ∙ c.if-is_active.true)

pub must_tell-requires : goal.must_tell-requires
must_tell-requires c =
    let d = c.in_ok-handle.ensures in
    omega (arith, room-driver c.loop.invariant (omega (arith, c.loop-test.true)) c.requires.log, d.lent.cells, d.made)

pub returns-in_err-must_tell : goal.returns-in_err-must_tell
returns-in_err-must_tell c =
    let p = err_from_is_err_and c.from_residual-in_err-must_tell.result c.from_residual-in_err-must_tell.ensures.1 in
    rw (p.1, p.2)
    (making-unmapped c.loop.invariant (omega (arith, c.loop-test.true)) c.in_ok-handle.ensures (ap on c.in-Done.is)
    (sym c.is_active.ensures ∙ c.if-is_active.false) c.in_err-must_tell.ensures refl)

pub put_from_end-requires : goal.put_from_end-requires
put_from_end-requires c =
    let w = c.loop.invariant in (
      search rules,
      ((w.pages, room_for-one w (omega (arith, c.loop-test.true))), rises-ascends at 0 (pages_of c.loop.pages) w.taken.sound.pages_rise),
    )

pub overflow_add-at : goal.overflow_add-at
overflow_add-at c = omega (arith, page-fits c.loop.invariant (omega (arith, c.loop-test.true)))

pub loop-preserved : goal.loop-preserved
loop-preserved c =
    let left : c.args.count - c.loop.counter - 1 ≡ c.args.count - (c.loop.counter + 1) = omega arith in
    rw left at
    (making-next c.loop.invariant (omega (arith, c.loop-test.true)) c.in_ok-handle.ensures (ap on c.in-Done.is)
    (sym c.is_active.ensures ∙ c.if-is_active.false) c.in_ok-must_tell.ensures refl c.put_from_end.ensures)

pub returns : goal.returns
returns c = making_done c.loop.invariant (omega (arith, c.loop-test.false))
