-- `step_new_pages::roll_back` meets its contract. The invariant is `Unmaking`: whatever unmaking the new pages from a place on does, unmaking all of them
-- does.
use mathlib.Core.Path.{sym, ◌∙◌}
use native.Mathlib.Omega.{arith}
use Rattle.std.proofs.lemmas.Result.{err_from_is_err_and}
use Rattle.tables.specs.Values.{empty_page}
use Rattle.step_new_pages.proofs.Unmaking.{unmaking-first, unmaking_done, unmaking-old, unmakable, unmaking-next, unmaking-stop}
use Rattle.step_new_pages.proofs.roll_back.Goals as goal
use Rattle.step_new_pages.proofs.roll_back.Goals.{then-is_new+in_ok-unmake, else-is_new}

pub loop-g-init : goal.loop-g-init
loop-g-init c = unmaking-first c.entries-g-items.ensures c.requires

pub unmake-requires : goal.unmake-requires
unmake-requires c =
    unmakable c.loop-g.invariant empty_page c.loop-g-test.true (sym c.is_new.ensures ∙ c.if-is_new.true) c.requires

pub returns-in_err-unmake : goal.returns-in_err-unmake
returns-in_err-unmake c =
    let p = err_from_is_err_and c.from_residual.result c.from_residual.ensures.1 in
    rw (p.1, p.2)
    (unmaking-stop c.loop-g.invariant empty_page c.loop-g-test.true (sym c.is_new.ensures ∙ c.if-is_new.true) c.requires c.in_err-unmake.ensures)

pub loop-g-preserved : goal.loop-g-preserved
loop-g-preserved c =
    let s = c.loop-g.invariant in
    elim c.if-is_new.branch [
      | then-is_new+in_ok-unmake w ↦
          rw (w.pages-is, w.driver-is)
          (unmaking-next s empty_page c.loop-g-test.true (sym c.is_new.ensures ∙ w.if-is_new.true) w.in_ok-unmake.ensures)
      | else-is_new w ↦ rw (w.pages-is, w.driver-is) (unmaking-old s empty_page c.loop-g-test.true (sym c.is_new.ensures ∙ w.if-is_new.false))
    ]

pub returns : goal.returns
returns c = unmaking_done c.loop-g.invariant c.requires (omega (arith, c.loop-g-test.false)) c.put_back.ensures
