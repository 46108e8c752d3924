-- `step_close::close_pages` meets its contract. The invariant: what those left do from here, all do.
use native.Mathlib.Omega.{arith}
use Rattle.std.proofs.lemmas.Result.{err_from_is_err_and}
use Rattle.tables.specs.Values.{empty_page}
use Rattle.step_close.proofs.Turns.{stands_done, stands-next, stands-stop}
use Rattle.step_close.proofs.close_pages.Goals as goal

pub returns-in_err-close_page : goal.returns-in_err-close_page
returns-in_err-close_page c =
    let p = err_from_is_err_and c.from_residual.result c.from_residual.ensures.1 in
    rw (p.1, p.2) (stands-stop c.loop-g.invariant empty_page c.loop-g-test.true (omega arith) c.in_err-close_page.ensures)

pub loop-g-preserved : goal.loop-g-preserved
loop-g-preserved c = stands-next c.loop-g.invariant empty_page c.loop-g-test.true c.in_ok-close_page.ensures

pub returns : goal.returns
returns c = stands_done c.loop-g.invariant (omega arith) (omega arith) (omega arith)
