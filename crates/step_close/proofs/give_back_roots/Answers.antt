-- `step_close::give_back_roots` meets its contract. The invariant: what those left do from here, all do.
use native.Mathlib.Omega.{arith}
use Rattle.std.proofs.lemmas.Result.{err_from_is_err_and}
use Rattle.tables.specs.Values.{empty_root}
use Rattle.tables.specs.Driver.{giveback}
use Rattle.step_close.proofs.Turns.{stands_done, stands-next, stands-stop}
use Rattle.step_close.proofs.give_back_roots.Goals as goal

pub returns-in_err-count_tell : goal.returns-in_err-count_tell
unfolding giveback
returns-in_err-count_tell c =
    let p = err_from_is_err_and c.from_residual.result c.from_residual.ensures.1 in
    rw (p.1, p.2) (stands-stop c.loop-base.invariant empty_root c.loop-base-test.true (omega arith) c.in_err-count_tell.ensures)

pub loop-base-preserved : goal.loop-base-preserved
unfolding giveback
loop-base-preserved c = stands-next c.loop-base.invariant empty_root c.loop-base-test.true c.in_ok-count_tell.ensures

pub returns : goal.returns
returns c = stands_done c.loop-base.invariant (omega arith) (omega arith) (omega arith)
