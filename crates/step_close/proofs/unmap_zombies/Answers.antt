-- `step_close::unmap_zombies` meets its contract. The invariant: what those left do from here, all do.
use native.Mathlib.Omega.{arith}
use Rattle.std.proofs.lemmas.Result.{err_from_is_err_and}
use Rattle.tables.specs.Values.{empty_zombie}
use Rattle.tables.specs.Driver.{unmap}
use Rattle.step_close.proofs.Turns.{stands_done, stands-next, stands-stop}
use Rattle.step_close.proofs.unmap_zombies.Goals as goal

pub returns-in_err-count_tell : goal.returns-in_err-count_tell
unfolding unmap
returns-in_err-count_tell c =
    let p = err_from_is_err_and c.from_residual.result c.from_residual.ensures.1 in
    rw (p.1, p.2) (stands-stop c.loop-z.invariant empty_zombie c.loop-z-test.true (omega arith) c.in_err-count_tell.ensures)

pub loop-z-preserved : goal.loop-z-preserved
unfolding unmap
loop-z-preserved c = stands-next c.loop-z.invariant empty_zombie c.loop-z-test.true c.in_ok-count_tell.ensures

pub returns : goal.returns
returns c = stands_done c.loop-z.invariant (omega arith) (omega arith) (omega arith)
