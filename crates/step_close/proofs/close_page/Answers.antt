-- `step_close::close_page` meets its contract: two driver calls, one after the other.
use native.Mathlib.Omega.{arith}
use Rattle.std.proofs.lemmas.Result.{err_from_is_err_and}
use Rattle.tables.specs.Driver.{unmap, release}
use Rattle.driving.proofs.Lent.{lent-then}
use Rattle.step_close.proofs.Counting.{next, stop}
use Rattle.step_close.proofs.close_page.Goals as goal

pub returns-in_err-count_tell : goal.returns-in_err-count_tell
unfolding unmap release
returns-in_err-count_tell c =
    let p = err_from_is_err_and c.from_residual.result c.from_residual.ensures.1 in
    let d = c.in_err-count_tell.ensures in
    rw (p.1, p.2)
    (record {
      lent = d.lent;
      ran = λ t. stop _ (d.ran t);
      only = d.only;
      most = omega (arith, d.most);
      few = d.few;
    })

pub returns : goal.returns
unfolding unmap release
returns c =
    let d = c.in_ok-count_tell.ensures in
    let e = c.count_tell-2.ensures in
    record {
      lent = lent-then d.lent e.lent;
      ran = λ t. next _ (d.ran t) (rw d.lent.answers at (e.ran t));
      only = e.only;
      most = omega (arith, d.most, e.most);
      few = e.few;
    }
