-- `step_new_pages::unmake` meets its contract: where an answer is left the page is taken out, then released.
use mathlib.Core.Path.{◌≡◌, ap, ◌∙◌}
use mathlib.Core.Bool.{not}
use native.Mathlib.Omega.{arith}
use lib.Dec.{eqb}
use Rattle.std.proofs.lemmas.Result.{err_from_is_err_and}
use Rattle.lists.specs.Order.{without}
use Rattle.lists.proofs.Tests.{length-filter}
use Rattle.lists.proofs.Members.{rises-without}
use Rattle.tables.specs.Values.{pages_of, with_pages}
use Rattle.tables.specs.Driver.{unmap, release}
use Rattle.tables.specs.NewPages.{at, unmake}
use Rattle.tables.proofs.Packs.{pages_pack, pages-kept, pages-count}
use Rattle.driving.proofs.Ran.{next, stop, looked, changed}
use Rattle.driving.proofs.Lent.{lent-then}
use Rattle.step_new_pages.proofs.unmake.Goals as goal

pub returns-in_err-try_tell : goal.returns-in_err-try_tell
unfolding unmake unmap
returns-in_err-try_tell c =
    let p = err_from_is_err_and c.from_residual.result c.from_residual.ensures.1 in
    let d = c.in_err-try_tell.ensures in
    rw (p.1, p.2) (record {
      lent = d.lent;
      ran = λ t e. next _ looked (stop _ (rw (← e) at (d.ran (with_pages (pages_of c.args.pages.now) t))));
      pages = c.requires.pages;
      rises = c.requires.rises;
      most = omega (arith, d.made);
    })

pub returns : goal.returns
unfolding unmake unmap release
returns c =
    let l = pages_of c.args.pages.now in
    let a = at c.args.g in
    let d = c.in_ok-try_tell.ensures in
    let f = c.try_tell-2.ensures in
    let list_of : pages_of c.without_page.new.pages ≡ without at a l = ap pages_of c.without_page.ensures ∙ pages_pack _ in
    record {
      lent = lent-then d.lent f.lent;
      ran = λ t e.
          rw list_of
          (next _ looked (next _ (rw (← e) at (d.ran (with_pages l t)))
          (next _ (changed _) (rw d.lent.answers at (f.ran (with_pages (without at a l) t))))));
      pages = rw c.without_page.ensures
          (pages-kept _ (omega (arith, length-filter (λ q. not (eqb (at q) a)) l, pages-count c.args.pages.now c.requires.pages, c.requires.pages.most)));
      rises = rw list_of (rises-without at a 0 l c.requires.rises);
      most = omega (arith, d.made, f.made);
    }
