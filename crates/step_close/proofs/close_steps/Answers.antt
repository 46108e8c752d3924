-- `step_close::close_steps` meets its contract: its parts are the steps of the rule in order.
use mathlib.Core.Path.{◌≡◌, ap}
use mathlib.Core.List.{List}
use Prim.Native.Nat.{ℕ, ◌≤◌}
use native.Mathlib.Omega.{arith}
use lib.ListN.{length}
use Rattle.std.proofs.lemmas.Result.{err_from_is_err_and}
use Rattle.cells.specs.Table.{entries, Kept}
use Rattle.cells.specs.declared.Table.{Table}
use Rattle.cells.proofs.Packs.{count_is}
use Rattle.tables.specs.Values.{tables_of}
use Rattle.tables.specs.Driver.{sync}
use Rattle.tables.specs.Close.{close_steps}
use Rattle.driving.proofs.Lent.{lent-then}
use Rattle.step_close.proofs.Counting.{looked, next, stop}
use Rattle.step_close.proofs.close_steps.Goals as goal

-- what is lent of a kept table is no longer than its ceiling
short : {A : Type 0} {n : ℕ} {z : A} {t : Table A n} {l : List A} → Kept z t → l ≡ entries t → length l ≤ n
short {z = z} {t = t} k e = omega (arith, ap length e, count_is z t k, k.most)

pub returns-in_err-count_tell : goal.returns-in_err-count_tell
unfolding close_steps sync tables_of
returns-in_err-count_tell c =
    let p = err_from_is_err_and c.from_residual.result c.from_residual.ensures.1 in
    let a = c.in_err-count_tell.ensures in
    rw (p.1, p.2)
    (record {
      lent = a.lent;
      ran = next _ looked (stop _ (a.ran (tables_of c.args.pool.now)));
      only = a.only;
      most = omega (arith, a.most);
    })

pub unmap_zombies-requires : goal.unmap_zombies-requires
unmap_zombies-requires c =
    let a = c.in_ok-count_tell.ensures in
    let z = short c.requires.0.0.zombies c.entries.ensures in
    (a.few, omega (arith, c.requires.1, a.lent.cells, a.most, z))

pub returns-in_err-unmap_zombies : goal.returns-in_err-unmap_zombies
unfolding close_steps sync tables_of
returns-in_err-unmap_zombies c =
    let p = err_from_is_err_and c.from_residual-in_err-unmap_zombies.result c.from_residual-in_err-unmap_zombies.ensures.1 in
    let a = c.in_ok-count_tell.ensures in
    let b = c.in_err-unmap_zombies.ensures in
    let z = short c.requires.0.0.zombies c.entries.ensures in
    rw (p.1, p.2)
    (record {
      lent = lent-then a.lent b.lent;
      ran = next _ looked (next _ (a.ran (tables_of c.args.pool.now))
          (stop _ (rw (a.lent.answers, c.entries.ensures) at (b.ran (tables_of c.args.pool.now)))));
      only = b.only;
      most = omega (arith, a.most, b.most, z);
    })

pub close_pages-requires : goal.close_pages-requires
close_pages-requires c =
    let a = c.in_ok-count_tell.ensures in
    let b = c.in_ok-unmap_zombies.ensures in
    let z = short c.requires.0.0.zombies c.entries.ensures in
    let g = short c.requires.0.0.pages c.entries-2.ensures in
    (b.few, omega (arith, c.requires.1, a.lent.cells, a.most, b.lent.cells, b.most, z, g))

pub returns-in_err-close_pages : goal.returns-in_err-close_pages
unfolding close_steps sync tables_of
returns-in_err-close_pages c =
    let p = err_from_is_err_and c.from_residual-in_err-close_pages.result c.from_residual-in_err-close_pages.ensures.1 in
    let a = c.in_ok-count_tell.ensures in
    let b = c.in_ok-unmap_zombies.ensures in
    let d = c.in_err-close_pages.ensures in
    let z = short c.requires.0.0.zombies c.entries.ensures in
    let g = short c.requires.0.0.pages c.entries-2.ensures in
    rw (p.1, p.2)
    (record {
      lent = lent-then a.lent (lent-then b.lent d.lent);
      ran = next _ looked (next _ (a.ran (tables_of c.args.pool.now))
          (next _ (rw (a.lent.answers, c.entries.ensures) at (b.ran (tables_of c.args.pool.now)))
          (stop _ (rw (b.lent.answers, a.lent.answers, c.entries-2.ensures) at (d.ran (tables_of c.args.pool.now))))));
      only = d.only;
      most = omega (arith, a.most, b.most, d.most, z, g);
    })

pub give_back_roots-requires : goal.give_back_roots-requires
give_back_roots-requires c =
    let a = c.in_ok-count_tell.ensures in
    let b = c.in_ok-unmap_zombies.ensures in
    let d = c.in_ok-close_pages.ensures in
    let z = short c.requires.0.0.zombies c.entries.ensures in
    let g = short c.requires.0.0.pages c.entries-2.ensures in
    let r = short c.requires.0.0.roots c.entries-3.ensures in
    (d.few, omega (arith, c.requires.1, a.lent.cells, a.most, b.lent.cells, b.most, d.lent.cells, d.most, z, g, r))

pub returns : goal.returns
unfolding close_steps sync tables_of
returns c =
    let a = c.in_ok-count_tell.ensures in
    let b = c.in_ok-unmap_zombies.ensures in
    let d = c.in_ok-close_pages.ensures in
    let e = c.give_back_roots.ensures in
    let z = short c.requires.0.0.zombies c.entries.ensures in
    let g = short c.requires.0.0.pages c.entries-2.ensures in
    let r = short c.requires.0.0.roots c.entries-3.ensures in
    record {
      lent = lent-then a.lent (lent-then b.lent (lent-then d.lent e.lent));
      ran = next _ looked (next _ (a.ran (tables_of c.args.pool.now))
          (next _ (rw (a.lent.answers, c.entries.ensures) at (b.ran (tables_of c.args.pool.now)))
          (next _ (rw (b.lent.answers, a.lent.answers, c.entries-2.ensures) at (d.ran (tables_of c.args.pool.now)))
          (rw (d.lent.answers, b.lent.answers, a.lent.answers, c.entries-3.ensures) at (e.ran (tables_of c.args.pool.now))))));
      only = e.only;
      most = omega (arith, a.most, b.most, d.most, e.most, z, g, r);
    }
