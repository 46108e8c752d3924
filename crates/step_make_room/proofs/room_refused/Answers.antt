-- `step_make_room::room_refused` meets its contract: each way out of it is a way of the rule, by what its tests told.
use mathlib.Core.Path.{◌≡◌, ap, sym, ◌∙◌}
use mathlib.Core.Option.{some, none}
use Prim.Native.Nat.{ℕ, ◌+◌, ◌-◌, ◌/◌, ◌≤◌, ◌<◌}
use native.Mathlib.Omega.{arith}
use lib.ListN.{length, get_or}
use Rattle.tables.specs.Bounds.{HOLES, PAGES, ROOTS, SPANS}
use Rattle.tables.specs.Values.{free_of, holes_of, zombies_of, pages_of, roots_of, tables_of, empty_hole}
use Rattle.cells.specs.Table.{chosen}
use Rattle.tables.specs.InsertFree.{bytes}
use Rattle.tables.specs.TakeRange.{smallest_hole}
use Rattle.tables.specs.declared.Pool.{Pool}
use Rattle.tables.proofs.Packs.{free-count, holes-count, zombies-count, pages-count, roots-count}
use Rattle.step_make_room.specs.Promises.{Readable}
use Rattle.step_make_room.proofs.Refusing.{too_large, pages-full, zombies-full, roots-full, root-left, hole-left}
use Rattle.step_make_room.proofs.room_refused.Goals as goal

module _ {n m : ℕ} {p : Pool} (g : Readable n m p) where
  -- the pages that are missing, as the rule has them
  missing-is : m / p.page ≡ (n - bytes (free_of p.free)) / p.page
  unfolding tables_of
  missing-is = ap (λ m. m / p.page) g.lacks

  -- 9 is passed
  few : m / p.page ≤ PAGES - p.pages.count → length (pages_of p.pages) + (n - bytes (free_of p.free)) / p.page ≤ PAGES
  few h = omega (arith, missing-is, pages-count p.pages g.tables.pages, g.tables.pages.most)

  -- 10 is passed, in its two parts
  pullable : p.zombies.count + p.free.count ≤ SPANS → length (zombies_of p.zombies) + length (free_of p.free) ≤ SPANS
  pullable h = omega (arith, zombies-count p.zombies g.tables.zombies, free-count p.free g.tables.free)

  holes : p.zombies.count + p.free.count + p.holes.count < HOLES →
      length (zombies_of p.zombies) + length (free_of p.free) + length (holes_of p.holes) ≤ (HOLES - 1)
  holes h =
      omega (arith, zombies-count p.zombies g.tables.zombies, free-count p.free g.tables.free, holes-count p.holes g.tables.holes)

pub returns-then-pool-requested : goal.returns-then-pool-requested
unfolding tables_of
returns-then-pool-requested c = record { ran = λ xs k l. too_large _ c.if-pool-requested.true }

pub nonzero_div-missing : goal.nonzero_div-missing
unfolding tables_of
nonzero_div-missing c = c.requires.kept.sound.page

pub returns-then-left-missing : goal.returns-then-left-missing
unfolding tables_of
returns-then-left-missing c =
    let a = c.args in
    let full : PAGES < length (pages_of a.pool.now.pages) + (a.requested - bytes (free_of a.pool.now.free)) / a.pool.now.page =
    omega (arith, c.if-left-missing.true, missing-is c.requires, pages-count a.pool.now.pages c.requires.tables.pages, c.requires.tables.pages.most) in
    record { ran = λ xs k l. pages-full _ c.if-pool-requested.false full }

pub returns-then-pulled-gt-ZOMBIES : goal.returns-then-pulled-gt-ZOMBIES
unfolding tables_of
returns-then-pulled-gt-ZOMBIES c =
    let p = c.args.pool.now in
    let full : SPANS < length (zombies_of p.zombies) + length (free_of p.free) =
    omega (arith, c.if-pulled-gt-ZOMBIES.true, zombies-count p.zombies c.requires.tables.zombies, free-count p.free c.requires.tables.free) in
    record { ran = λ xs k l. zombies-full _ c.if-pool-requested.false (few c.requires c.if-left-missing.false) full }

pub returns-then-pool-lt-ROOTS : goal.returns-then-pool-lt-ROOTS
unfolding tables_of
returns-then-pool-lt-ROOTS c =
    let g = c.requires in
    let left : length (roots_of c.args.pool.now.roots) < ROOTS = omega (arith, c.if-pool-lt-ROOTS.true, roots-count c.args.pool.now.roots g.tables.roots) in
    record {
      ran = λ xs k l. root-left _ c.if-pool-requested.false (few g c.if-left-missing.false) (pullable g c.if-pulled-gt-ZOMBIES.false)
          (holes g (omega arith)) left;
    }

pub returns-in-None : goal.returns-in-None
unfolding tables_of chosen
returns-in-None c =
    let g = c.requires in
    let l = holes_of c.args.pool.now.holes in
    let none_so : smallest_hole c.args.requested l ≡ none = sym c.smallest_hole.ensures.is ∙ ap (chosen empty_hole l) c.in-None.is in
    let spent : ROOTS ≤ length (roots_of c.args.pool.now.roots) =
    omega (arith, c.if-pool-lt-ROOTS.false, roots-count c.args.pool.now.roots g.tables.roots) in
    record {
      ran = λ xs k l. roots-full _ c.if-pool-requested.false (few g c.if-left-missing.false) (pullable g c.if-pulled-gt-ZOMBIES.false)
          (holes g (omega arith)) none_so spent;
    }

pub returns-in-Some : goal.returns-in-Some
unfolding tables_of chosen
returns-in-Some c =
    let g = c.requires in
    let l = holes_of c.args.pool.now.holes in
    let so : smallest_hole c.args.requested l ≡ some (get_or l c.in-Some.field-0 empty_hole) =
    sym c.smallest_hole.ensures.is ∙ ap (chosen empty_hole l) c.in-Some.is in
    record {
      ran = λ xs k l. hole-left _ c.if-pool-requested.false (few g c.if-left-missing.false) (pullable g c.if-pulled-gt-ZOMBIES.false)
          (holes g (omega arith)) _ so;
    }
