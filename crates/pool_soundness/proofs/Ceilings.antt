-- The test of the ceilings as the facts that it tests for.
use mathlib.Core.Path.{◌≡◌}
use mathlib.Core.Bool.{true}
use Prim.Native.Nat.{◌+◌, ◌≤◌}
use borrow.Author.Tests.{leb-true}
use lib.Dec.{leb}
use Rattle.lists.proofs.Tests.{both}
use Rattle.tables.specs.Bounds.{HOLES, PAGES, ROOTS, SPANS, ZOMBIES}
use Rattle.tables.specs.WellFormed.{ceilings_kept}
use Rattle.tables.specs.declared.Pool.{Pool}

pub record Counted (p : Pool) : Type 0 where
  pub pages : p.pages.count ≤ PAGES
  pub spans : p.free.count + p.live.count ≤ SPANS
  pub zombies : p.zombies.count ≤ ZOMBIES
  pub holes : p.holes.count + p.zombies.count ≤ HOLES
  pub roots : p.roots.count ≤ ROOTS

pub counted : (p : Pool) → ceilings_kept p ≡ true → Counted p
unfolding ceilings_kept
counted p e =
    let a = both (leb p.pages.count PAGES) _ e in
    let b = both (leb (p.free.count + p.live.count) SPANS) _ a.1 in
    let c = both (leb p.zombies.count ZOMBIES) _ b.1 in
    let d = both (leb (p.holes.count + p.zombies.count) HOLES) (leb p.roots.count ROOTS) c.1 in
    record {
      pages = leb-true p.pages.count PAGES a.0;
      spans = leb-true (p.free.count + p.live.count) SPANS b.0;
      zombies = leb-true p.zombies.count ZOMBIES c.0;
      holes = leb-true (p.holes.count + p.zombies.count) HOLES d.0;
      roots = leb-true p.roots.count ROOTS d.1;
    }
