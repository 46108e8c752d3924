-- `tables::Pool::ceilings_kept` meets its contract: each return rewrites with the tests that led there, a difference for each sum.
use mathlib.Core.Path.{◌≡◌}
use mathlib.Core.Bool.{false, ◌&&◌}
use Prim.Native.Nat.{◌+◌, ◌≤◌, ◌<◌}
use native.Mathlib.Omega.{arith}
use borrow.Author.Tests.{le-leb, lt-leb}
use lib.Dec.{leb}
use Rattle.tables.specs.Bounds.{HOLES, PAGES, ROOTS, SPANS, ZOMBIES}
use Rattle.tables.specs.WellFormed.{ceilings_kept}
use Rattle.tables.specs.declared.Pool.{Pool}
use Rattle.tables.proofs.Pool.ceilings_kept.Goals as goal

too_many : (p : Pool) → p.pages.count ≤ PAGES → SPANS < p.free.count + p.live.count → false ≡ ceilings_kept p
unfolding ceilings_kept
too_many p h k = rw (le-leb p.pages.count PAGES h, lt-leb (p.free.count + p.live.count) SPANS k)

-- with pages, spans and zombies within theirs
others : (p : Pool) → p.pages.count ≤ PAGES → p.free.count + p.live.count ≤ SPANS → p.zombies.count ≤ ZOMBIES →
    ceilings_kept p ≡ (leb (p.holes.count + p.zombies.count) HOLES && leb p.roots.count ROOTS)
unfolding ceilings_kept
others p h k z = rw (le-leb p.pages.count PAGES h, le-leb (p.free.count + p.live.count) SPANS k, le-leb p.zombies.count ZOMBIES z)

pub returns-then-self-gt-PAGES : goal.returns-then-self-gt-PAGES
unfolding ceilings_kept
returns-then-self-gt-PAGES c = rw (lt-leb _ PAGES c.if-self-gt-PAGES.true)

pub returns-then-self-gt-SPANS : goal.returns-then-self-gt-SPANS
returns-then-self-gt-SPANS c = too_many c.args.self.now (omega arith) (omega arith)

pub returns-then-self : goal.returns-then-self
returns-then-self c = too_many c.args.self.now (omega arith) (omega arith)

pub returns-then-self-gt-ZOMBIES : goal.returns-then-self-gt-ZOMBIES
unfolding ceilings_kept
returns-then-self-gt-ZOMBIES c =
    let p = c.args.self.now in
    rw (le-leb p.pages.count PAGES (omega arith), le-leb (p.free.count + p.live.count) SPANS (omega arith), lt-leb _ ZOMBIES c.if-self-gt-ZOMBIES.true)

pub returns-then-self-2 : goal.returns-then-self-2
returns-then-self-2 c =
    let p = c.args.self.now in
    rw (others p (omega arith) (omega arith) (omega arith), lt-leb (p.holes.count + p.zombies.count) HOLES (omega arith))

pub returns : goal.returns
returns c =
    let p = c.args.self.now in
    rw (others p (omega arith) (omega arith) (omega arith), le-leb (p.holes.count + p.zombies.count) HOLES (omega arith))
