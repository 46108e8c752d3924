-- Laws of pools whose tables are kept.
use Prim.Native.Nat.{ℕ}
use native.Mathlib.Omega.{arith}
use Rattle.tables.specs.Values.{Tables, pool_of}
use Rattle.tables.specs.Kept.{KeptPool}
use Rattle.tables.proofs.Packs.{free-kept, live-kept, holes-kept, zombies-kept, pages-kept, roots_kept}
use Rattle.keeping.specs.Sound.{Ceilings}

-- tables within their ceilings make a pool of kept tables
pub pool-kept : (state : ℕ) (t : Tables) → Ceilings t → KeptPool (pool_of state t)
unfolding pool_of
pool-kept state t c =
    record {
      free = free-kept t.free (omega (arith, c.spans));
      live = live-kept t.live (omega (arith, c.spans));
      holes = holes-kept t.holes (omega (arith, c.holes));
      zombies = zombies-kept t.zombies c.zombies;
      pages = pages-kept t.pages c.pages;
      roots = roots_kept t.roots c.roots;
    }
