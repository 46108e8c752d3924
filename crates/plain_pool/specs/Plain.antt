-- A pool and its plain form: the same numbers, in the same order.
use Rattle.std.specs.Prelude.{◌≡◌, refl}
use Rattle.tables.specs.declared.Pool.{Pool}
use Rattle.plain_pool.specs.declared.PlainPool.{PlainPool}

abbrev pub pool_of : PlainPool → Pool
pool_of p =
    record {
      state = p.state;
      page = p.page;
      va = p.va;
      counter = p.counter;
      free = record { cells = p.free.cells; count = p.free.count };
      live = record { cells = p.live.cells; count = p.live.count };
      holes = record { cells = p.holes.cells; count = p.holes.count };
      zombies = record { cells = p.zombies.cells; count = p.zombies.count };
      pages = record { cells = p.pages.cells; count = p.pages.count };
      roots = record { cells = p.roots.cells; count = p.roots.count };
    }

abbrev pub plain_of : Pool → PlainPool
plain_of p =
    record {
      state = p.state;
      page = p.page;
      va = p.va;
      counter = p.counter;
      free = record { cells = p.free.cells; count = p.free.count };
      live = record { cells = p.live.cells; count = p.live.count };
      holes = record { cells = p.holes.cells; count = p.holes.count };
      zombies = record { cells = p.zombies.cells; count = p.zombies.count };
      pages = record { cells = p.pages.cells; count = p.pages.count };
      roots = record { cells = p.roots.cells; count = p.roots.count };
    }

-- nothing is lost on the way
pub there_and_back : (p : Pool) → pool_of (plain_of p) ≡ p
there_and_back p = refl

pub back_and_there : (p : PlainPool) → plain_of (pool_of p) ≡ p
back_and_there p = refl
