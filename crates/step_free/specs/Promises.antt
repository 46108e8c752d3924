-- What the steps of free need, and what they promise.
use Rattle.std.specs.Prelude.{Result, ℕ, ◌<◌, get_or}
use Rattle.tables.specs.Bounds.{END}
use Rattle.tables.specs.Values.{FreeRegions, LiveBuffers, live_of, tables_of, empty_buffer}
use Rattle.tables.specs.Kept.{KeptPool}
use Rattle.tables.specs.Free.{free_steps}
use Rattle.tables.specs.declared.Outcome.{Outcome}
use Rattle.tables.specs.declared.Pool.{Pool}
use Rattle.keeping.specs.Sound.{Kept}
use Rattle.driving.specs.Ran.{Lent}
use Rattle.driving.specs.Pools.{PoolRan}
use Rattle.driving.specs.Endings.{ending}
use Rattle.driving.specs.declared.Driver.{Driver}

-- the pool `p`, with these buffers, free regions and counter
abbrev pub holding : LiveBuffers → FreeRegions → ℕ → Pool → Pool
holding b f c p =
    record {
      state = p.state;
      page = p.page;
      va = p.va;
      counter = c;
      free = f;
      live = b;
      holes = p.holes;
      zombies = p.zombies;
      pages = p.pages;
      roots = p.roots;
    }

-- There is a kept pool around the two tables and the counter, and a live buffer stands at the place `i`.
pub record Freeable (i : ℕ) (b : LiveBuffers) (f : FreeRegions) (c : ℕ) : Type 0 where
  pub around : Pool
  pub tables : KeptPool (holding b f c around)
  pub lost : ℕ → ℕ
  pub kept : Kept lost (tables_of (holding b f c around))
  pub ids : c < END
  pub placed : i < b.count

-- In every kept pool with these tables and this counter, the buffer at the place `i` is freed, with one driver call. What was lent needs no pool.
pub record FreeRan (i : ℕ) (b : LiveBuffers) (f : FreeRegions) (c : ℕ) (d : Driver) (r : Result Outcome Outcome) (d' : Driver) (b' : LiveBuffers)
    (f' : FreeRegions) (c' : ℕ) : Type 0 where
  pub lent : Lent d d'
  pub ran : (p : Pool) → KeptPool (holding b f c p) →
      PoolRan (free_steps (get_or (live_of b) i empty_buffer)) 1 d (holding b f c p) (ending r) d' (holding b' f' c' p)
