-- What handing over a region needs, and what it promises.
use Rattle.std.specs.Prelude.{List, ℕ, ◌<◌}
use Rattle.words.specs.declared.Address.{Address}
use Rattle.tables.specs.Values.{Tables, free_of, live_of, with_free, with_live}
use Rattle.tables.specs.Kept.{KeptFree, KeptLive}
use Rattle.tables.specs.Steps.{on}
use Rattle.tables.specs.Malloc.{hand_over}
use Rattle.tables.specs.Values.{FreeRegions}
use Rattle.tables.specs.Values.{LiveBuffers}
use Rattle.tables.specs.declared.Outcome.TheVariants.{Allocated}
use Rattle.keeping.specs.Malloc.{Handing}
use Rattle.regions.specs.Cutting.{region_at}
use Rattle.driving.specs.Ran.{Ran, point}

-- the tables `t`, with these free regions and live buffers
abbrev pub handing : FreeRegions → LiveBuffers → Tables → Tables
handing f b t = with_live (live_of b) (with_free (free_of f) t)

-- Both tables are kept, and there are tables around them in which `n` bytes of the region at the place `i` can be handed over.
pub record Handable (n i : ℕ) (f : FreeRegions) (b : LiveBuffers) : Type 0 where
  pub free : KeptFree f
  pub live : KeptLive b
  pub placed : i < f.count
  pub lost : ℕ → ℕ
  pub around : Tables
  pub due : Handing lost n (region_at f i) (handing f b around)

-- The first `n` bytes of the region at the place `i` are handed over on stream `s`, with no driver call.
pub record HandsOver (n s i : ℕ) (f : FreeRegions) (b : LiveBuffers) (start : Address) (f' : FreeRegions) (b' : LiveBuffers) : Type 0 where
  pub ran : (xs : List ℕ) (k : ℕ) (t : Tables) (l : List ℕ) →
      Ran (hand_over n s (region_at f i)) xs (point k (handing f b t) l) (on (Allocated start n)) (point k (handing f' b' t) l)
  pub free : KeptFree f'
  pub live : KeptLive b'
