-- What the code that takes the first bytes of a free region needs.
use Rattle.std.specs.Prelude.{List, ℕ, ◌+◌, ◌≤◌, ◌<◌, get_or}
use Rattle.lists.specs.Order.{Rises}
use Rattle.tables.specs.Bounds.{END}
use Rattle.tables.specs.Values.{free_of, empty_region}
use Rattle.tables.specs.Kept.{KeptFree}
use Rattle.tables.specs.InsertFree.{from, upto, without_free, put_rest}
use Rattle.tables.specs.declared.FreeRegion.{FreeRegion}
use Rattle.tables.specs.Values.{FreeRegions}

-- the region at a place
abbrev pub region_at : FreeRegions → ℕ → FreeRegion
region_at t i = get_or (free_of t) i empty_region

-- the first bytes of a region are taken: it goes, and what is left of it stays free
abbrev pub cut_free : ℕ → FreeRegion → List FreeRegion → List FreeRegion
cut_free taken r l = put_rest taken r (without_free (from r) l)

-- The region at the place has that many bytes, ends where addresses end, and reaches no further than to the next one.
pub record Cuttable (t : FreeRegions) (at taken : ℕ) : Type 0 where
  pub kept : KeptFree t
  pub rises : Rises from 0 (free_of t)
  pub placed : at < t.count
  pub enough : taken ≤ (region_at t at).size
  pub ends : upto (region_at t at) ≤ END
  pub apart : at + 1 < t.count → upto (region_at t at) ≤ from (region_at t (at + 1))
