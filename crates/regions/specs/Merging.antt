-- What becomes of the free regions where a range is inserted as free.
use Rattle.std.specs.Prelude.{◌≡◌, not, ℕ, ◌+◌, min}
use mathlib.Core.List.{List, foldr}
use Rattle.lists.specs.Tests.{filter}
use Rattle.tables.specs.Values.{FreeRegions, pack_free}
use Rattle.tables.specs.InsertFree.{from, bytes, merges}
use Rattle.tables.specs.declared.FreeRegion.{FreeRegion}
use Rattle.regions.specs.declared.Merged.{Merged}

-- `m` is the range from `a` of `n` bytes with the regions of `l` that merge with it on stream `s`; those that don't are left in the table `others`.
pub record Splits (a n s : ℕ) (l : List FreeRegion) (m : Merged) (others : FreeRegions) : Type 0 where
  pub apart : others ≡ pack_free (filter (λ q. not (merges a n s q)) l)
  pub start : m.start.0 ≡ foldr (λ q b. min (from q) b) a (filter (merges a n s) l)
  pub size : m.size ≡ n + bytes (filter (merges a n s) l)
