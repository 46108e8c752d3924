-- What is left beside the regions that merge has no more regions than the table had, so one more fits.
use Prim.Native.Nat.{ℕ, ◌<◌}
use mathlib.Core.Bool.{not}
use mathlib.Core.List.{List}
use native.Mathlib.Omega.{arith}
use lib.ListN.{length}
use Rattle.lists.specs.Tests.{filter}
use Rattle.lists.proofs.Tests.{length-filter}
use Rattle.lists.proofs.Order.{length-put}
use Rattle.tables.specs.Bounds.{SPANS}
use Rattle.tables.specs.Values.{free_of, pack_free}
use Rattle.tables.specs.Kept.{KeptFree}
use Rattle.tables.specs.InsertFree.{from, put_free, merges}
use Rattle.tables.specs.declared.FreeRegion.{FreeRegion}
use Rattle.tables.specs.Values.{FreeRegions}
use Rattle.tables.proofs.Packs.{free-count, free-kept}

module _ (a n s : ℕ) (f : FreeRegions) (k : KeptFree f) (room : f.count < SPANS) where
  abbrev others : List FreeRegion
  others = filter (λ q. not (merges a n s q)) (free_of f)

  pub fewer : length (filter (λ q. not (merges a n s q)) (free_of f)) < SPANS
  fewer = omega (arith, length-filter (λ q. not (merges a n s q)) (free_of f), free-count f k)

  pub kept-others : KeptFree (pack_free (filter (λ q. not (merges a n s q)) (free_of f)))
  kept-others = free-kept others (omega (arith, fewer))

  pub kept_put : (r : FreeRegion) → KeptFree (pack_free (put_free r (filter (λ q. not (merges a n s q)) (free_of f))))
  kept_put r = free-kept _ (omega (arith, fewer, length-put from r others))
