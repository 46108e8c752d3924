-- What is left of the free regions where the first bytes of one are taken, in the code's terms: a rest is stored where its region stood, and where nothing
-- is left the region is taken out at its place.
use mathlib.Core.Path.{◌≡◌}
use Prim.Native.Nat.{ℕ, ◌+◌, ◌-◌, ◌<◌}
use native.Mathlib.Omega.{arith}
use borrow.Author.Tests.{eq-eqb, ne_eqb}
use lib.ListN.{length, set}
use Rattle.lists.specs.Places.{remove_at}
use Rattle.lists.proofs.Keys.{without_key, put-without}
use Rattle.tables.specs.Values.{region, free_of, empty_region}
use Rattle.tables.specs.InsertFree.{from}
use Rattle.tables.specs.declared.FreeRegion.{FreeRegion}
use Rattle.tables.specs.Values.{FreeRegions}
use Rattle.tables.proofs.Packs.{free-count}
use Rattle.regions.specs.Cutting.{region_at, cut_free, Cuttable}

module _ (t : FreeRegions) (at taken : ℕ) (k : Cuttable t at taken) where
  pub within : at < length (free_of t)
  within = omega (arith, free-count t k.kept, k.placed)

  abbrev pub rest : FreeRegion
  rest = region (from (region_at t at) + taken) ((region_at t at).size - taken) (region_at t at).stream (region_at t at).id.0

  pub cut_all : (region_at t at).size ≡ taken → cut_free taken (region_at t at) (free_of t) ≡ remove_at at (free_of t)
  cut_all e = rw (eq-eqb (region_at t at).size taken e) (without_key from 0 (free_of t) at empty_region k.rises within)

  pub cut-some : taken < (region_at t at).size → cut_free taken (region_at t at) (free_of t) ≡ set (free_of t) at rest
  cut-some h =
      rw (ne_eqb (region_at t at).size taken (λ e. omega arith))
      (put-without from 0 rest (free_of t) at empty_region k.rises within (omega arith)
      (λ b. omega (arith, k.apart (omega (arith, free-count t k.kept)))))
