-- What the code of fit needs, and what it promises.
use Rattle.std.specs.Prelude.{Result, List, ℕ, ◌+◌, ◌≤◌}
use Rattle.std.proofs.Math.Option.{Option}
use Rattle.lists.specs.Order.{Rises}
use Rattle.tables.specs.Values.{Tables, free_of, with_free, empty_region}
use Rattle.tables.specs.Kept.{KeptFree}
use Rattle.cells.specs.Table.{Choice, chosen, Placed}
use Rattle.tables.specs.Steps.{Ending, on, ends, Step, ◌>>=◌, give}
use Rattle.tables.specs.InsertFree.{from}
use Rattle.tables.specs.Fit.{candidates, smallest, ask_all}
use Rattle.tables.specs.declared.FreeRegion.{FreeRegion}
use Rattle.tables.specs.declared.Outcome.{Outcome}
use Rattle.tables.specs.Values.{FreeRegions}
use Rattle.driving.specs.Ran.{Ran, Lent, stands}
use Rattle.driving.specs.Endings.{ending}
use Rattle.driving.specs.declared.Driver.{Driver}

-- The place that was found is one of the table's: where a step went on, the region there, or none.
abbrev pub found_in : List FreeRegion → Ending Choice → Ending (Option FreeRegion)
found_in l (on c) = on (chosen empty_region l c)
found_in l (ends o) = ends o

abbrev pub PlacedIn : List FreeRegion → Ending Choice → Type 0
PlacedIn l (on c) = Placed l c
PlacedIn l (ends o) = Unit {0}

-- ask every one of a list: the smallest complete one
abbrev pub smallest_complete : List FreeRegion → Step (Option FreeRegion)
smallest_complete l = ask_all l >>= λ done. give (smallest done)

-- The table is kept, its regions in ascending address.
pub record Fittable (f : FreeRegions) : Type 0 where
  pub free : KeptFree f
  pub rises : Rises from 0 (free_of f)

-- Each candidate is asked once.
pub record Searches (n : ℕ) (f : FreeRegions) (d : Driver) (r : Result Choice Outcome) (d' : Driver) : Type 0 where
  pub lent : Lent d d'
  pub ran : (t : Tables) →
      Ran (smallest_complete (candidates n (free_of f))) d.answers.now (stands d (with_free (free_of f) t)) (found_in (free_of f) (ending r))
      (stands d' (with_free (free_of f) t))
  pub placed : PlacedIn (free_of f) (ending r)
  pub most : d'.made ≤ d.made + f.count

-- The region is found as `rule` says, with at most one driver call for each free region.
pub record Fits (rule : Step (Option FreeRegion)) (d : Driver) (f : FreeRegions) (r : Result Choice Outcome) (d' : Driver) (f' : FreeRegions) : Type 0 where
  pub lent : Lent d d'
  pub ran : (t : Tables) →
      Ran rule d.answers.now (stands d (with_free (free_of f) t)) (found_in (free_of f') (ending r)) (stands d' (with_free (free_of f') t))
  pub placed : PlacedIn (free_of f') (ending r)
  pub free : KeptFree f'
  pub most : d'.made ≤ d.made + f.count
