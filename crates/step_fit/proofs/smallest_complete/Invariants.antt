use mathlib.Core.Option.{Option}
use Prim.Native.Nat.{◌+◌, ◌≤◌}
use lib.ListN.{drop}
use Rattle.lists.specs.Scan.{found}
use Rattle.lists.proofs.Least.{Marks}
use Rattle.tables.specs.Values.{Tables, free_of, with_free, empty_region}
use Rattle.tables.specs.Steps.{Ending}
use Rattle.tables.specs.Fit.{candidates}
use Rattle.tables.specs.declared.FreeRegion.{FreeRegion}
use Rattle.driving.specs.Ran.{Ran, Point, Lent, stands}
use Rattle.step_fit.specs.Promises.{smallest_complete}
use Rattle.step_fit.proofs.Turns.{searching}
use Rattle.step_fit.proofs.smallest_complete.Given as goal

abbrev pub invariant-loop-at : goal.invariant-loop-at
invariant-loop-at l =
    Lent l.initial.driver l.driver × (l.driver.made ≤ l.initial.driver.made + l.at) × Marks (λ q. q.size) empty_region (free_of l.free) l.at l.best ×
    ((t : Tables) (e : Ending (Option FreeRegion)) (u : Point) →
    Ran (searching (found empty_region (free_of l.free) l.best) (candidates l.requested (drop l.at (free_of l.free))))
    l.driver.answers.now (stands l.driver (with_free (free_of l.free) t)) e u →
    Ran (smallest_complete (candidates l.requested (free_of l.free))) l.initial.driver.answers.now (stands l.initial.driver (with_free (free_of l.free) t)) e u)
