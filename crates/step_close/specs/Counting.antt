-- What code that walks a step and counts the failed lines leaves.
use Rattle.std.specs.Prelude.{◌≡◌, List, ℕ, ◌+◌}
use Rattle.tables.specs.Steps.{Ending, Step}
use Rattle.tables.specs.Close.{failures}
use Rattle.driving.specs.Ran.{Point, Ran}

-- The step `m` goes from `s` to `u` and ends as `e`; the failed lines were `f` before it, and are `g` with those of its own records.
pub record RanCounting {A : Type 0} (m : Step A) (xs : List ℕ) (s : Point) (f : ℕ) (e : Ending A) (u : Point) (g : ℕ) : Type 0 where
  pub ran : Ran m xs s e u
  pub counted : g ≡ f + failures (m xs s.made s.tables).records
