-- What code that holds the whole pool leaves.
use Rattle.std.specs.Prelude.{◌≡◌, ℕ, ◌+◌, ◌≤◌}
use Rattle.tables.specs.Values.{tables_of}
use Rattle.tables.specs.Kept.{KeptPool}
use Rattle.tables.specs.Steps.{Ending, Step}
use Rattle.tables.specs.declared.Pool.{Pool}
use Rattle.driving.specs.Ran.{Ran, Lent, stands}
use Rattle.driving.specs.declared.Driver.{Driver}

-- The step is walked over the tables of `p`, with at most `bound` driver calls; the tables of `q`, which it leaves, are kept.
pub record PoolRan {A : Type 0} (m : Step A) (bound : ℕ) (d : Driver) (p : Pool) (e : Ending A) (d' : Driver) (q : Pool) : Type 0 where
  pub lent : Lent d d'
  pub ran : Ran m d.answers.now (stands d (tables_of p)) e (stands d' (tables_of q))
  pub kept : KeptPool q
  pub state : q.state ≡ p.state
  pub most : d'.made ≤ d.made + bound
