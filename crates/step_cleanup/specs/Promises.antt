-- What the code of cleanup needs, and what it promises.
use Rattle.std.specs.Prelude.{Result, ℕ, ◌+◌, ◌*◌, ◌≤◌}
use Rattle.tables.specs.Values.{Tables, holes_of, zombies_of, with_holes, with_zombies}
use Rattle.tables.specs.Kept.{KeptHoles, KeptZombies}
use Rattle.tables.specs.Cleanup.{cleanup}
use Rattle.tables.specs.Values.{Holes}
use Rattle.tables.specs.Values.{Zombies}
use Rattle.tables.specs.declared.Outcome.{Outcome}
use Rattle.keeping.specs.Sound.{Kept}
use Rattle.driving.specs.Ran.{Ran, Lent, stands}
use Rattle.driving.specs.Endings.{ending}
use Rattle.driving.specs.declared.Driver.{Driver}

-- the tables `t`, with these zombies and holes
abbrev pub cleaning : Zombies → Holes → Tables → Tables
cleaning z h t = with_holes (holes_of h) (with_zombies (zombies_of z) t)

-- Both tables are kept, and there are tables around them in which all is sound.
pub record Cleanable (z : Zombies) (h : Holes) : Type 0 where
  pub zombies : KeptZombies z
  pub holes : KeptHoles h
  pub lost : ℕ → ℕ
  pub around : Tables
  pub kept : Kept lost (cleaning z h around)

-- Every zombie is asked after at most once, and unmapped at most once.
pub record CleansUp (d : Driver) (z : Zombies) (h : Holes) (r : Result (Unit {0}) Outcome) (d' : Driver) (z' : Zombies) (h' : Holes) : Type 0 where
  pub lent : Lent d d'
  pub ran : (t : Tables) → Ran cleanup d.answers.now (stands d (cleaning z h t)) (ending r) (stands d' (cleaning z' h' t))
  pub zombies : KeptZombies z'
  pub holes : KeptHoles h'
  pub most : d'.made ≤ d.made + 2 * z.count
