-- What the code that pulls regions needs, and what it promises.
use Rattle.std.specs.Prelude.{Result, Option as Made, List, ℕ, ◌+◌, ◌*◌, ◌≤◌, min, length, drop}
use Rattle.words.specs.declared.Address.{Address}
use Rattle.tables.specs.Bounds.{SPANS}
use Rattle.tables.specs.Values.{Tables, zombie, free_of, zombies_of, with_free, with_zombies}
use Rattle.tables.specs.Kept.{KeptFree, KeptZombies}
use Rattle.tables.specs.InsertFree.{from}
use Rattle.tables.specs.Pull.{pull_order, settle, pull}
use Rattle.tables.specs.declared.FreeRegion.{FreeRegion}
use Rattle.tables.specs.Values.{FreeRegions}
use Rattle.tables.specs.Steps.{Ending, on, ends}
use Rattle.tables.specs.declared.Outcome.{Outcome}
use Rattle.tables.specs.declared.Zombie.{Zombie}
use Rattle.tables.specs.Values.{Zombies}
use Rattle.keeping.specs.Pull.{Pulling}
use Rattle.regions.specs.Pulling.{besides}
use Rattle.driving.specs.Ran.{Ran, Lent, stands}
use Rattle.driving.specs.Endings.{ending}
use Rattle.driving.specs.declared.Driver.{Driver}

-- Settling changes no table, and makes at most two driver calls.
pub record Settles (s : ℕ) (q : FreeRegion) (d : Driver) (r : Result (Unit {0}) Outcome) (d' : Driver) : Type 0 where
  pub lent : Lent d d'
  pub ran : (t : Tables) → Ran (settle s q) d.answers.now (stands d t) (ending r) (stands d' t)
  pub most : d'.made ≤ d.made + 2

-- the tables `t`, with these free regions and zombies
abbrev pub pulling : FreeRegions → Zombies → Tables → Tables
pulling f z t = with_zombies (zombies_of z) (with_free (free_of f) t)

-- the part of a region that is taken where `lacks` bytes are lacking
abbrev pub part_of : ℕ → FreeRegion → Zombie
part_of lacks r = zombie (from r) (min lacks r.size) r.id.0

-- the regions to be pulled, in their order: all but the one just made
abbrev pub to_pull : ℕ → Made Address → FreeRegions → List FreeRegion
to_pull s made f = pull_order s (besides made (free_of f))

-- The regions of `l` can be pulled up to `lacks` bytes: both tables are kept, and there are tables around them in which they can.
pub record Pullable (lacks : ℕ) (l : List FreeRegion) (f : FreeRegions) (z : Zombies) : Type 0 where
  pub free : KeptFree f
  pub zombies : KeptZombies z
  pub lost : ℕ → ℕ
  pub hand : ℕ → ℕ
  pub bare : ℕ → ℕ
  pub page : ℕ
  pub spans : ℕ
  pub keep : List FreeRegion
  pub around : Tables
  pub few : spans ≤ SPANS
  pub due : Pulling lost hand bare page lacks spans keep l (pulling f z around)

-- A step with no value gives `a` where it goes on.
abbrev pub giving : {A : Type 0} → A → Ending (Unit {0}) → Ending A
giving a (on u) = on a
giving a (ends o) = ends o

-- Regions are pulled, with at most two driver calls for each: the parts taken are the zombies after those that there were.
pub record Pulls (s lacks : ℕ) (made : Made Address) (d : Driver) (f : FreeRegions) (z : Zombies) (r : Result (Unit {0}) Outcome) (d' : Driver) (f' : FreeRegions) (z' : Zombies) : Type 0 where
  pub lent : Lent d d'
  pub ran : (t : Tables) →
      Ran (pull (to_pull s made f) s lacks) d.answers.now (stands d (pulling f z t)) (giving (drop z.count (zombies_of z')) (ending r))
      (stands d' (pulling f' z' t))
  pub free : KeptFree f'
  pub zombies : KeptZombies z'
  pub most : d'.made ≤ d.made + 2 * length (to_pull s made f)
