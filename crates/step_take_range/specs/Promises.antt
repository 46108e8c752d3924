-- What the code that takes a range needs, and what it promises.
use Rattle.std.specs.Prelude.{◌≡◌, Result, true, ℕ, ◌+◌, ◌≤◌, ◌<◌}
use Rattle.words.specs.declared.Address.{Address}
use Rattle.tables.specs.Bounds.{HOLES, ROOTS}
use Rattle.tables.specs.Values.{Tables, holes_of, roots_of, with_holes, with_roots}
use Rattle.tables.specs.Kept.{KeptHoles, KeptRoots}
use Rattle.tables.specs.Steps.{Ending, on, ends, Step}
use Rattle.tables.specs.TakeRange.{smallest_hole}
use Rattle.tables.specs.Malloc.{no_hole}
use Rattle.tables.specs.Values.{Holes}
use Rattle.tables.specs.Values.{Roots}
use Rattle.tables.specs.declared.Outcome.{Outcome}
use Rattle.keeping.specs.Sound.{Kept}
use Rattle.driving.specs.Ran.{Ran, Lent, stands}
use Rattle.driving.specs.Endings.{ending}
use Rattle.driving.specs.declared.Driver.{Driver}

-- A step that gives an address gives the number that it is.
abbrev pub starts_at : Ending Address → Ending ℕ
starts_at (on a) = on a.0
starts_at (ends o) = ends o

-- the tables `t`, with these holes and roots
abbrev pub taking : Holes → Roots → Tables → Tables
taking h r t = with_roots (roots_of r) (with_holes (holes_of h) t)

-- Both tables are kept, there are tables around them in which all is sound, a root holds `n` bytes, and one hole more fits.
pub record Takeable (page va n : ℕ) (h : Holes) (r : Roots) : Type 0 where
  pub holes : KeptHoles h
  pub roots : KeptRoots r
  pub lost : ℕ → ℕ
  pub around : Tables
  pub kept : Kept lost (taking h r around)
  pub page_is : around.fields.page ≡ page
  pub va_is : around.fields.va ≡ va
  pub fits : n ≤ va
  pub room : h.count < HOLES

-- Where no hole suffices, a root can be reserved.
abbrev pub RootLeft : ℕ → Holes → Roots → Type 0
RootLeft n h r = no_hole (smallest_hole n (holes_of h)) ≡ true → r.count < ROOTS

-- The range is taken as `rule` says, with at most one driver call.
pub record Takes (rule : Step ℕ) (page va : ℕ) (d : Driver) (h : Holes) (r : Roots) (start : Result Address Outcome) (d' : Driver) (h' : Holes) (r' : Roots) : Type 0 where
  pub lent : Lent d d'
  pub ran : (t : Tables) → t.fields.page ≡ page → t.fields.va ≡ va →
      Ran rule d.answers.now (stands d (taking h r t)) (starts_at (ending start)) (stands d' (taking h' r' t))
  pub holes : KeptHoles h'
  pub roots : KeptRoots r'
  pub most : d'.made ≤ d.made + 1
