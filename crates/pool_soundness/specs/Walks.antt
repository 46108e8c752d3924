-- Tables that are walked side by side, as the ranges that are left of them.
use Rattle.std.specs.Prelude.{◌≡◌, List, [], ◌∷◌, ◌++◌, map, ℕ, ◌≤◌, Some, None, Option}
use Rattle.lists.specs.Tests.{All}
use Rattle.lists.specs.Order.{Ascends, sorted}
use Rattle.tables.specs.WellFormed.{Range, range}
use Rattle.tables.specs.declared.FreeRegion.{FreeRegion}
use Rattle.tables.specs.declared.LiveBuffer.{LiveBuffer}
use Rattle.tables.specs.declared.Hole.{Hole}
use Rattle.tables.specs.declared.Zombie.{Zombie}
use Rattle.pool_soundness.specs.declared.walk.Front.{Front}
use Rattle.pool_soundness.specs.declared.walk.Walk.{Walk}

-- the range of each kind of entry
abbrev pub of_free : FreeRegion → Range
of_free r = range r.start.0 r.size

abbrev pub of_live : LiveBuffer → Range
of_live b = range b.start.0 b.size

abbrev pub of_hole : Hole → Range
of_hole h = range h.start.0 h.size

abbrev pub of_zombie : Zombie → Range
of_zombie z = range z.start.0 z.size

abbrev pub range_of : Front → Range
range_of x = range x.from x.size

abbrev pub start : Range → ℕ
start h = h.from

-- the largest number of the code, above all addresses
abbrev pub highest : ℕ
highest = 18446744073709551615

-- where the first of a list starts; above all addresses where there is none
abbrev pub from_of : List Range → ℕ
from_of [] = highest
from_of (h ∷ l) = h.from

-- `x` is the first of the list, and `l'` what is left of it; without `x` the list has none
unfoldable pub Took : List Range → Option Front → List Range → Type 0
Took l (Some x) l' = l ≡ range_of x ∷ l'
Took l None l' = (l ≡ []) × (l' ≡ [])

-- the ranges of four tables, one after the other
abbrev pub four : List Range → List Range → List Range → List Range → List Range
four f b h z = (f ++ b) ++ (h ++ z)

-- what is left of the tables of a walk, in ascending address
abbrev pub left_of : Walk → List Range
left_of w = sorted start (four (map of_free w.free.now) (map of_live w.live.now) (map of_hole w.holes.now) (map of_zombie w.zombies.now))

-- each table is in ascending address
pub record Ordered (w : Walk) : Type 0 where
  pub free : Ascends start 0 (map of_free w.free.now)
  pub live : Ascends start 0 (map of_live w.live.now)
  pub holes : Ascends start 0 (map of_hole w.holes.now)
  pub zombies : Ascends start 0 (map of_zombie w.zombies.now)

-- no address starts there
abbrev pub High : Range → Type 0
High h = highest ≤ h.from

-- `x` is the first of the list, and `l'` what is left of it; without `x` nothing of the list is an address
unfoldable pub Next : List Range → Option Front → List Range → Type 0
Next l (Some x) l' = l ≡ range_of x ∷ l'
Next l None l' = All High l

-- The next range of a walk, or none.
pub record Takes (w : Walk) (r : Option Front) (w' : Walk) : Type 0 where
  pub next : Next (left_of w) r (left_of w')
  pub ordered : Ordered w'
