-- The two ends of malloc: what it starts from, and what its last step, handing over, finds, whether fit chose the region or room was made for it.
-- The contracts of the code ask for these.
use Rattle.std.specs.Prelude.{◌≡◌, ◌⊎◌, ℕ, ◌+◌, ◌-◌, ◌≤◌, length}
use Rattle.lists.specs.Tests.{Member}
use Rattle.tables.specs.Bounds.{SPANS}
use Rattle.tables.specs.Values.{Tables}
use Rattle.tables.specs.declared.FreeRegion.{FreeRegion}
use Rattle.keeping.specs.Sound.{none, Whole, Sound, Kept}
use Rattle.keeping.specs.Counts.{Few}

-- what malloc starts from: a size of whole pages, and a span to spare
abbrev pub Asked : (ℕ → ℕ) → ℕ → Tables → Type 0
Asked lost n t = Kept lost t × (Whole t.fields.page n × (length t.free + length t.live ≤ SPANS - 1))

-- The first `n` bytes of the free region `r` can be handed over: nothing is in hand, and no page is bare.
pub record Handing (lost : ℕ → ℕ) (n : ℕ) (r : FreeRegion) (t : Tables) : Type 0 where
  pub sound : Sound lost none none t
  pub member : Member r t.free
  pub size : Whole t.fields.page n
  pub most : n ≤ r.size
  pub few : Few 0 SPANS t
  -- a rest has room
  pub room : (r.size ≡ n) ⊎ (length t.free + length t.live ≤ SPANS - 1)
