-- Pulling regions: what stands before each region is pulled, and what is asked besides where their pages are to fill a range in hand. The part taken of a region
-- joins the zombies while its pages are active, so it is bare until they are moved. The range, once filled, becomes a free region, which wants a span.
-- `p` is the page size, and there are at most `c` spans. The code that pulls holds the free regions and the zombies alone, so its contracts ask that there are
-- tables around them of which this is true.
use Rattle.std.specs.Prelude.{◌≡◌, ◌⊎◌, List, ℕ, ◌+◌, ◌-◌, ◌≤◌, ◌<◌, ◌%◌, length}
use Rattle.lists.specs.Tests.{All, Member}
use Rattle.lists.specs.Walks.{sum}
use Rattle.tables.specs.Bounds.{HOLES, SPANS, ZOMBIES}
use Rattle.tables.specs.Values.{Tables}
use Rattle.tables.specs.InsertFree.{bytes}
use Rattle.tables.specs.NewPages.{Room}
use Rattle.tables.specs.Pull.{pull_order}
use Rattle.tables.specs.declared.FreeRegion.{FreeRegion}
use Rattle.keeping.specs.Cover.{within, equal, cover_zombies}
use Rattle.keeping.specs.Sound.{Sound}
use Rattle.keeping.specs.Counts.{Few}

-- While the regions `l` are still to be pulled, up to `lacks` bytes, and the regions `keep` stay. `bare` covers the parts taken so far, which are among
-- the zombies.
pub record Pulling (lost hand bare : ℕ → ℕ) (p lacks c : ℕ) (keep l : List FreeRegion) (t : Tables) : Type 0 where
  pub sound : Sound lost hand bare t
  pub members : All (λ r. Member r t.free) l
  pub kept : All (λ r. Member r t.free) keep
  pub apart : (a : ℕ) → sum (λ r. equal r.start.0 a) l + sum (λ r. equal r.start.0 a) keep ≤ 1
  pub zombies : length t.zombies + length l ≤ ZOMBIES
  pub holes : length t.holes + length t.zombies + length l ≤ HOLES
  pub few : Few 0 c t
  pub lacking : (lacks % p ≡ 0) × (t.fields.page ≡ p)
  pub enough : lacks ≤ bytes l
  pub among : (x : ℕ) → bare x ≤ cover_zombies t.zombies x

-- where the range to be filled starts: after the pages that were made
abbrev pub place : Room → ℕ
place o = o.start + o.missing

-- the range to be filled, and what else is in hand
abbrev pub filling : (ℕ → ℕ) → ℕ → Room → ℕ → ℕ
filling rest lacks o x = rest x + within (place o) lacks x

-- the regions to be pulled, in the order of the room's stream
abbrev pub order : List FreeRegion → Room → List FreeRegion
order others o = pull_order o.stream others

-- a span to spare: from the first, or since every region of the order is pulled whole
abbrev pub Spare : ℕ → ℕ → List FreeRegion → Type 0
Spare lacks c others = (c ≤ SPANS - 1) ⊎ ((lacks ≡ bytes others) × ((0 < length others) × (c ≤ SPANS)))
