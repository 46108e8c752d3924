-- Moving pages to a range in hand: what stands before, where the pages are those of the zombies just pulled, and what stands after each page, where they are a
-- list of starts. What is left of the list and what is filled of the range are bare all along. `p` is the page size, there are at most `c` spans, and the free
-- table stays `f`. The code holds the pages and the zombies alone, so its contracts ask that there are tables around them of which this is true.
use Rattle.std.specs.Prelude.{◌≡◌, List, ℕ, ◌+◌, ◌-◌, ◌*◌, ◌≤◌, ◌<◌, ◌%◌, length}
use Rattle.lists.specs.Tests.{All}
use Rattle.lists.specs.Walks.{sum}
use Rattle.tables.specs.Values.{Tables}
use Rattle.tables.specs.declared.FreeRegion.{FreeRegion}
use Rattle.tables.specs.declared.Zombie.{Zombie}
use Rattle.keeping.specs.Cover.{within, keys_at, cover_zombies}
use Rattle.keeping.specs.Sound.{Whole, WholeRange, Sound}
use Rattle.keeping.specs.Counts.{Few}

-- The pages of the zombies `zs` are to be moved to the range from `a` on, which is in hand.
pub record Movable (lost hand : ℕ → ℕ) (p a c : ℕ) (f : List FreeRegion) (zs : List Zombie) (t : Tables) : Type 0 where
  pub sound : Sound lost hand (cover_zombies zs) t
  pub ranges : All (λ z. WholeRange p z.start.0 z.size) zs
  pub among : (x : ℕ) → cover_zombies zs x ≤ cover_zombies t.zombies x
  pub whole : Whole p a
  pub room : (x : ℕ) → a ≤ x → x < a + sum (λ z. z.size) zs → hand x ≡ 1
  pub few : Few 0 c t
  pub page : t.fields.page ≡ p
  pub free : t.free ≡ f

-- While the pages at `bs` are still to be moved to `a` and on, and those before them fill the range from `base` up to `a`.
pub record Moving (lost hand : ℕ → ℕ) (p base a c : ℕ) (f : List FreeRegion) (bs : List ℕ) (t : Tables) : Type 0 where
  pub sound : Sound lost hand (λ x. keys_at (λ b. b) bs x + within base (a - base) x) t
  pub starts : All (Whole p) bs
  pub apart : (x : ℕ) → x % p ≡ 0 → keys_at (λ b. b) bs x + hand x ≤ 1
  pub whole : Whole p a
  pub past : base ≤ a
  pub room : (x : ℕ) → a ≤ x → x < a + length bs * p → hand x ≡ 1
  pub few : Few 0 c t
  pub page : t.fields.page ≡ p
  pub free : t.free ≡ f
