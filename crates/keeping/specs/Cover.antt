-- Counting. How often the ranges of a table hold an address, how many pages start at one, how often a handle or an id stands in a table: ranges are
-- disjoint where an address is held at most once, and a range that is cut in two, or two that are joined, hold as before.
use Rattle.std.specs.Prelude.{List, ℕ, ◌+◌, ◌-◌, min}
use Rattle.lists.specs.Walks.{sum}
use Rattle.words.specs.declared.Address.{Address}
use Rattle.tables.specs.declared.FreeRegion.{FreeRegion}
use Rattle.tables.specs.declared.LiveBuffer.{LiveBuffer}
use Rattle.tables.specs.declared.Hole.{Hole}
use Rattle.tables.specs.declared.Zombie.{Zombie}
use Rattle.tables.specs.declared.Page.{Page}

-- 1 where `x` is below `e`, else 0
abbrev pub below : ℕ → ℕ → ℕ
below e x = min 1 (e - x)

-- 1 where `x` is in the range from `a` of size `n`, else 0
unfoldable pub within : ℕ → ℕ → ℕ → ℕ
within a n x = below (a + n) x - below a x

-- 1 where the two are the same number, else 0
unfoldable pub equal : ℕ → ℕ → ℕ
equal a b = 1 - ((a - b) + (b - a))

abbrev pub cover_free : List FreeRegion → ℕ → ℕ
cover_free l x = sum (λ r. within r.start.0 r.size x) l

abbrev pub cover_live : List LiveBuffer → ℕ → ℕ
cover_live l x = sum (λ b. within b.start.0 b.size x) l

abbrev pub cover_holes : List Hole → ℕ → ℕ
cover_holes l x = sum (λ h. within h.start.0 h.size x) l

abbrev pub cover_zombies : List Zombie → ℕ → ℕ
cover_zombies l x = sum (λ z. within z.start.0 z.size x) l

abbrev pub cover_roots : ℕ → List Address → ℕ → ℕ
cover_roots va l x = sum (λ a. within a.0 va x) l

-- how often a key is `x`: no key is twice just where none counts twice
abbrev pub keys_at : {A : Type 0} → (A → ℕ) → List A → ℕ → ℕ
keys_at key l x = sum (λ a. equal (key a) x) l

-- how many active pages start at `x`
abbrev pub pages_at : List Page → ℕ → ℕ
pages_at l x = sum (λ g. equal g.start.0 x) l

abbrev pub handles_at : List Page → ℕ → ℕ
handles_at l h = sum (λ g. equal g.handle.0 h) l

abbrev pub ids_at : List FreeRegion → ℕ → ℕ
ids_at l i = sum (λ r. equal r.id.0 i) l
