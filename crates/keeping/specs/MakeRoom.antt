-- Making room: what taking a range starts from, and what stands while its missing pages are made and once all of them are. From the taking on the range is in
-- hand, and the pages made in it are bare until they are inserted as free. Open makes its initial pages in the same way. `p` is the page size, and `f` bytes
-- are free. The code holds only some of the tables at a time, so its contracts ask that there are tables around them of which this is true.
use Rattle.std.specs.Prelude.{◌≡◌, true, ℕ, ◌+◌, ◌-◌, ◌*◌, ◌≤◌, ◌<◌, ◌%◌, length}
use Rattle.tables.specs.Bounds.{HOLES, ROOTS, SPANS, ZOMBIES}
use Rattle.tables.specs.Values.{Tables}
use Rattle.tables.specs.TakeRange.{smallest_hole}
use Rattle.tables.specs.NewPages.{Room}
use Rattle.tables.specs.Malloc.{no_hole}
use Rattle.keeping.specs.Cover.{within}
use Rattle.keeping.specs.Sound.{none, Whole, Sound}
use Rattle.keeping.specs.Counts.{Few, Known, Making}

-- A range of `n` bytes can be taken, from a hole or from a new root, and `k` pages made in it: nothing is in hand, and `f` bytes are free.
pub record TakesFrom (lost : ℕ → ℕ) (p f k n : ℕ) (t : Tables) : Type 0 where
  pub sound : Sound lost none none t
  pub size : Whole t.fields.page n
  pub most : n ≤ t.fields.va
  pub few : Few k (SPANS - 1) t
  pub zombies : length t.zombies + length t.free ≤ ZOMBIES
  pub holes : length t.zombies + length t.free + length t.holes ≤ (HOLES - 1)
  pub root : no_hole (smallest_hole n t.holes) ≡ true → length t.roots < ROOTS
  pub known : Known p f t

-- The range of `n` bytes from `s` is in hand, and its pages are made from `s` up to `a`; `k` more are to be made.
pub record PagesTo (lost : ℕ → ℕ) (p f k s n a : ℕ) (t : Tables) : Type 0 where
  pub sound : Sound lost (within s n) (within s (a - s)) t
  pub start : Whole t.fields.page s
  pub size : Whole t.fields.page n
  pub place : (s ≤ a) × ((a - s) % t.fields.page ≡ 0)
  pub fits : a + k * p ≤ s + n
  pub making : Making p f k s n t

-- all missing pages of the room are made
abbrev pub Made : (ℕ → ℕ) → ℕ → ℕ → Room → Tables → Type 0
Made lost p f o = PagesTo lost p f 0 o.start o.size (o.start + o.missing)

-- The range taken is of whole pages, and `f` free bytes make up what is not missing.
pub record Measured (p f : ℕ) (o : Room) : Type 0 where
  pub start : Whole p o.start
  pub size : Whole p o.size
  pub pages : o.missing % p ≡ 0
  pub rest : o.missing ≡ o.size - f
