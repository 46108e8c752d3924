-- Counts of the tables while a call is under way: what keeps every table within its ceiling.
use Rattle.std.specs.Prelude.{◌≡◌, ℕ, ◌+◌, ◌-◌, ◌≤◌, length}
use Rattle.tables.specs.Bounds.{HOLES, PAGES, ROOTS, SPANS, ZOMBIES}
use Rattle.tables.specs.Values.{Tables}
use Rattle.tables.specs.InsertHole.{insert_hole}
use Rattle.tables.specs.InsertFree.{bytes}

-- within the ceilings, with `k` pages still to come, and at most `c` spans
pub record Few (k c : ℕ) (t : Tables) : Type 0 where
  pub pages : length t.pages + k ≤ PAGES
  pub spans : length t.free + length t.live ≤ c
  pub zombies : length t.zombies ≤ ZOMBIES
  pub holes : length t.holes + length t.zombies ≤ HOLES
  pub roots : length t.roots ≤ ROOTS

-- while room is made: every free region may still become a zombie
pub record Pullable (t : Tables) : Type 0 where
  pub zombies : length t.zombies + length t.free ≤ ZOMBIES
  pub holes : length t.zombies + length t.free + length t.holes ≤ HOLES

-- the page size, and the bytes that are free
pub record Known (p f : ℕ) (t : Tables) : Type 0 where
  pub page : t.fields.page ≡ p
  pub free : bytes t.free ≡ f

-- while `k` pages are still to be made in the range of `n` bytes from `a`, which a rollback puts back
pub record Making (p f k a n : ℕ) (t : Tables) : Type 0 where
  pub few : Few k (SPANS - 1) t
  pub pullable : Pullable t
  pub back : length (insert_hole a n t.holes) + length t.zombies ≤ HOLES
  pub known : Known p f t
