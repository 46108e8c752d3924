-- docs/RULES.md 3.10: cleanup.
use Rattle.std.specs.Prelude.{cond, ℕ, zero, suc, ◌+◌, length, get_or}
use Rattle.lists.specs.Places.{swap_out}
use Rattle.tables.specs.Values.{empty_zombie}
use Rattle.tables.specs.Steps.{Act, ◌>>=◌, ◌>>◌, nothing, tables, change_zombies, change_holes}
use Rattle.tables.specs.Driver.{try, is_complete, unmap}
use Rattle.tables.specs.InsertHole.{insert_hole}
use Rattle.tables.specs.declared.Zombie.{Zombie}

-- The last zombie takes its place; its range is a hole, whatever the driver says to the unmap.
unfoldable pub clean : ℕ → Zombie → Act
clean i z = do
  change_zombies (swap_out i)
  try (unmap z.start.0 z.size)
  change_holes (insert_hole z.start.0 z.size)

-- `n` zombies are still to be asked, from place `i` on. Where one was cleaned, another stands now.
abbrev pub walk : ℕ → ℕ → Act
walk zero i = nothing
walk (suc n) i = do
  t ← tables
  let z = get_or t.zombies i empty_zombie
  c ← is_complete z.id.0
  cond c (clean i z >> walk n i) (walk n (i + 1))

-- Every zombie is asked once.
unfoldable pub cleanup : Act
cleanup = do
  t ← tables
  walk (length t.zombies) 0
