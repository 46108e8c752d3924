-- The next region to pull.
use Rattle.std.specs.Prelude.{Bool, false, List, ℕ, eqb, Some, None, Option as Made}
use Rattle.std.proofs.Math.Option.{Option}
use Rattle.lists.specs.Front.{front}
use Rattle.words.specs.declared.Address.{Address}
use Rattle.tables.specs.InsertFree.{from, without_free}
use Rattle.tables.specs.Pull.{pull_order}
use Rattle.tables.specs.declared.FreeRegion.{FreeRegion}

-- the first in the order in which regions are pulled
unfoldable pub next_to_pull : ℕ → List FreeRegion → Option FreeRegion
next_to_pull s l = front (pull_order s l)

-- all but the region just made, if there is one
unfoldable pub besides : Made Address → List FreeRegion → List FreeRegion
besides (Some a) l = without_free a.0 l
besides None l = l

unfoldable pub is_made : Made Address → FreeRegion → Bool
is_made (Some a) q = eqb (from q) a.0
is_made None q = false
