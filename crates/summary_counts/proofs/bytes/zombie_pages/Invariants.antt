use mathlib.Core.Path.{◌≡◌}
use Prim.Native.Nat.{◌+◌, ◌≤◌}
use lib.ListN.{length}
use Rattle.judge_tables.specs.Rows.{pages_in}
use Rattle.summary_counts.specs.Counts.{zombies}
use Rattle.summary_counts.proofs.bytes.zombie_pages.Given as goal

abbrev pub invariant-loop-page : goal.invariant-loop-page
invariant-loop-page l = (l.zombies + length l.newest ≤ length l.fn.mapped) × (l.zombies + zombies (pages_in l.newest) ≡ zombies (pages_in l.fn.mapped))

abbrev pub decreases-loop-page : goal.decreases-loop-page
decreases-loop-page l = length l.newest
