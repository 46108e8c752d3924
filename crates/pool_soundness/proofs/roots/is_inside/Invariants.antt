use mathlib.Core.Path.{◌≡◌}
use Prim.Native.Nat.{◌+◌, ◌*◌, ◌≤◌}
use lib.ListN.{drop}
use Rattle.lists.specs.Tests.{All}
use Rattle.tables.specs.Bounds.{END, VA}
use Rattle.pool_soundness.specs.Tests.{bytes_inside}
use Rattle.pool_soundness.specs.Walks.{range_of}
use Rattle.pool_soundness.proofs.roots.is_inside.Given as goal

-- the sum over all roots is what is summed and the sum over those left
abbrev pub invariant-loop-a : goal.invariant-loop-a
invariant-loop-a l =
    ((l.sum ≤ l.a-index * VA) × All (λ a. a.0 + l.va ≤ END) (drop l.a-index l.a-items))
    × ((bytes_inside l.va l.a-items (range_of l.x) ≡ l.sum + bytes_inside l.va (drop l.a-index l.a-items) (range_of l.x)) × (l.sum ≡ l.x.size → ⊥))
