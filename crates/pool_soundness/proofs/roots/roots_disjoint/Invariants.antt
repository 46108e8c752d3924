use mathlib.Core.Path.{◌≡◌}
use mathlib.Core.Bool.{Bool}
use Prim.Native.Nat.{ℕ}
use lib.ListN.{length}
use Rattle.lists.specs.Tests.{pairwise}
use Rattle.words.specs.declared.Address.{Address}
use Rattle.tables.specs.Values.{roots_of}
use Rattle.tables.specs.TakeRange.{apart}
use Rattle.pool_soundness.proofs.roots.roots_disjoint.Given as goal

abbrev parted : ℕ → Address → Address → Bool
parted va a b = apart va a.0 b.0

-- the test of all pairs is that of the pairs left
abbrev pub invariant-loop-a : goal.invariant-loop-a
invariant-loop-a l = pairwise (parted l.va) (roots_of l.roots) ≡ pairwise (parted l.va) l.left

abbrev pub decreases-loop-a : goal.decreases-loop-a
decreases-loop-a l = length l.left
