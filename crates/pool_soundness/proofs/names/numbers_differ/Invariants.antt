use mathlib.Core.Path.{◌≡◌}
use mathlib.Core.List.{map}
use Prim.Native.Nat.{ℕ}
use lib.ListN.{length, take}
use Rattle.std.specs.Fn.{FnReturnsAt}
use Rattle.pool_soundness.proofs.names.numbers_differ.Given as goal

-- what is copied are the numbers of the entries passed
abbrev pub invariant-loop-i : goal.invariant-loop-i
invariant-loop-i g l =
    (length l.numbers ≡ g.row.N)
    × ((key : g.row.T.Denot → ℕ) → ((x : g.row.T.Denot) (n : ℕ) → FnReturnsAt g.F.Fn l.number x n → n ≡ key x) → take l.i l.numbers ≡ map key (take l.i l.entries))
