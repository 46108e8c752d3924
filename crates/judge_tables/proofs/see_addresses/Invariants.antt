use Prim.Native.Nat.{ℕ, ◌<◌, ◌^◌}
use lib.ListN.{get_or}
use Rattle.judge_tables.specs.Rows.{no_page}
use Rattle.judge_tables.proofs.see_addresses.Given as goal

abbrev pub invariant-loop-p : goal.invariant-loop-p
invariant-loop-p l = (k : ℕ) → k < l.p-index → (get_or l.mapped k no_page).at < 2 ^ 64
