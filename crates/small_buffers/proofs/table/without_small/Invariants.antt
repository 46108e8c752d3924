use mathlib.Core.Path.{◌≡◌}
use lib.ListN.{take}
use Rattle.lists.specs.Order.{without}
use Rattle.manager_rules.specs.Values.{pack_small}
use Rattle.small_buffers.proofs.table.without_small.Given as goal

-- the buffers passed, without those at the pointer
abbrev pub invariant-loop-b : goal.invariant-loop-b
invariant-loop-b l = l.others ≡ pack_small (without (λ b. b.pointer) l.pointer (take l.b-index l.b-items))
