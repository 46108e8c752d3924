use mathlib.Core.Path.{◌≡◌}
use mathlib.Core.Bool.{Bool, ◌&&◌, not}
use mathlib.Core.List.{List, map}
use lib.Dec.{eqb}
use lib.ListN.{drop}
use Rattle.lists.specs.Tests.{every, distinct}
use Rattle.manager_rules.specs.declared.SmallBuffer.{SmallBuffer}
use Rattle.small_buffers.proofs.tests.pointers_good.Given as goal

abbrev good : List SmallBuffer → Bool
good l = every (λ b. not (eqb b.pointer 0)) l && distinct (map (λ b. b.pointer) l)

abbrev pub invariant-loop-at : goal.invariant-loop-at
invariant-loop-at l = good l.small ≡ good (drop l.at l.small)
