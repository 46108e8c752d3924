use Prim.Native.Nat.{◌-◌}
use Rattle.step_move_pages.proofs.Walks.{Walks}
use Rattle.step_move_pages.proofs.move_zombie.Given as goal

abbrev pub invariant-loop : goal.invariant-loop
invariant-loop l = Walks l.page l.to l.initial.from l.end l.initial.driver l.initial.pages (l.end - l.counter) l.at l.from l.driver l.pages
