use Prim.Native.Nat.{◌-◌}
use Rattle.step_new_pages.proofs.Making.{Making}
use Rattle.step_new_pages.proofs.make_pages.Given as goal

abbrev pub invariant-loop : goal.invariant-loop
invariant-loop l =
    Making l.page l.room l.count l.initial.driver l.initial.pages l.initial.holes (l.count - l.counter) l.at l.driver l.pages l.holes
