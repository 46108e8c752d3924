use Rattle.step_move_pages.proofs.Walks.{Goes}
use Rattle.step_move_pages.proofs.move_pages.Given as goal

abbrev pub invariant-loop-zombie : goal.invariant-loop-zombie
invariant-loop-zombie l = Goes l.page l.to l.pulled l.initial.driver l.initial.pages l.zombie-index l.at l.driver l.pages
