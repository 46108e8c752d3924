use Rattle.step_close.specs.Promises.{close_page}
use Rattle.step_close.proofs.Turns.{Stands}
use Rattle.step_close.proofs.close_pages.Given as goal

abbrev pub invariant-loop-g : goal.invariant-loop-g
invariant-loop-g l = Stands (close_page l.page) 2 l.pages l.g-index l.initial.failed l.initial.driver l.failed l.driver
