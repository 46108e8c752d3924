use Rattle.step_new_pages.proofs.Unmaking.{Unmaking}
use Rattle.step_new_pages.proofs.roll_back.Given as goal

abbrev pub invariant-loop-g : goal.invariant-loop-g
invariant-loop-g l = Unmaking l.page l.room l.upto l.g-items l.initial.driver l.initial.pages l.holes l.g-index l.driver l.pages
