-- `step_fit::fit` meets its contract: the region chosen by place is the rule's, and where there is none the region of another stream is the rule's.
use native.Mathlib.Omega.{arith}
use Rattle.tables.specs.Values.{free_of, empty_region}
use Rattle.cells.specs.Table.{chosen, Placed}
use Rattle.cells.proofs.Choices.{chosen-some, chosen_none, placed_at}
use Rattle.driving.proofs.Lent.{lent-same}
use Rattle.step_fit.proofs.Ways.{fit-own, fit-other}
use Rattle.step_fit.proofs.fit.Goals as goal

pub returns-in-Some : goal.returns-in-Some
unfolding chosen Placed
returns-in-Some c =
    let a = c.args in
    let l = free_of a.free.now in
    let own = c.best_own in
    record {
      lent = lent-same a.driver.now;
      ran = λ t. fit-own a.requested a.stream _ (chosen-some empty_region l own.result _ own.ensures.is c.in-Some.at c.in-Some.is);
      placed = placed_at l own.result c.in-Some.at own.ensures.placed c.in-Some.is;
      free = c.requires.0.free;
      most = omega arith;
    }

pub returns-in-None : goal.returns-in-None
returns-in-None c =
    let a = c.args in
    let m = c.fit_other.ensures in
    let none-own = chosen_none empty_region (free_of a.free.now) c.best_own.result _ c.best_own.ensures.is c.in-None.is in
    record { lent = m.lent; ran = λ t. fit-other a.requested a.stream none-own (m.ran t); placed = m.placed; free = m.free; most = m.most }
