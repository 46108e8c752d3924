use Prim.Native.Nat.{◌+◌, ◌-◌, ◌*◌, ◌≤◌}
use lib.ListN.{length}
use Rattle.tables.specs.Values.{Tables, zombies_of}
use Rattle.tables.specs.Steps.{Ending}
use Rattle.tables.specs.Cleanup.{walk}
use Rattle.driving.specs.Ran.{Ran, Point, Lent, stands}
use Rattle.step_cleanup.specs.Promises.{cleaning, Cleanable}
use Rattle.step_cleanup.proofs.cleanup.Given as goal

abbrev pub invariant-loop-at : goal.invariant-loop-at
invariant-loop-at l =
    record {
      place : l.at ≤ l.zombies.count;
      able : Cleanable l.zombies l.holes;
      lent : Lent l.initial.driver l.driver;
      most : l.driver.made + 2 * (l.zombies.count - l.at) ≤ l.initial.driver.made + 2 * l.initial.zombies.count;
      whole :
          (t : Tables) (e : Ending (Unit {0})) (u : Point) →
          Ran (walk (length (zombies_of l.zombies) - l.at) l.at) l.initial.driver.answers.now (stands l.driver (cleaning l.zombies l.holes t)) e u →
          Ran (walk (length (zombies_of l.initial.zombies)) 0) l.initial.driver.answers.now
          (stands l.initial.driver (cleaning l.initial.zombies l.initial.holes t)) e u;
    }

abbrev pub decreases-loop-at : goal.decreases-loop-at
decreases-loop-at l = l.zombies.count - l.at
