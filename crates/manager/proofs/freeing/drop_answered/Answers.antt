-- `manager::freeing::drop_answered` meets its contract, by the driver's answer.
use mathlib.Core.Path.{refl}
use Rattle.manager_rules.specs.Free.{drop_answered}
use Rattle.manager.proofs.freeing.drop_answered.Goals as goal

pub returns-in-Missing : goal.returns-in-Missing
unfolding drop_answered
returns-in-Missing c = rw c.in-Missing.is (record { outcome = refl; manager = refl })

pub returns-in-Failed : goal.returns-in-Failed
unfolding drop_answered
returns-in-Failed c = rw c.in-Failed.is (record { outcome = refl; manager = refl })

pub returns-in-Done : goal.returns-in-Done
unfolding drop_answered
returns-in-Done c = rw (c.in-Done.is, c.without_small.ensures) (record { outcome = refl; manager = refl })
