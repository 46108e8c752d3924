-- `manager::serving::small_answered` meets its contract, by the driver's answer.
use mathlib.Core.Path.{refl, sym, ap, ◌∙◌}
use mathlib.Core.List.{[], ◌∷◌, ◌++◌}
use Rattle.manager_rules.specs.Malloc.{grown, incredible, small_answered}
use Rattle.manager.proofs.serving.small_answered.Goals as goal

pub returns-in-Missing : goal.returns-in-Missing
unfolding small_answered
returns-in-Missing c = rw c.in-Missing.is (record { outcome = refl; manager = refl })

pub returns-in-Failed : goal.returns-in-Failed
unfolding small_answered
returns-in-Failed c = rw c.in-Failed.is (record { outcome = refl; manager = refl })

pub returns-then-is_incredible : goal.returns-then-is_incredible
unfolding small_answered incredible
returns-then-is_incredible c = rw (c.in-Done.is, sym c.is_incredible.ensures ∙ c.if-is_incredible.true) (record { outcome = refl; manager = refl })

pub returns : goal.returns
unfolding small_answered incredible
returns c =
    rw (c.in-Done.is, sym c.is_incredible.ensures ∙ c.if-is_incredible.false)
    (record { outcome = refl; manager = c.grow.ensures ∙ (rw c.with_small.ensures refl) })
