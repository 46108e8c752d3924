-- `summary_counts::Counts::new` meets its contract: its tables are all zeros.
use mathlib.Core.Path.{refl}
use native.Mathlib.Omega.{arith}
use Rattle.summary_counts.specs.Counts.{answer_places, failure_places}
use Rattle.summary_counts.proofs.Starting.{all-zeros, none-counted, none-first}
use Rattle.summary_counts.proofs.tallies.Counts.new.Goals as goal

pub invariant_of-result : goal.invariant_of-result
invariant_of-result c =
    record { few_answers = λ i. omega (arith, none-counted answer_places i); few_failures = λ i. omega (arith, all-zeros failure_places i) }

pub returns : goal.returns
returns c =
    record {
      lines = refl;
      live = refl;
      mapped = refl;
      answers = none-counted answer_places;
      firsts = none-first answer_places;
      failures = all-zeros failure_places;
    }
