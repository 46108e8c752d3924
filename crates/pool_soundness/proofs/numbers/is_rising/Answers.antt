-- `pool_soundness::numbers::is_rising` meets its contract.
use Rattle.std.proofs.Common.{rules, tests}
use Rattle.std.proofs.lemmas.Fn.{always_returns_same}
use Rattle.pool_soundness.proofs.Rising.{is_below, rising_distinct}
use Rattle.pool_soundness.proofs.numbers.is_rising.Goals as goal

pub returns : goal.returns
returns c =
    rising_distinct c.args.numbers.now c.is_sorted_by.result
    (c.is_sorted_by.ensures.cases (λ x y. is_below x y) (always_returns_same _ _ _ (λ a r q k. search (rules, tests))))
