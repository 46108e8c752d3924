-- `judge_reasons::fields::of_numbers` meets its contract: each field passed stands behind a tab.
use native.Mathlib.Omega.{arith}
use Prim.Native.Nat.{◌+◌, ◌-◌}
use mathlib.Core.Path.{◌≡◌, ap, ◌∙◌}
use lib.ListN.{get_or}
use Rattle.judge_reasons.specs.Forms.{IsTrueOf}
use Rattle.judge_reasons.proofs.fields.of_numbers.Goals as goal

pub returns-then-not-is_decimal : goal.returns-then-not-is_decimal
unfolding IsTrueOf
returns-then-not-is_decimal c =
    let v = c.args.line.now in
    let i = c.loop-at.at in
    let same : i + 1 - 1 ≡ i = omega arith in (
      record { behind = omega arith; tab = ap (λ k. get_or v k 0) same ∙ c.loop-at.invariant.1 (omega arith); upto = c.find_byte-end.ensures },
      c.is_decimal.ensures c.if-not-is_decimal.true,
    )

pub returns : goal.returns
unfolding IsTrueOf
returns c = tt
