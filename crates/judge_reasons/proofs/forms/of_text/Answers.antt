-- `judge_reasons::forms::of_text` meets its contract, by its tests.
use native.Mathlib.Omega.{arith}
use Rattle.judge_reasons.specs.Forms.{IsTrueOf}
use Rattle.judge_reasons.proofs.forms.of_text.Goals as goal

pub returns-then-odd-line : goal.returns-then-odd-line
unfolding IsTrueOf
returns-then-odd-line c = (c.if-odd-line.true, c.find_unprinted-odd.ensures c.if-odd-line.true)

pub returns-then-line-tab : goal.returns-then-line-tab
unfolding IsTrueOf
returns-then-line-tab c = (
  c.if-space-line.true,
  (c.find_byte-space.ensures.found c.if-space-line.true, λ k h q. c.find_byte-tab.ensures.before k h (omega (arith, c.if-line-tab.true))),
)
