-- `judge_reasons::forms::form_of` meets its contract, by its tests.
use native.Mathlib.Omega.{arith}
use Rattle.judge_reasons.specs.Forms.{IsTrueOf}
use Rattle.judge_reasons.proofs.forms.form_of.Goals as goal

pub returns-then-n-eq0 : goal.returns-then-n-eq0
unfolding IsTrueOf
returns-then-n-eq0 c = c.if-n-eq0.true

pub returns-then-n-gt-LONGEST_LINE : goal.returns-then-n-gt-LONGEST_LINE
unfolding IsTrueOf
returns-then-n-gt-LONGEST_LINE c = c.if-n-gt-LONGEST_LINE.true

pub returns-then-line-n-eq13 : goal.returns-then-line-n-eq13
unfolding IsTrueOf
returns-then-line-n-eq13 c = (omega arith, c.if-line-n-eq13.true)
