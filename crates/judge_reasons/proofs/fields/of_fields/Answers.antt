-- `judge_reasons::fields::of_fields` meets its contract, by its tests.
use Rattle.judge_reasons.specs.Forms.{IsTrueOf}
use Rattle.judge_reasons.proofs.fields.of_fields.Goals as goal

pub returns-then-not-is_word : goal.returns-then-not-is_word
unfolding IsTrueOf
returns-then-not-is_word c = (c.find_byte-word.ensures, c.is_word.ensures c.if-not-is_word.true)

pub returns-then-n-lt-TABS : goal.returns-then-n-lt-TABS
unfolding IsTrueOf
returns-then-n-lt-TABS c = (c.count_tabs-n.ensures, c.if-n-lt-TABS.true)

pub returns-then-n-gt-TABS : goal.returns-then-n-gt-TABS
unfolding IsTrueOf
returns-then-n-gt-TABS c = (c.count_tabs-n.ensures, c.if-n-gt-TABS.true)
