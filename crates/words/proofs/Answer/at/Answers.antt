-- `words::Answer::at` meets its contract: the pair after `made` others is there exactly where `made` is below half the length.
use mathlib.Core.Path.{sym, ◌∙◌}
use native.Mathlib.Omega.{arith}
use Rattle.words.proofs.Answers.{lent_pair, lent-missing}
use Rattle.words.proofs.Answer.at.Goals as goal

pub returns-then-pairs-made : goal.returns-then-pairs-made
returns-then-pairs-made c =
    let a = c.args in
    sym (lent-missing a.answers.now a.made (omega arith))

pub returns : goal.returns
returns c =
    let a = c.args in
    c.of_pair.ensures ∙ sym (lent_pair a.answers.now a.made (omega arith))
