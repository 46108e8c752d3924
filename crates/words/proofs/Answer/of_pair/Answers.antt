-- `words::Answer::of_pair` meets its contract, by the test of the code.
use borrow.Author.Tests.{eq-eqb, ne_eqb}
use Rattle.words.specs.Answers.{of_pair}
use Rattle.words.proofs.Answer.of_pair.Goals as goal

pub returns-then-code-eq0 : goal.returns-then-code-eq0
unfolding of_pair
returns-then-code-eq0 c = rw (eq-eqb c.args.code 0 c.if-code-eq0.true)

pub returns : goal.returns
unfolding of_pair
returns c = rw (ne_eqb c.args.code 0 c.if-code-eq0.false)
