-- `driving::Driver::ask` meets its contract: the answer is the lent one, and its record says whether the event is complete.
use mathlib.Core.Bool.{cond}
use Rattle.words.specs.Words.{asked}
use Rattle.words.specs.Answers.{code_of, complete}
use Rattle.words.specs.declared.Answer.{Answer}
use Rattle.words.specs.declared.Record.{Record}
use Rattle.tables.specs.Driver.{ask}
use Rattle.driving.proofs.Endings.{byte_is}
use Rattle.driving.proofs.Ran.{drove}
use Rattle.driving.proofs.Driver.ask.Goals as goal

pub returns : goal.returns
unfolding ask
returns c =
    let d = c.leave.ensures in
    let row : Answer → Record = λ x. asked c.args.id.0 (cond (complete x) 1 0) (code_of x) in
    record {
      lent = d.lent;
      made = d.made;
      ran = λ t. rw (d.heard, d.made) (drove row c.next_answer-answer.ensures
          (rw (c.number.ensures, c.from.ensures, byte_is, c.value.ensures, c.code.ensures) at d.log));
    }
