-- `judge_reasons::parts::is_word` meets its contract: a line that has only its word wrong would be read if the word were a word.
use Rattle.judge_reasons.proofs.Unread.{word_unread}
use native.Mathlib.Omega.{arith}
use mathlib.Core.Path.{ap}
use lib.ListN.{length}
use Rattle.trace.proofs.Words.{length-word}
use Rattle.judge_reasons.proofs.parts.is_word.Goals as goal

pub returns-then-w-gt-LONGEST_WORD : goal.returns-then-w-gt-LONGEST_WORD
returns-then-w-gt-LONGEST_WORD c = λ e k p q s. omega (arith, length-word k, ap length s)

pub returns : goal.returns
returns c =
    λ no.
    word_unread c.put_bytes-p.ensures c.put_bytes-q.ensures c.read.ensures.read_as (c.is_good.ensures no)
