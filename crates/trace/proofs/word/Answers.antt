-- `trace::word` meets its contract: a row of the table behind its zeros is the word.
use native.Mathlib.Omega.{arith}
use Rattle.trace.proofs.Words.{row-word}
use Rattle.trace.proofs.word.Goals as goal

pub returns : goal.returns
returns c = rw c.zeros.ensures (row-word c.args.kind (omega arith) c.if-kind-gt-LAST.false)
