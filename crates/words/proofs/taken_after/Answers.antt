-- `words::taken_after` meets its contract: an answer is left exactly where `taken` is below half the length.
use mathlib.Core.Path.{sym}
use native.Mathlib.Omega.{arith}
use Rattle.words.proofs.Answers.{taken_more, taken-same}
use Rattle.words.proofs.taken_after.Goals as goal

pub returns-then-pairs-taken : goal.returns-then-pairs-taken
returns-then-pairs-taken c =
    let a = c.args in
    sym (taken-same a.answers.now a.taken (omega arith))

pub returns : goal.returns
returns c =
    let a = c.args in
    sym (taken_more a.answers.now a.taken (omega arith))
