-- `replay_answers::lend` meets its contract.
use native.Mathlib.Omega.{arith}
use Rattle.replay_answers.proofs.Keeping.{none_lent, spare-lent, more-lent}
use Rattle.replay_answers.proofs.lend.Goals as goal
use Rattle.replay_answers.proofs.lend.Goals.{then-l-ge-OPEN-via-then-l-ge-OPEN, then-l-ge-OPEN-via-else-l-ge-OPEN+then-count-eq-KEPT}

pub returns-then-l-ge-OPEN : goal.returns-then-l-ge-OPEN
returns-then-l-ge-OPEN c =
    elim c.then-l-ge-OPEN.branch [
      | then-l-ge-OPEN-via-then-l-ge-OPEN w ↦ none_lent c.args.l w.if-l-ge-OPEN.true c.requires.few
      | then-l-ge-OPEN-via-else-l-ge-OPEN+then-count-eq-KEPT w ↦ spare-lent c.args.l w.if-l-ge-OPEN.false w.if-count-eq-KEPT.true
    ]

pub returns : goal.returns
returns c =
    rw c.value_in.ensures (more-lent c.args.l c.if-l-ge-OPEN.false (omega (arith, c.requires.few, c.if-count-eq-KEPT.false)))
