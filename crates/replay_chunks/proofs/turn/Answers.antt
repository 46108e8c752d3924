-- `replay_chunks::turn` meets its contract, by whether the waiting call is due and has a result.
use borrow.Author.Tests.{not-true, not-false}
use Rattle.replay_chunks.proofs.Turning.{turn-reads, turn-runs, turn-short}
use Rattle.replay_chunks.proofs.turn.Goals as goal
use Rattle.replay_chunks.proofs.turn.Goals.{then-not-ran, else-not-ran}

pub returns-in_default : goal.returns-in_default
returns-in_default c = turn-reads c.args.pool c.args.s c.advance-a.ensures c.requires.at_in_bounds.0 c.in_default.is

pub returns : goal.returns
returns c =
    let a = c.args in
    elim c.if-not-ran.branch [
      | then-not-ran w ↦
          let v = not-true _ w.if-not-ran.true in
          rw (w.place-is, v) (turn-short a.pool a.s c.advance-a.ensures c.requires.at_in_bounds.0 c.in-Some.is c.run_due-ran.ensures v)
      | else-not-ran w ↦
          let v = not-false _ w.if-not-ran.false in
          rw (w.place-is, v) (turn-runs a.pool a.s c.advance-a.ensures c.requires.at_in_bounds.0 c.in-Some.is c.run_due-ran.ensures v)
    ]
