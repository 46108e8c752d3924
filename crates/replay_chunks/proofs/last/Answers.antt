-- `replay_chunks::last` meets its contract.
use borrow.Author.Tests.{not-true, not-false}
use Rattle.replay_chunks.proofs.Turning.{last-over, last_none, last_runs}
use Rattle.replay_chunks.proofs.last.Goals as goal

pub returns-in-Some : goal.returns-in-Some
returns-in-Some c = last_runs c.args.pool c.args.s (not-true _ c.if-not-s.true) c.in-Some.is c.run_due.ensures

pub returns-in_default : goal.returns-in_default
returns-in_default c = last-over c.args.pool c.args.s (not-false _ c.if-not-s.false)

pub returns-in_default-2 : goal.returns-in_default-2
returns-in_default-2 c = last_none c.args.pool c.args.s c.in_default.is
