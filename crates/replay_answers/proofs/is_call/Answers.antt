-- `replay_answers::is_call` meets its contract.
use Prim.Native.Nat.{◌<◌}
use native.Mathlib.Omega.{arith}
use borrow.Author.Tests.{lt-leb}
use Rattle.trace.specs.Kinds.{OPEN}
use Rattle.replay_answers.proofs.Keeping.{driver-below, no-driver}
use Rattle.replay_answers.specs.Lending.{is_call}
use Rattle.replay_answers.proofs.is_call.Goals as goal

pub returns-then-l-ge-OPEN : goal.returns-then-l-ge-OPEN
unfolding is_call
returns-then-l-ge-OPEN c = rw (no-driver c.args.l c.if-l-ge-OPEN.true, c.is_passed_over.ensures)

pub returns-else-l-ge-OPEN : goal.returns-else-l-ge-OPEN
unfolding is_call
returns-else-l-ge-OPEN c = let h : c.args.l.kind < OPEN = omega arith in rw (driver-below c.args.l h, lt-leb OPEN c.args.l.kind h)
