-- `replay_waiting::advance` meets its contract, by where it stands.
use native.Mathlib.Omega.{arith}
use Rattle.replay_waiting.proofs.Steps.{still-over}
use Rattle.replay_waiting.proofs.advance.Goals as goal

pub returns-then-s : goal.returns-then-s
returns-then-s c =
    rw c.reading.ensures (still-over c.args.s _ _ _ _ c.if-s.true (omega arith) c.requires.stands.0)

pub returns-in-None : goal.returns-in-None
returns-in-None c = c.begin.ensures.advances c.if-s.false c.in-None.is _

pub returns-in-Some : goal.returns-in-Some
returns-in-Some c = c.go_on.ensures.advances c.if-s.false c.in-Some.is
