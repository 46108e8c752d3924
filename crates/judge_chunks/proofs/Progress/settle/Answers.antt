-- `judge_chunks::Progress::settle` meets its contract, by cases of what the last line came to.
use Rattle.judge_chunks.proofs.StartAndEnd.{settle_unopened, settle-waiting, settle_accepted}
use Rattle.judge_chunks.proofs.Progress.settle.Goals as goal
use Rattle.judge_chunks.proofs.Progress.settle.Goals.{then-not-self-via-then-not-self, then-not-self-via-else-not-self+then-self}

pub returns-then-not-self : goal.returns-then-not-self
returns-then-not-self c =
    let p = c.args.self.now in
    elim c.then-not-self.branch [
      | then-not-self-via-then-not-self w ↦ settle_unopened p _ c.in-Ok.is w.if-not-self.true
      | then-not-self-via-else-not-self+then-self w ↦
          settle-waiting p _ c.in-Ok.is w.if-not-self.false w.if-self.true
    ]

pub returns-else-self : goal.returns-else-self
returns-else-self c =
    let p = c.args.self.now in
    settle_accepted p _ c.in-Ok.is c.if-not-self.false c.if-self.false
