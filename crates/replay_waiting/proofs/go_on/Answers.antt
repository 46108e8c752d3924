-- `replay_waiting::go_on` meets its contract: the chunk is read, a call line is met, or a line is malformed.
use Rattle.replay_waiting.proofs.Waits.{waits-on, waits-bad, waits-meets}
use Rattle.replay_waiting.proofs.go_on.Goals as goal

pub returns-in-More : goal.returns-in-More
returns-in-More c =
    let g = c.gather-g.ensures in
    rw (c.reading-in-More.ensures, c.reading.ensures)
    (record { advances = λ o b. waits-on c.args.s g c.requires.stands.0.line o b _ c.in-More.is })

pub returns-in-Call : goal.returns-in-Call
returns-in-Call c =
    let g = c.gather-g.ensures in
    record { advances = λ o b. waits-meets c.args.s g c.requires.stands.0.line o b _ _ c.in-Call.is c.meet.ensures }

pub returns-in-Malformed : goal.returns-in-Malformed
returns-in-Malformed c =
    let g = c.gather-g.ensures in
    record { advances = λ o b. waits-bad c.args.s g c.requires.stands.0.line o b _ c.in-Malformed.is c.stop_at.ensures }
