use Rattle.replay_lines.proofs.Records.{Sofar}
use Rattle.replay_lines.proofs.put_records.Given as goal

abbrev pub invariant-loop-i : goal.invariant-loop-i
invariant-loop-i l = Sofar l.log l.count l.initial.out l.at l.out l.i l.next
