use Rattle.trace.specs.Bounds.{longest_field}
use Rattle.replay_table_text.specs.Tables.{field}
use Rattle.replay_table_text.proofs.Walks.{Sofar}
use Rattle.replay_table_text.proofs.put_entry.Given as goal

abbrev pub invariant-loop-number : goal.invariant-loop-number
invariant-loop-number l = Sofar field longest_field l.numbers l.initial.out l.initial.next l.out l.number-index l.next
