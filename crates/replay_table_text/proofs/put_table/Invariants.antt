use Rattle.replay_table_text.proofs.Walks.{Sofar}
use Rattle.replay_table_text.proofs.put_table.Given as goal

abbrev pub invariant-loop-cell : goal.invariant-loop-cell
invariant-loop-cell g l = Sofar g.T.Entry.text g.T.Entry.most l.shown l.initial.out l.at l.out l.cell-index l.next
