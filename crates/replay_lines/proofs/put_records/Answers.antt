-- `replay_lines::put_records` meets its contract. The invariant: what is put, and the lines of the records that are left, are the lines of all.
use mathlib.Core.Path.{refl}
use native.Mathlib.Omega.{arith}
use Rattle.replay_lines.proofs.Records.{at_first, one_more, all-put}
use Rattle.replay_lines.proofs.put_records.Goals as goal

pub loop-i-init : goal.loop-i-init
loop-i-init c = at_first _ _ _ _ (omega arith)

pub loop-i-preserved : goal.loop-i-preserved
loop-i-preserved c =
    let w = c.put-next.ensures in
    one_more c.loop-i.invariant _ c.loop-i-test.true refl w.puts w.within

pub returns : goal.returns
returns c = all-put c.loop-i.invariant (omega arith)
