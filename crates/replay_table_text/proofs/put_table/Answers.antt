-- `replay_table_text::put_table` meets its contract, by the law of the loop.
use native.Mathlib.Omega.{arith}
use Prim.Native.Nat.{◌≤◌, ◌*◌}
use lib.ListN.{length, take}
use Rattle.replay_table_text.proofs.Walks.{shown-is, shown-most, none_yet, room, one_more, all-put, puts_as}
use Rattle.replay_table_text.proofs.put_table.Goals as goal

pub loop-cell-init : goal.loop-cell-init
loop-cell-init g c = none_yet _ _ _ _ _ (omega arith)

pub put-next-requires : goal.put-next-requires
put-next-requires g c =
    let cells = c.args.cells.now in
    let most = g.T.Entry.most in
    let n = c.min.result in
    let h : most * length (take n cells) ≤ most * length cells = shown-most most n cells (omega arith) in
    room c.loop-cell.invariant c.loop-cell-test.true (omega (arith, h, c.requires))

pub loop-cell-preserved : goal.loop-cell-preserved
loop-cell-preserved g c = one_more c.loop-cell.invariant _ _ c.loop-cell-test.true c.cell-item.is c.put-next.ensures

pub returns : goal.returns
returns g c =
    let cells = c.args.cells.now in
    puts_as (shown-is g.T.Entry.text c.args.count c.min.result cells c.min.ensures) (shown-most g.T.Entry.most c.min.result cells (omega arith))
    (all-put c.loop-cell.invariant c.loop-cell-test.false)
