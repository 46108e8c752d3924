-- `replay_whole::replay` meets its contract: `Goes` is the loop's invariant, what is left of the input its measure.
use native.Mathlib.Omega.{arith}
use borrow.Author.Rules.{rules}
use borrow.Author.Tests.{not-true, not-false}
use Rattle.replay_whole.proofs.Goes.{goes-start, goes-keeps, goes_cut, goes_on, goes-ends}
use Rattle.replay_whole.proofs.replay.Goals as goal

pub loop-at-init : goal.loop-at-init
loop-at-init c = goes-start _ _ _ c.answers_buffer.ensures c.closed-pool.ensures c.first-place.ensures

pub turn-r-requires-clause-stands : goal.turn-r-requires-clause-stands
turn-r-requires-clause-stands c =
    let i = c.loop-at.invariant in
    (record { line = i.lines; few = (goes-keeps i).few }, record { pairs = search rules; records = search rules; text = search rules })

pub returns-then-not-done : goal.returns-then-not-done
returns-then-not-done c =
    goes_cut c.loop-at.invariant c.turn-r.ensures c.add-done.ensures (not-true _ c.if-not-done.true)

pub loop-at-preserved : goal.loop-at-preserved
loop-at-preserved c = goes_on c.loop-at.invariant c.turn-r.ensures c.add-done.ensures (not-false _ c.if-not-done.false)

pub finish-requires-clause-stands : goal.finish-requires-clause-stands
finish-requires-clause-stands c =
    let i = c.loop-at.invariant in
    record { line = i.lines; few = (goes-keeps i).few }

pub returns : goal.returns
returns c = goes-ends c.loop-at.invariant (omega arith) c.finish.ensures
