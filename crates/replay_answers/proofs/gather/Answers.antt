-- `replay_answers::gather` meets its contract. The invariant: the lines that are read so far come to what they came to at first.
use mathlib.Core.Path.{refl, sym, ◌∙◌}
use native.Mathlib.Omega.{arith}
use borrow.Author.Tests.{not-true, not-false}
use Rattle.trace.proofs.Scanned.{Scanned, scanned_as}
use Rattle.replay_answers.specs.declared.Stop.TheVariants.{Call, Malformed}
use Rattle.replay_answers.proofs.Sofar.{at_first, chunk_read, line-open, line-stops, line_on}
use Rattle.replay_answers.proofs.gather.Goals as goal

pub loop-g-init : goal.loop-g-init
loop-g-init c = (refl, at_first _ _ _ _ _ _ c.requires.at_in_bounds.0 c.requires.room)

pub returns-then-not-r : goal.returns-then-not-r
returns-then-not-r c =
    let g = c.loop-g.g in
    let s = c.loop-g.invariant.1 in
    let read : Scanned c.scan-r.result c.args.chunk.now g.at g.partial = scanned_as c.scan-r.ensures s.within in
    rw c.loop-g.invariant.0 (line-open s read c.loop-g-test.true c.scan-r.ensures (not-true _ c.if-not-r.true))

pub returns-in-Malformed : goal.returns-in-Malformed
returns-in-Malformed c =
    let g = c.loop-g.g in
    let s = c.loop-g.invariant.1 in
    let read : Scanned c.scan-r.result c.args.chunk.now g.at g.partial = scanned_as c.scan-r.ensures s.within in
    rw c.fresh-g.ensures
    (line-stops s read c.loop-g-test.true (not-false _ c.if-not-r.false) Malformed (sym c.in-Malformed.is ∙ c.finish.ensures) (λ l. refl) refl tt)

pub returns-in-Good : goal.returns-in-Good
returns-in-Good c =
    let g = c.loop-g.g in
    let s = c.loop-g.invariant.1 in
    let read : Scanned c.scan-r.result c.args.chunk.now g.at g.partial = scanned_as c.scan-r.ensures s.within in
    rw c.fresh-g.ensures
    (line-stops s read c.loop-g-test.true (not-false _ c.if-not-r.false) (Call _)
    (sym c.in-Good.is ∙ c.finish.ensures)
    (λ l. refl) refl (sym c.is_call.ensures ∙ c.if-is_call.true))

pub lend-requires : goal.lend-requires
lend-requires c = c.loop-g.invariant.1.lent

pub overflow_add-g : goal.overflow_add-g
overflow_add-g c =
    let g = c.loop-g.g in
    let s = c.loop-g.invariant.1 in
    let read : Scanned c.scan-r.result c.args.chunk.now g.at g.partial = scanned_as c.scan-r.ensures s.within in
    record { fits = omega (arith, s.counted, c.requires.at_in_bounds.1) }

pub loop-g-smaller : goal.loop-g-smaller
loop-g-smaller c =
    let g = c.loop-g.g in
    let s = c.loop-g.invariant.1 in
    let read : Scanned c.scan-r.result c.args.chunk.now g.at g.partial = scanned_as c.scan-r.ensures s.within in
    omega (arith, read.moved c.loop-g-test.true, read.within)

pub loop-g-preserved : goal.loop-g-preserved
loop-g-preserved c =
    let g = c.loop-g.g in
    let s = c.loop-g.invariant.1 in
    let read : Scanned c.scan-r.result c.args.chunk.now g.at g.partial = scanned_as c.scan-r.ensures s.within in (
      c.loop-g.invariant.0,
      rw c.fresh-g.ensures
          (line_on s read c.loop-g-test.true (not-false _ c.if-not-r.false) _
          (sym c.in-Good.is ∙ c.finish.ensures)
          (sym c.is_call.ensures ∙ c.if-is_call.false)
          c.lend.ensures c.lend.auto.answers),
    )

pub returns : goal.returns
returns c = rw c.loop-g.invariant.0 (chunk_read c.loop-g.invariant.1 (omega (arith, c.loop-g.invariant.1.within)))
