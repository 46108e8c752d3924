-- `replay_waiting::begin` meets its contract: the line goes on, is an open, or is none.
use mathlib.Core.Path.{refl, sym, ◌∙◌}
use native.Mathlib.Omega.{arith}
use borrow.Author.Tests.{not-true, not-false, eq-eqb, ne_eqb}
use Rattle.trace.proofs.Scanned.{Scanned, scanned_as}
use Rattle.replay_waiting.proofs.First.{first-open, first_stops, first-waits}
use Rattle.replay_waiting.proofs.begin.Goals as goal
use Rattle.replay_waiting.proofs.begin.Goals.{in_default-via-in-Good+else-l-eq-OPEN, in_default-via-in_default}

pub returns-then-not-r : goal.returns-then-not-r
returns-then-not-r c =
    let read : let a = c.args in Scanned c.scan-r.result a.chunk.now a.at a.s.partial = scanned_as c.scan-r.ensures (omega arith) in
    rw (c.reading-then-not-r.ensures, c.reading.ensures)
    (record { advances = λ o b cells. first-open c.args.s read c.requires.1.0 o b cells _ c.requires.0 c.scan-r.ensures (not-true _ c.if-not-r.true) })

pub returns-in-Good : goal.returns-in-Good
returns-in-Good c =
    let read : let a = c.args in Scanned c.scan-r.result a.chunk.now a.at a.s.partial = scanned_as c.scan-r.ensures (omega arith) in
    rw (c.reading-in-Good.ensures, c.waiting.ensures)
    (record {
      advances = λ o b cells.
          first-waits c.args.s read c.requires.1.0 o b cells _ c.requires.0 (not-false _ c.if-not-r.false) _
          (sym c.in-Good.is ∙ c.finish.ensures)
          (eq-eqb _ _ c.if-l-eq-OPEN.true);
    })

pub returns-in_default : goal.returns-in_default
returns-in_default c =
    let read : let a = c.args in Scanned c.scan-r.result a.chunk.now a.at a.s.partial = scanned_as c.scan-r.ensures (omega arith) in
    elim c.in_default.branch [
      | in_default-via-in-Good+else-l-eq-OPEN w ↦
          record {
            advances = λ o b cells.
                first_stops c.args.s read c.requires.1.0 o b cells _ c.requires.0 (not-false _ c.if-not-r.false)
                (sym w.in-Good.is ∙ c.finish.ensures)
                (λ show p ls. rw (ne_eqb _ _ w.if-l-eq-OPEN.false)) c.stop_at.ensures;
          }
      | in_default-via-in_default w ↦
          record {
            advances = λ o b cells.
                first_stops c.args.s read c.requires.1.0 o b cells _ c.requires.0 (not-false _ c.if-not-r.false)
                (sym w.in_default.is ∙ c.finish.ensures)
                (λ show p ls. refl) c.stop_at.ensures;
          }
    ]
