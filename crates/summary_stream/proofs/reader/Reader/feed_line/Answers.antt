-- `summary_stream::Reader::feed_line` meets its contract: a line, or the part of one, has bytes.
use native.Mathlib.Omega.{arith}
use Rattle.trace.proofs.Scanned.{scanned_as}
use Rattle.summary_stream.proofs.reader.Reader.feed_line.Goals as goal

pub returns-then-reach-clause-moved : goal.returns-then-reach-clause-moved
returns-then-reach-clause-moved c =
    let v = c.args in
    let sc = scanned_as {chunk = v.chunk.now} {at = v.at} {p = v.self.now.partial} c.scan-reach.ensures (omega (arith, c.requires.0)) in
    (sc.moved c.requires.0, sc.within)

pub returns-else-reach-clause-moved : goal.returns-else-reach-clause-moved
returns-else-reach-clause-moved c =
    let v = c.args in
    let sc = scanned_as {chunk = v.chunk.now} {at = v.at} {p = v.self.now.partial} c.scan-reach.ensures (omega (arith, c.requires.0)) in
    (sc.moved c.requires.0, sc.within)
