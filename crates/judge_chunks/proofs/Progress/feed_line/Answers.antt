-- `judge_chunks::Progress::feed_line` meets its contract: a line that ends is judged, one that does not is kept.
use native.Mathlib.Omega.{arith}
use Rattle.trace.proofs.Scanned.{scanned_as}
use Rattle.judge_chunks.proofs.LineByLine.{going-says, ended-says}
use Rattle.judge_chunks.proofs.Progress.feed_line.Goals as goal

pub returns-then-reach : goal.returns-then-reach
returns-then-reach c =
    let v = c.args in
    let p = v.self.now in
    let sc = scanned_as {chunk = v.chunk.now} {at = v.at} {p = p.partial} c.scan-reach.ensures (omega (arith, c.requires.inside)) in
    let j = c.on_reading.ensures in
    record {
      moved = sc.moved c.requires.inside;
      within = sc.within;
      lines = omega (arith, j.lines);
      says = ended-says p v.chunk.now v.at c.scan-reach.result sc c.if-reach.true c.requires.well c.on_reading.new.self c.finish.result c.finish.ensures j;
    }

pub returns-else-reach : goal.returns-else-reach
returns-else-reach c =
    let v = c.args in
    let p = v.self.now in
    let sc = scanned_as {chunk = v.chunk.now} {at = v.at} {p = p.partial} c.scan-reach.ensures (omega (arith, c.requires.inside)) in
    record {
      moved = sc.moved c.requires.inside;
      within = sc.within;
      lines = omega arith;
      says = going-says p v.chunk.now v.at c.scan-reach.result sc c.if-reach.false;
    }
