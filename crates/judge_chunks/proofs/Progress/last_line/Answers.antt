-- `judge_chunks::Progress::last_line` meets its contract: refused before, no line left, or one line more.
use mathlib.Core.Path.{sym, ◌∙◌}
use native.Mathlib.Omega.{arith}
use Rattle.judge_chunks.proofs.StartAndEnd.{ends-line}
use Rattle.judge_chunks.proofs.LineByLine.{well}
use Rattle.judge_chunks.proofs.Progress.last_line.Goals as goal

pub returns : goal.returns
returns c =
    let p = c.args.self.now in
    let j = c.on_reading.ensures in
    record {
      lines = omega (arith, j.lines);
      says = ends-line p (sym c.is_fresh.ensures ∙ c.if-is_fresh.false) (well p.outcome (sym c.is_err.ensures.value ∙ c.if-is_err.false)) c.on_reading.new.self c.finish.result c.finish.ensures j;
    }
