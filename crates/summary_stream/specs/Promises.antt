-- What the reading of a trace keeps: that there is room for what follows. What it prints is in no contract.
use Rattle.std.specs.Prelude.{ℕ}
use Rattle.summary_stream.specs.declared.reader.Reader.{Reader}

abbrev pub lines : Reader → ℕ
lines r = r.summary.counts.lines
