-- `trace::put_short` meets its contract, by the promise of `put_text`.
use Rattle.trace.specs.Form.{short_line}
use Rattle.trace.proofs.put_short.Goals as goal

pub returns : goal.returns
unfolding short_line
returns c = c.put_text.ensures
