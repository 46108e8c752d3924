-- `trace::put_bad` meets its contract, by the promise of `put_text`.
use Rattle.trace.specs.Form.{bad_line}
use Rattle.trace.proofs.put_bad.Goals as goal

pub returns : goal.returns
unfolding bad_line
returns c = c.put_text.ensures
