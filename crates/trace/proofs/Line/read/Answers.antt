-- `trace::Line::read` meets its contract: what the machine comes to is what the definition says.
use mathlib.Core.Path.{◌≡◌, sym, ap, ◌∙◌}
use Rattle.trace.specs.Machine.{fresh, line_at, read_line}
use Rattle.trace.proofs.Printed.{run-fold}
use Rattle.trace.proofs.Meaning.{read_as}
use Rattle.trace.proofs.Fields.{reading-is}
use Rattle.trace.proofs.Line.read.Goals as goal

pub returns : goal.returns
unfolding read_line
returns c =
    let l = c.args.bytes.now in
    let e : c.finish.result ≡ read_line l = rw (c.finish.ensures, c.through.ensures, c.fresh.ensures) (ap line_at (sym (run-fold fresh l))) in
    record { value = e ∙ sym (reading-is l); read_as = rw e (read_as l) }
