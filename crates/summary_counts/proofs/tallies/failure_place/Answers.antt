-- `summary_counts::failure_place` meets its contract: no kind that stands for something is beyond the table.
use mathlib.Core.Path.{sym, ◌∙◌}
use mathlib.Core.Logic.{⊎_elim}
use Rattle.summary_counts.proofs.Places.{record-fits, aside-fits}
use Rattle.summary_counts.proofs.tallies.failure_place.Goals as goal

pub returns-in-Record-clause-within : goal.returns-in-Record-clause-within
returns-in-Record-clause-within c =
    let e = sym c.said_of.ensures in
    ⊎_elim (λ h. record-fits c.args.kind h.0 (e ∙ h.1)) (λ h. aside-fits c.args.kind (e ∙ h)) c.in-Record.is
