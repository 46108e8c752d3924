-- `summary_counts::on_done` meets its contract, call by call.
use mathlib.Core.Path.{◌≡◌}
use mathlib.Core.Bool.{not}
use lib.Dec.{eqb}
use Rattle.std.proofs.Common.{rules}
use Rattle.std.specs.List as library
use Rattle.fixed_rows.proofs.Retained.{filter-from_retain}
use Rattle.summary_counts.specs.declared.handed.HandOver.{HandOver}
use Rattle.summary_counts.proofs.Handing.{handed-left}
use Rattle.summary_counts.proofs.handed.on_done.Goals as goal

pub returns-in-Free : goal.returns-in-Free
returns-in-Free c =
    let a = c.args.asked.first in
    let e : c.retain.new.self.items ≡ library.filter (λ (o : HandOver). not (eqb o.start a)) c.args.handed.now.items =
    filter-from_retain _ _ _ (λ x b f y called. search rules) _ _ c.retain.ensures.filtered
    in
    rw c.in-Free.is (handed-left a c.args.handed.now c.retain.new.self e)
