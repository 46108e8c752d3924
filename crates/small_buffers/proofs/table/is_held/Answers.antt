-- `small_buffers::table::is_held` meets its contract.
use mathlib.Core.Path.{◌∙◌}
use mathlib.Core.Bool.{Bool}
use lib.Dec.{eqb}
use Rattle.std.proofs.Common.{rules, tests}
use Rattle.std.proofs.lemmas.Iterator.{YieldsList-from_slice}
use Rattle.std.proofs.lemmas.Iterator.Search.{any_from_yields_List}
use Rattle.manager_rules.specs.declared.SmallBuffer.{SmallBuffer}
use Rattle.small_buffers.proofs.Rows.{any_is}
use Rattle.small_buffers.proofs.table.is_held.Goals as goal

pub returns : goal.returns
returns c =
    let l = c.args.small.now in
    let here : SmallBuffer → Bool = λ b. eqb b.pointer c.args.pointer in
    any_from_yields_List here _ _ c.any.result c.any.ensures.ran (YieldsList-from_slice l cc) (λ x b q k. search (rules, tests)) ∙ any_is here l
