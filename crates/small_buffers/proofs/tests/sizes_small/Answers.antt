-- `small_buffers::tests::sizes_small` meets its contract.
use mathlib.Core.Path.{◌∙◌}
use mathlib.Core.Bool.{Bool, ◌&&◌}
use lib.Dec.{ltb, leb}
use Rattle.std.proofs.Common.{rules, tests}
use Rattle.std.proofs.lemmas.Iterator.{YieldsList-from_slice}
use Rattle.std.proofs.lemmas.Iterator.Search.{all_from_yields_List}
use Rattle.manager_rules.specs.declared.SmallBuffer.{SmallBuffer}
use Rattle.small_buffers.proofs.Rows.{every_is}
use Rattle.small_buffers.proofs.tests.sizes_small.Goals as goal

pub returns : goal.returns
returns c =
    let l = c.args.small.now in
    let fits : SmallBuffer → Bool = λ b. leb 1 b.size && ltb b.size c.args.page in
    all_from_yields_List fits _ _ c.all.result c.all.ensures.ran (YieldsList-from_slice l cc) (λ x b q k. search (rules, tests)) ∙ every_is fits l
