-- `small_buffers::tests::is_free` meets its contract.
use mathlib.Core.Path.{◌∙◌}
use mathlib.Core.Bool.{Bool, not}
use lib.Dec.{eqb}
use Rattle.std.proofs.Common.{rules, tests}
use Rattle.std.proofs.lemmas.Iterator.{YieldsList-from_slice}
use Rattle.std.proofs.lemmas.Iterator.Search.{all_from_yields_List}
use Rattle.manager_rules.specs.declared.SmallBuffer.{SmallBuffer}
use Rattle.small_buffers.proofs.Rows.{every_is}
use Rattle.small_buffers.proofs.tests.is_free.Goals as goal

pub returns : goal.returns
returns c =
    let l = c.args.small.now in
    let other : SmallBuffer → Bool = λ b. not (eqb c.args.pointer b.pointer) in
    all_from_yields_List other _ _ c.all.result c.all.ensures.ran (YieldsList-from_slice l cc) (λ x b q k. search (rules, tests)) ∙ every_is other l
