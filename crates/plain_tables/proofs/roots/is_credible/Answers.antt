-- `plain_tables::roots::is_credible` meets its contract.
use mathlib.Core.Path.{◌≡◌, ◌∙◌}
use mathlib.Core.Bool.{Bool}
use Rattle.std.proofs.Common.{rules, arith}
use Rattle.std.proofs.lemmas.Grind.{common_steps}
use Rattle.std.proofs.lemmas.Iterator.{YieldsList-from_slice}
use Rattle.std.proofs.lemmas.Iterator.Search.{all_from_yields_List}
use Rattle.cells.specs.Table.{entries}
use Rattle.words.specs.declared.Address.{Address}
use Rattle.tables.specs.TakeRange.{apart}
use Rattle.lists.specs.Tests.{every}
use Rattle.plain_tables.proofs.Chosen.{every_is}
use Rattle.plain_tables.proofs.roots.is_credible.Goals as goal

pub returns-then-base-va : goal.returns-then-base-va
returns-then-base-va c =
    let l = entries c.args.roots.now in
    let test : Address → Bool = λ a. apart c.args.va c.args.base.0 a.0 in
    let all : c.all.result ≡ every test l =
    all_from_yields_List test _ _ c.all.result c.all.ensures.ran (YieldsList-from_slice l (c.iter.ensures.rest ∙ c.entries.ensures)) (λ x b q k. search rules)
    ∙ every_is test l in
    grind (arith, common_steps, all)
