-- `pool_soundness::names::zombie_ids_below` meets its contract.
use mathlib.Core.Path.{◌∙◌}
use mathlib.Core.Bool.{Bool}
use lib.Dec.{ltb}
use Rattle.std.proofs.Common.{rules, tests}
use Rattle.std.proofs.lemmas.Iterator.{YieldsList-from_slice}
use Rattle.std.proofs.lemmas.Iterator.Search.{all_from_yields_List}
use Rattle.tables.specs.Values.{zombies_of}
use Rattle.tables.specs.declared.Zombie.{Zombie}
use Rattle.plain_tables.proofs.Chosen.{every_is}
use Rattle.pool_soundness.proofs.names.zombie_ids_below.Goals as goal

pub returns : goal.returns
returns c =
    let l = zombies_of c.args.zombies.now in
    let test : Zombie → Bool = λ z. ltb z.id.0 c.args.counter in
    all_from_yields_List test _ _ c.all.result c.all.ensures.ran (YieldsList-from_slice l (c.iter.ensures.rest ∙ c.entries.ensures)) (λ x b q k. search (rules, tests))
    ∙ every_is test l
