-- `pool_soundness::roots::roots_aligned` meets its contract.
use mathlib.Core.Path.{◌∙◌}
use mathlib.Core.Bool.{Bool, ◌&&◌}
use Prim.Native.Nat.{◌-◌}
use lib.Dec.{leb}
use Rattle.std.proofs.Common.{rules, tests}
use Rattle.std.proofs.lemmas.Iterator.{YieldsList-from_slice}
use Rattle.std.proofs.lemmas.Iterator.Search.{all_from_yields_List}
use Rattle.words.specs.declared.Address.{Address}
use Rattle.tables.specs.Bounds.{END}
use Rattle.tables.specs.Values.{roots_of}
use Rattle.tables.specs.WellFormed.{whole}
use Rattle.plain_tables.proofs.Chosen.{every_is}
use Rattle.pool_soundness.proofs.roots.roots_aligned.Goals as goal

pub returns : goal.returns
returns c =
    let l = roots_of c.args.roots.now in
    let test : Address → Bool = λ a. whole c.args.page a.0 && leb a.0 (END - c.args.va) in
    all_from_yields_List test _ _ c.all.result c.all.ensures.ran (YieldsList-from_slice l (c.iter.ensures.rest ∙ c.entries.ensures))
    (λ a b q k. search (rules, tests)) ∙ every_is test l
