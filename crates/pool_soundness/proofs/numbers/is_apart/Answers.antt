-- `pool_soundness::numbers::is_apart` meets its contract.
use mathlib.Core.Path.{◌∙◌}
use mathlib.Core.Bool.{Bool, not}
use Prim.Native.Nat.{ℕ}
use lib.Dec.{eqb}
use Rattle.std.proofs.Common.{rules, tests}
use Rattle.std.proofs.lemmas.Iterator.{YieldsList-from_slice}
use Rattle.std.proofs.lemmas.Iterator.Search.{all_from_yields_List}
use Rattle.plain_tables.proofs.Chosen.{every_is}
use Rattle.pool_soundness.proofs.numbers.is_apart.Goals as goal

pub returns-else-not-is_marked : goal.returns-else-not-is_marked
returns-else-not-is_marked c =
    let l = c.args.rest.now in
    let test : ℕ → Bool = λ y. not (eqb c.args.x y) in
    all_from_yields_List test _ _ c.all.result c.all.ensures.ran (YieldsList-from_slice l c.iter.ensures.rest) (λ y b q k. search (rules, tests))
    ∙ every_is test l
