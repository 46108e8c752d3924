-- `small_buffers::table::is_in_roots` meets its contract.
use mathlib.Core.Path.{◌∙◌}
use mathlib.Core.Bool.{Bool, ◌&&◌}
use Prim.Native.Nat.{◌+◌}
use lib.Dec.{ltb, leb}
use Rattle.std.proofs.Common.{rules, tests}
use Rattle.std.proofs.lemmas.Iterator.{YieldsList-from_slice}
use Rattle.std.proofs.lemmas.Iterator.Search.{any_from_yields_List}
use Rattle.words.specs.declared.Address.{Address}
use Rattle.small_buffers.proofs.Rows.{any_is}
use Rattle.small_buffers.proofs.table.is_in_roots.Goals as goal

pub returns : goal.returns
returns c =
    let l = c.args.roots.now in
    let inside : Address → Bool = λ r. leb r.0 c.args.pointer && ltb c.args.pointer (r.0 + c.args.va) in
    any_from_yields_List inside _ _ c.any.result c.any.ensures.ran (YieldsList-from_slice l cc) (λ x b q k. search (rules, tests)) ∙ any_is inside l
