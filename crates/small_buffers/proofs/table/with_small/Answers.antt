-- `small_buffers::table::with_small` meets its contract: the cells past the count are emptied, and then it is a push.
use mathlib.Core.Path.{ap, ◌∙◌}
use mathlib.Core.List.{[], ◌∷◌, ◌++◌}
use native.Mathlib.Omega.{arith}
use Rattle.cells.specs.Table.{entries}
use Rattle.cells.proofs.Packs.{entries_pack, kept, packed_count}
use Rattle.manager_rules.specs.Values.{SMALLS, small_of, pack_small, empty_small}
use Rattle.small_buffers.proofs.Rows.{few_entries}
use Rattle.small_buffers.proofs.table.with_small.Goals as goal

pub push-requires : goal.push-requires
push-requires c =
    let l = small_of c.args.small.now in
    let few = few_entries c.args.small.now in
    (omega arith, rw c.clear_rest.ensures (kept empty_small l (omega (arith, few, c.requires)), rw (packed_count SMALLS empty_small l) (omega (arith, few, c.requires))))

pub returns : goal.returns
returns c =
    c.push.ensures
    ∙ ap (λ m. pack_small (m ++ c.args.b ∷ [])) (ap entries c.clear_rest.ensures ∙ entries_pack SMALLS empty_small (small_of c.args.small.now))
