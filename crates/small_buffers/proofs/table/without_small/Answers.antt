-- `small_buffers::table::without_small` meets its contract. The invariant: those of the buffers passed that stay.
use mathlib.Core.Path.{sym, ap, ◌∙◌}
use mathlib.Core.Bool.{not}
use mathlib.Core.List.{◌∷◌, ◌++◌, []}
use Prim.Native.Nat.{◌<◌, ◌≤◌}
use native.Mathlib.Omega.{arith}
use lib.Dec.{eqb}
use lib.ListN.{length, take, get_or, length-take}
use Rattle.lists.specs.Order.{without}
use Rattle.lists.proofs.Tests.{length-filter}
use Rattle.cells.specs.Table.{entries}
use Rattle.cells.proofs.Packs.{entries_pack, kept, packed_count}
use Rattle.manager_rules.specs.Values.{SMALLS, pack_small, empty_small}
use Rattle.small_buffers.proofs.Rows.{few_entries, without-stays, without-goes}
use Rattle.small_buffers.proofs.table.without_small.Goals as goal
use Rattle.small_buffers.proofs.table.without_small.Goals.{then-b-pointer, else-b-pointer}

pub push-requires : goal.push-requires
push-requires c =
    let v = c.loop-b in
    let l = c.entries-b-items.result.now in
    let first = take v.b-index l in
    let stay = without (λ b. b.pointer) c.args.pointer first in
    let some : length first ≤ v.b-index = simp length-take (omega arith) in
    let few : length stay < SMALLS =
    omega (
      arith,
      length-filter (λ b. not (eqb b.pointer c.args.pointer)) first,
      some,
      c.loop-b-test.true,
      few_entries c.args.small.now,
      ap length c.entries-b-items.ensures,
      c.requires,
    ) in
    (omega arith, rw v.invariant (kept empty_small stay (omega arith), rw (packed_count SMALLS empty_small stay) few))

pub loop-b-preserved : goal.loop-b-preserved
loop-b-preserved c =
    let v = c.loop-b in
    let l = c.entries-b-items.result.now in
    let stay = without (λ b. b.pointer) c.args.pointer (take v.b-index l) in
    let x = get_or l v.b-index empty_small in
    elim c.if-b-pointer.branch [
      | then-b-pointer w ↦
          w.others-is ∙ w.push.ensures ∙ ap (λ m. pack_small (m ++ x ∷ [])) (ap entries v.invariant ∙ entries_pack SMALLS empty_small stay)
          ∙ ap pack_small (sym (without-stays (λ b. b.pointer) c.args.pointer l v.b-index empty_small c.loop-b-test.true w.if-b-pointer.true))
      | else-b-pointer w ↦
          w.others-is ∙ v.invariant ∙ ap pack_small (sym (without-goes (λ b. b.pointer) c.args.pointer l v.b-index empty_small c.loop-b-test.true w.if-b-pointer.false))
    ]
