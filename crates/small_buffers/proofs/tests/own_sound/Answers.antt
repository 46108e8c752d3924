-- `small_buffers::tests::own_sound` meets its contract: each test is one of the definition's. The sum over the live buffers is the same in any order.
use mathlib.Core.Path.{◌≡◌, refl, sym, ◌∙◌}
use mathlib.Core.Bool.{Bool, true, false, ◌&&◌, and_assoc}
use Prim.Native.Nat.{◌+◌}
use lib.Dec.{leb, eqb}
use Rattle.lists.specs.Walks.{sum}
use Rattle.lists.proofs.Order.{sum-sorted}
use Rattle.tables.specs.Values.{live_of, tables_of, in_order}
use Rattle.manager_rules.specs.WellFormed.{pointers_nonzero, pointers_distinct, sizes_small, small_bytes, own_sound}
use Rattle.manager_rules.specs.declared.Manager.{Manager}
use Rattle.small_buffers.proofs.tests.own_sound.Goals as goal
use Rattle.small_buffers.proofs.tests.own_sound.Goals.{then-pointers_good, else-pointers_good, then-sizes_small, else-sizes_small}

abbrev held : Manager → Bool
held m = eqb m.current (small_bytes m + sum (λ b. b.size) (live_of m.pool.live))

tests : (m : Manager) → own_sound m ≡ ((((pointers_nonzero m && pointers_distinct m) && sizes_small m) && held m) && leb m.current m.highest)
unfolding own_sound in_order tables_of
tests m =
    rw (sum-sorted (λ b. b.start.0) (λ b. b.size) (live_of m.pool.live))
    (sym (simp and_assoc))

passes : {p q v : Bool} → p ≡ true → v ≡ q → v ≡ (p && q)
passes e h = rw e h

fails : {p v : Bool} (q : Bool) → p ≡ false → v ≡ false → v ≡ (p && q)
fails q e h = rw e h

pub returns-then-is_current_held : goal.returns-then-is_current_held
returns-then-is_current_held c =
    let m = c.args.m.now in
    let good : c.pointers_good.result ≡ (pointers_nonzero m && pointers_distinct m) = rw c.entries-small.ensures at c.pointers_good.ensures in
    let one : c.if-pointers_good.value ≡ ((pointers_nonzero m && pointers_distinct m) && sizes_small m) =
    elim c.if-pointers_good.branch [
      | then-pointers_good w ↦ passes (sym good ∙ w.if-pointers_good.true) (w.value-is ∙ (rw c.entries-small.ensures at w.sizes_small.ensures))
      | else-pointers_good w ↦ fails _ (sym good ∙ w.if-pointers_good.false) (w.value-is ∙ w.if-pointers_good.false)
    ] in
    let two : c.if-sizes_small.value ≡ (((pointers_nonzero m && pointers_distinct m) && sizes_small m) && held m) =
    elim c.if-sizes_small.branch [
      | then-sizes_small w ↦ passes (sym one ∙ w.if-sizes_small.true) (w.value-is ∙ w.is_current_held.ensures)
      | else-sizes_small w ↦ fails _ (sym one ∙ w.if-sizes_small.false) (w.value-is ∙ w.if-sizes_small.false)
    ] in
    passes (sym two ∙ c.if-is_current_held.true) refl ∙ sym (tests m)

pub returns-else-is_current_held : goal.returns-else-is_current_held
returns-else-is_current_held c =
    let m = c.args.m.now in
    let good : c.pointers_good.result ≡ (pointers_nonzero m && pointers_distinct m) = rw c.entries-small.ensures at c.pointers_good.ensures in
    let one : c.if-pointers_good.value ≡ ((pointers_nonzero m && pointers_distinct m) && sizes_small m) =
    elim c.if-pointers_good.branch [
      | then-pointers_good w ↦ passes (sym good ∙ w.if-pointers_good.true) (w.value-is ∙ (rw c.entries-small.ensures at w.sizes_small.ensures))
      | else-pointers_good w ↦ fails _ (sym good ∙ w.if-pointers_good.false) (w.value-is ∙ w.if-pointers_good.false)
    ] in
    let two : c.if-sizes_small.value ≡ (((pointers_nonzero m && pointers_distinct m) && sizes_small m) && held m) =
    elim c.if-sizes_small.branch [
      | then-sizes_small w ↦ passes (sym one ∙ w.if-sizes_small.true) (w.value-is ∙ w.is_current_held.ensures)
      | else-sizes_small w ↦ fails _ (sym one ∙ w.if-sizes_small.false) (w.value-is ∙ w.if-sizes_small.false)
    ] in
    fails _ (sym two ∙ c.if-is_current_held.false) c.if-is_current_held.false ∙ sym (tests m)
