-- `pool_soundness::roots::is_inside` meets its contract: with each root the sum grows by at most `va`.
use mathlib.Core.Path.{◌≡◌, sym, ap, ◌∙◌}
use mathlib.Core.List.{◌∷◌}
use Prim.Native.Nat.{ℕ, ◌+◌, ◌≤◌}
use native.Mathlib.Omega.{arith}
use borrow.Author.Tests.{eq-eqb}
use lib.ListN.{length, drop, length-take}
use Rattle.lists.proofs.Every.{pairwise-pairs}
use Rattle.lists.proofs.Cells.{turn-all}
use Rattle.cells.specs.Table.{entries}
use Rattle.tables.specs.Bounds.{ROOTS}
use Rattle.tables.specs.Values.{roots_of, address}
use Rattle.tables.specs.WellFormed.{range, common}
use Rattle.keeping.proofs.Counting.{parted-once}
use Rattle.keeping.proofs.Inside.{inside-most}
use Rattle.keeping.proofs.WellFormedTests.{apart_of}
use Rattle.pool_soundness.specs.Tests.{bytes_inside}
use Rattle.pool_soundness.specs.Walks.{range_of}
use Rattle.pool_soundness.proofs.roots.is_inside.Goals as goal

common-most : (from size a va : ℕ) → common (range from size) (range a va) ≤ va
common-most from size a va = omega arith

whole_sum : (all sum next rest size : ℕ) → all ≡ sum + (next + rest) → sum + next ≡ size → all ≤ size → all ≡ size
whole_sum all sum next rest size e f g = omega arith

pub overflow_add-sum : goal.overflow_add-sum
unfolding entries
overflow_add-sum c =
    let t = c.args.roots.now in
    let l = c.entries-a-items.result.now in
    let n : length l ≤ ROOTS = rw c.entries-a-items.ensures (omega (arith, length-take t.count t.cells, c.requires.few)) in
    let took : c.common_bytes-sum.result ≤ c.args.va = rw c.common_bytes-sum.ensures (common-most _ _ _ _) in
    omega (arith, took, n, c.loop-a.invariant.0.0)

pub returns-then-sum-x : goal.returns-then-sum-x
returns-then-sum-x c =
    let a = c.args in
    let h = range_of a.x in
    let l = c.entries-a-items.result.now in
    let all = roots_of a.roots.now in
    let next : drop c.loop-a.a-index l ≡ _ ∷ drop (c.loop-a.a-index + 1) l = turn-all l c.loop-a.a-index (address 0) (omega arith) in
    let here : bytes_inside a.va l h ≡ c.loop-a.sum + (c.common_bytes-sum.result + bytes_inside a.va (drop (c.loop-a.a-index + 1) l) h) =
    c.loop-a.invariant.1.0 ∙ rw (next, c.common_bytes-sum.ensures) in
    let same : bytes_inside a.va l h ≡ bytes_inside a.va all h = ap (λ l. bytes_inside a.va l h) c.entries-a-items.ensures in
    let most : bytes_inside a.va all h ≤ a.x.size =
    inside-most (λ r. r.0) (λ r. a.va) all (parted-once (λ r. r.0) (λ r. a.va) all (pairwise-pairs _ _ (apart_of a.va) all c.requires.roots_apart)) a.x.from a.x.size in
    sym (eq-eqb (bytes_inside a.va all h) a.x.size
    (whole_sum _ c.loop-a.sum c.common_bytes-sum.result _ a.x.size (sym same ∙ here) c.if-sum-x.true most))
