-- `pool_soundness::names::numbers_differ` meets its contract.
use mathlib.Core.Path.{◌≡◌, refl, ap, sym, ◌∙◌}
use mathlib.Core.List.{[], ◌∷◌, ◌++◌, map, map-append}
use Prim.Native.Nat.{◌+◌, ◌<◌}
use native.Mathlib.Omega.{arith}
use native.Mathlib.Numerals.{add-one}
use lib.ListN.{length, take, length-take, length-set, length-replicate}
use lib.Seq.{take-suc, take-suc-set, take_all}
use Rattle.std.proofs.lemmas.Fn.{says_at}
use Rattle.lists.specs.Tests.{distinct}
use Rattle.cells.specs.Table.{entries}
use Rattle.pool_soundness.proofs.names.numbers_differ.Goals as goal

-- the entries are no more than the cells
module _ (g : _) (c : goal.After-number g) where
  few : c.loop-i.i < g.row.N
  unfolding entries
  few =
      let t = c.args.table.now in
      omega (arith, c.loop-i-test.true, ap length c.entries-entries.ensures, length-take t.count t.cells, c.requires.count_bound.0)

pub offset_bounds-numbers-i : goal.offset_bounds-numbers-i
offset_bounds-numbers-i g c = omega (arith, few g c, c.requires.count_bound.1)

pub bounds-numbers-i : goal.bounds-numbers-i
bounds-numbers-i g c = few g c

pub loop-i-preserved : goal.loop-i-preserved
loop-i-preserved g c =
    let i = c.loop-i.i in
    let items = c.entries-entries.result.now in
    let x = c.index-entries-i.result in
    let n = c.number.result in
    let room : i < length c.loop-i.numbers = omega (arith, few g c, c.loop-i.invariant.0) in (
      length-set c.loop-i.numbers i n ∙ c.loop-i.invariant.0,
      λ key says.
          let next : take (i + 1) items ≡ take i items ++ x ∷ [] = rw (add-one, take-suc items i x c.loop-i-test.true, ← c.index-entries-i.is) refl in
          let is : n ≡ key x = says x n (says_at g.F.Fn c.number.ensures refl) in
          rw (add-one, take-suc-set c.loop-i.numbers i n room)
          (ap (λ l. l ++ n ∷ []) (c.loop-i.invariant.1 key says) ∙ ap (λ m. map key (take i items) ++ m ∷ []) is ∙ sym (ap (map key) (rw add-one at next) ∙ map-append key (take i items) (x ∷ []))),
    )

pub loop-i-init : goal.loop-i-init
loop-i-init g c = (simp length-replicate, λ key says. refl)

pub shared_whole_as_front-is_distinct : goal.shared_whole_as_front-is_distinct
unfolding entries
shared_whole_as_front-is_distinct g c =
    let t = c.args.table.now in
    omega (arith, ap length c.entries-entries.ensures, length-take t.count t.cells, c.requires.count_bound.0, c.requires.count_bound.1, c.loop-i.invariant.0)

pub returns : goal.returns
returns g c =
    let items = c.entries-entries.result.now in
    let i : c.loop-i.i ≡ length items = omega (arith, c.loop-i.auto.i-end, c.loop-i-test.false) in
    λ key says.
    let all : take (length items) c.loop-i.numbers ≡ map key (take (length items) items) = rw i at (c.loop-i.invariant.1 key says) in
    c.is_distinct.ensures ∙ ap distinct all ∙ ap (λ l. distinct (map key l)) (take_all (length items) items (omega arith) ∙ c.entries-entries.ensures)
