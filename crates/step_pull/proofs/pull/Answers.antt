-- `step_pull::pull` meets its contract. The invariant: what pulling the regions that are left does from here, pulling all of them does, with the parts taken
-- before.
use mathlib.Core.Path.{◌≡◌, ap, ◌∙◌}
use mathlib.Core.List.{[]}
use mathlib.Core.Option.{some}
use Prim.Native.Nat.{ℕ, ◌<◌, ◌≤◌, min}
use native.Mathlib.Omega.{arith}
use lib.ListN.{get_or}
use Rattle.std.proofs.Common.{rules}
use Rattle.tables.specs.Values.{free_of, empty_region}
use Rattle.tables.specs.declared.FreeRegion.{FreeRegion}
use Rattle.driving.proofs.Ran.{gave}
use Rattle.regions.specs.Cutting.{region_at, Cuttable}
use Rattle.regions.specs.Pulling.{besides, next_to_pull}
use Rattle.regions.proofs.Pulling.{pull-none}
use Rattle.step_pull.proofs.Ways.{pull-enough}
use Rattle.cells.proofs.Choices.{chosen-some, chosen_none}
use Rattle.tables.proofs.Packs.{free_cell}
use Rattle.step_pull.proofs.Turns.{due-first, due-last, due-stop, due-again, part-some, zombie-fits, cuttable, place-below, room}
use Rattle.step_pull.proofs.pull.Goals as goal
use Rattle.step_pull.proofs.pull.Goals.{In-Some, After-part_of-part}

-- the region of a turn
module _ (c : In-Some) where
  abbrev it : FreeRegion
  it = get_or c.loop-left.free.cells c.in-Some.at empty_region

  placed : c.in-Some.at < c.loop-left.free.count
  placed = place-below c.loop-left.free c.next_to_pull.result _ c.loop-left.invariant.pullable.free c.next_to_pull.ensures.placed c.in-Some.is

  same : region_at c.loop-left.free c.in-Some.at ≡ it
  same = free_cell c.loop-left.free c.in-Some.at placed

  next : next_to_pull c.args.stream (besides c.args.made (free_of c.loop-left.free)) ≡ some it
  next =
      chosen-some empty_region (free_of c.loop-left.free) c.next_to_pull.result _ c.next_to_pull.ensures.is _ c.in-Some.is
      ∙ ap some same

  cut : (taken : ℕ) → taken ≤ it.size → Cuttable c.loop-left.free c.in-Some.at taken
  cut = cuttable c.loop-left.invariant c.loop-left-test.true it next c.in-Some.at placed same

-- what is taken of it
part-is : (c : After-part_of-part) → c.part_of-part.result.size ≡ min c.loop-left.left (get_or c.loop-left.free.cells c.in-Some.at empty_region).size
part-is c = ap (λ z. z.size) c.part_of-part.ensures

pub loop-left-init : goal.loop-left-init
loop-left-init c = due-first _ _ _ _ _ _ c.requires.pullable

pub returns-in_default : goal.returns-in_default
returns-in_default c =
    let d = c.loop-left.invariant in
    let none = chosen_none empty_region (free_of c.loop-left.free) c.next_to_pull.result _ c.next_to_pull.ensures.is c.in_default.is in
    let nothing : d.order ≡ [] = d.ordered c.loop-left-test.true ∙ pull-none c.args.stream _ none in
    due-last d (λ t. rw nothing gave)

pub offset_bounds-free-at : goal.offset_bounds-free-at
offset_bounds-free-at c = omega (arith, placed (goal.at.offset_bounds-free-at c).In-Some, c.loop-left.invariant.pullable.free.most)

pub bounds-free-at : goal.bounds-free-at
bounds-free-at c = omega (arith, placed (goal.at.bounds-free-at c).In-Some, c.loop-left.invariant.pullable.free.most)

pub settle-requires : goal.settle-requires
settle-requires c =
    let i = (goal.at.settle-requires c).In-Some in
    let d = c.loop-left.invariant in
    omega (arith, room d c.loop-left-test.true (it i) (next i), c.requires.room_for, d.lent.cells)

pub cut_region-requires : goal.cut_region-requires
cut_region-requires c = cut (goal.at.cut_region-requires c).In-Some _ (omega arith)

pub returns-in-Err : goal.returns-in-Err
returns-in-Err c =
    let i = (goal.at.returns-in-Err c).In-Some in
    rw (rw (same i) at c.cut_region.ensures)
    (due-stop c.loop-left.invariant c.loop-left-test.true (it i) (next i) _ c.in-Err.ensures)

pub cut_region-requires-in-loop-left : goal.cut_region-requires-in-loop-left
cut_region-requires-in-loop-left c =
    let g = goal.at.cut_region-requires-in-loop-left c in
    cut g.In-Some _ (omega (arith, part-is g.After-part_of-part))

pub push-requires : goal.push-requires
push-requires c =
    let i = (goal.at.push-requires c).In-Some in
    (search rules, zombie-fits c.loop-left.invariant c.loop-left-test.true (it i) (next i))

pub loop-left-smaller : goal.loop-left-smaller
loop-left-smaller c =
    let i = (goal.at.loop-left-smaller c).In-Some in
    let b = part-some c.loop-left.invariant c.loop-left-test.true (it i) (next i) in
    omega (arith, b.0, b.1, part-is (goal.at.loop-left-smaller c).After-part_of-part)

pub loop-left-preserved : goal.loop-left-preserved
loop-left-preserved c =
    let i = (goal.at.loop-left-preserved c).In-Some in
    due-again c.loop-left.invariant c.loop-left-test.true (it i) (next i) _ c.in_default-settle.ensures
    _ c.part_of-part.ensures _ (rw (same i) at c.cut_region-in-loop-left.ensures) _ c.push.ensures

pub returns : goal.returns
returns c =
    let d = c.loop-left.invariant in
    due-last d (λ t. pull-enough d.order _ c.loop-left.left (omega (arith, c.loop-left-test.false)))
