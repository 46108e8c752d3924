-- `step_take_range::take_range` meets its contract: the hole chosen by place is the rule's, and where there is none the root is the rule's.
use mathlib.Core.Path.{◌≡◌, ap, ◌∙◌}
use mathlib.Core.Option.{some, none}
use Prim.Native.Nat.{◌<◌}
use native.Mathlib.Omega.{arith}
use lib.ListN.{get_or}
use Rattle.tables.specs.Values.{holes_of, empty_hole}
use Rattle.tables.specs.Malloc.{no_hole}
use Rattle.tables.specs.TakeRange.{smallest_hole}
use Rattle.tables.proofs.Packs.{holes-count, holes_pack, holes_cell}
use Rattle.keeping.proofs.Holes.{member-smallest_hole}
use Rattle.cells.proofs.Choices.{chosen-some, chosen_none, placed_at}
use Rattle.driving.proofs.Lent.{lent-same}
use Rattle.step_take_range.proofs.Ways.{took-root, took-hole}
use Rattle.step_take_range.proofs.Sounds.{kept_cut}
use Rattle.step_take_range.proofs.take_range.Goals as goal
use Rattle.step_take_range.proofs.take_range.Goals.{In_default, In-Some}

-- no hole is large enough
none-found : (c : In_default) → smallest_hole c.args.requested (holes_of c.args.holes.now) ≡ none
none-found c = let q = c.smallest_hole in chosen_none empty_hole _ q.result _ q.ensures.is c.in_default.is

pub reserve_root-requires : goal.reserve_root-requires
reserve_root-requires c =
    let none-large = none-found (goal.at.reserve_root-requires c).In_default in
    record { takeable = c.requires.takeable; count_bound = (c.requires.root_left.0 (ap no_hole none-large), c.requires.root_left.1) }

pub returns-in_default : goal.returns-in_default
returns-in_default c =
    let none-large = none-found (goal.at.returns-in_default c).In_default in
    let m = c.reserve_root.ensures in
    record { lent = m.lent; ran = λ t p v. took-root c.args.requested none-large (m.ran t p v); holes = m.holes; roots = m.roots; most = m.most }

-- the hole found
module _ (c : In-Some) where
  placed : c.in-Some.at < c.args.holes.now.count
  placed =
      let q = c.smallest_hole in
      omega (arith, placed_at (holes_of c.args.holes.now) q.result _ q.ensures.placed c.in-Some.is, holes-count c.args.holes.now c.requires.takeable.holes)

  smallest : smallest_hole c.args.requested (holes_of c.args.holes.now) ≡ some (get_or (holes_of c.args.holes.now) c.in-Some.at empty_hole)
  smallest = let q = c.smallest_hole in chosen-some empty_hole _ q.result _ q.ensures.is _ c.in-Some.is

pub offset_bounds-holes-at : goal.offset_bounds-holes-at
offset_bounds-holes-at c = record { fits = omega (arith, placed (goal.at.offset_bounds-holes-at c).In-Some, c.requires.takeable.holes.most) }

pub bounds-holes-at : goal.bounds-holes-at
bounds-holes-at c = omega (arith, placed (goal.at.bounds-holes-at c).In-Some, c.requires.takeable.holes.most)

pub cut_hole-requires : goal.cut_hole-requires
cut_hole-requires c =
    let at = (goal.at.cut_hole-requires c).In-Some in
    let k = c.requires.takeable in
    record {
      kept_holes = (k.holes, placed at);
      requested_bound = ((member-smallest_hole _ (get_or (holes_of c.args.holes.now) c.in-Some.at empty_hole) _ (smallest at)).1, k.kept.sound.holes_apart);
    }

pub returns : goal.returns
returns c =
    let at = (goal.at.returns c).In-Some in
    let hs = ap holes_of c.cut_hole.ensures ∙ holes_pack _ in
    record {
      lent = lent-same c.args.driver.now;
      ran = λ t p v. rw (← holes_cell c.args.holes.now c.in-Some.at (placed at), hs)
          (took-hole c.args.requested (get_or (holes_of c.args.holes.now) c.in-Some.at empty_hole) (smallest at));
      holes = rw c.cut_hole.ensures (kept_cut c.requires.takeable _);
      roots = c.requires.takeable.roots;
      most = omega arith;
    }
