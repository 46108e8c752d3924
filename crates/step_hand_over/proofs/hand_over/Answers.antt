-- `step_hand_over::hand_over` meets its contract: its calls are the changes of the rule in order, and each table has room.
use mathlib.Core.Path.{ap, ◌∙◌}
use native.Mathlib.Omega.{arith}
use Rattle.tables.specs.Values.{free_of, live_of}
use Rattle.tables.proofs.Packs.{free_pack, free_cell, live_pack}
use Rattle.regions.specs.Cutting.{region_at}
use Rattle.step_hand_over.proofs.Sounds.{cuttable, buffer-room, rest-kept, buffers-kept}
use Rattle.step_hand_over.proofs.Ways.{handed}
use Rattle.step_hand_over.proofs.hand_over.Goals as goal

pub cut_region-requires : goal.cut_region-requires
cut_region-requires c = cuttable c.requires

pub put-requires : goal.put-requires
put-requires c = let h = c.requires in (omega arith, (h.live, buffer-room h))

pub returns : goal.returns
returns c =
    let a = c.args in
    let f = a.free.now in
    let cell = free_cell f a.at c.requires.placed in
    let fs = ap free_of c.cut_region.ensures ∙ free_pack _ in
    let bs = ap live_of c.put.ensures ∙ live_pack _ in
    record {
      ran = λ xs k t l. rw (fs, bs, ← cell) (handed a.bytes a.stream (region_at f a.at));
      free = rw c.cut_region.ensures (rest-kept c.requires);
      live = rw (c.put.ensures, ← cell) (buffers-kept c.requires a.stream);
    }
