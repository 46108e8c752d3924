-- `step_malloc::hand_out` meets its contract: the region's place is found, and what hands over keeps the other tables.
use mathlib.Core.Path.{◌≡◌}
use Prim.Native.Nat.{◌<◌}
use Rattle.tables.specs.Values.{tables_of}
use Rattle.regions.specs.Cutting.{region_at}
use Rattle.step_malloc.proofs.Handing.{stands_at, can-hand, handed_out}
use Rattle.step_malloc.proofs.hand_out.Goals as goal
use Rattle.step_malloc.proofs.hand_out.Goals.{After-place-at}

stands : (c : After-place-at) → (c.place-at.result < c.args.pool.now.free.count) × (region_at c.args.pool.now.free c.place-at.result ≡ c.args.region)
unfolding tables_of
stands c =
    stands_at c.args.pool.now.free c.args.region _ c.requires.tables.free c.requires.due.sound.free_rises c.requires.due.member c.place-at.ensures

pub hand_over-start-requires : goal.hand_over-start-requires
hand_over-start-requires c =
    let s = stands (goal.at.hand_over-start-requires c).After-place-at in
    can-hand c.args.bytes _ c.args.pool.now s.0 (rw s.1 c.requires)

pub returns : goal.returns
returns c =
    let s = stands (goal.at.returns c).After-place-at in
    rw s.1 at (handed_out c.args.bytes c.args.stream _ c.args.pool.now c.requires.tables c.hand_over-start.ensures)
