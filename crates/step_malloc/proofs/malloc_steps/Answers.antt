-- `step_malloc::malloc_steps` meets its contract: its calls are the steps of the rule in order, and each leaves what the next leans on.
use native.Mathlib.Omega.{arith}
use Rattle.std.proofs.lemmas.Result.{err_from_is_err_and}
use Rattle.step_malloc.proofs.Ways.{cleanable, cleanup-stops, fittable, fit-made, fit-stops, still-mallocable, roomed_out, fit-handable, fit-handed}
use Rattle.step_malloc.proofs.malloc_steps.Goals as goal

pub cleanup-requires : goal.cleanup-requires
cleanup-requires c = (cleanable c.requires.0, omega (arith, c.requires.0.tables.zombies.most, c.requires.1))

pub returns-in_err-cleanup : goal.returns-in_err-cleanup
returns-in_err-cleanup c =
    let p = err_from_is_err_and c.from_residual.result c.from_residual.ensures.1 in
    rw (p.1, p.2) (cleanup-stops c.requires.0 c.args.stream c.in_err-cleanup.ensures)

pub fit-requires : goal.fit-requires
fit-requires c =
    let w = c.in_ok-cleanup.ensures in
    let t = c.requires.0.tables in
    (fittable c.requires.0 c.args.stream w, omega (arith, c.requires.1, w.most, w.lent.cells, t.zombies.most, t.free.most))

pub returns-in_err-at : goal.returns-in_err-at
returns-in_err-at c =
    let p = err_from_is_err_and c.from_residual-in_err-at.result c.from_residual-in_err-at.ensures.1 in
    rw (p.1, p.2) (fit-stops c.requires.0 c.args.stream c.in_ok-cleanup.ensures c.in_err-at.ensures)

pub malloc_room-requires : goal.malloc_room-requires
malloc_room-requires c =
    let w = c.in_ok-cleanup.ensures in
    let v = rw c.in_default.is at c.in_ok-at.ensures in (
      still-mallocable c.requires.0 c.args.stream w v,
      omega (arith, c.requires.1, fit-made c.requires.0 c.args.stream w v, w.lent.cells, v.lent.cells),
    )

pub returns-in_default : goal.returns-in_default
returns-in_default c = roomed_out c.requires.0 c.args.stream c.in_ok-cleanup.ensures (rw c.in_default.is at c.in_ok-at.ensures) _ c.malloc_room.ensures

pub hand_over-start-requires : goal.hand_over-start-requires
hand_over-start-requires c = fit-handable c.requires.0 c.args.stream c.in_ok-cleanup.ensures (rw c.in-Some.is at c.in_ok-at.ensures)

pub returns : goal.returns
returns c = fit-handed c.requires.0 c.args.stream c.in_ok-cleanup.ensures (rw c.in-Some.is at c.in_ok-at.ensures) c.hand_over-start.ensures
