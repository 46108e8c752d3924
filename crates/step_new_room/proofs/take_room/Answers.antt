-- `step_new_room::take_room` meets its contract: its two calls are the steps of the rule in order.
use native.Mathlib.Omega.{arith}
use Rattle.std.proofs.lemmas.Result.{err_from_is_err_and}
use Rattle.step_new_room.proofs.Taking.{takeable, root-fits, range-stopped, ready, pages-stopped, pages-took}
use Rattle.step_new_room.proofs.take_room.Goals as goal

pub take_range-requires : goal.take_range-requires
take_range-requires c =
    record { takeable = takeable c.requires.0; root_left = (root-fits c.requires.0, omega (arith, c.requires.1)) }

pub returns-in_err-start : goal.returns-in_err-start
returns-in_err-start c =
    let p = err_from_is_err_and c.from_residual.result c.from_residual.ensures.1 in
    rw (p.1, p.2) (range-stopped _ c.args.stream _ _ _ _ _ _ c.requires.0 c.in_err-start.ensures)

pub make_pages-requires : goal.make_pages-requires
make_pages-requires c =
    ready _ c.args.stream _ _ _ _ _ _ c.requires.0 c.in_ok-start.ensures c.requires.1

pub returns-in_err-make_pages : goal.returns-in_err-make_pages
returns-in_err-make_pages c =
    let p = err_from_is_err_and c.from_residual-in_err-make_pages.result c.from_residual-in_err-make_pages.ensures.1 in
    rw (p.1, p.2) (pages-stopped _ c.args.stream _ _ _ _ _ _ c.requires.0 c.in_ok-start.ensures _ _ _ c.in_err-make_pages.ensures)

pub returns : goal.returns
returns c =
    pages-took _ c.args.stream _ _ _ _ _ _ c.requires.0 c.in_ok-start.ensures _ _ _ c.in_ok-make_pages.ensures
