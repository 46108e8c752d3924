-- `manager::serving::malloc` meets its contract: what the layer refuses itself, or what the size asks for.
use mathlib.Core.Path.{◌≡◌, refl, ap, sym, ◌∙◌, subst}
use Prim.Native.Nat.{◌/◌}
use lib.ListN.{length}
use Rattle.std.proofs.lemmas.Result.{err_from_is_err_and}
use Rattle.manager_rules.specs.Sizes.{request}
use Rattle.manager_rules.specs.Malloc.{malloc}
use Rattle.manager_parts.specs.Promises.{request_of}
use Rattle.manager.proofs.Refusals.{hands-refused}
use Rattle.manager.proofs.OwnEntry.{own-stops}
use Rattle.manager.proofs.Entering.{admitted-stops, admitted-goes}
use Rattle.manager.proofs.Served.{serves-unfit}
use Rattle.manager.proofs.serving.malloc.Goals as goal

pub returns-in_err-own_refused : goal.returns-in_err-own_refused
unfolding malloc
returns-in_err-own_refused c =
    let m = c.args.m.now in
    let p = err_from_is_err_and c.from_residual.result c.from_residual.ensures.1 in
    rw (p.1, p.2) (hands-refused m _ (own-stops m _ _ (sym c.in_err-own_refused.ensures) _) refl)

pub returns-in_err-pool_refused-in-Unfit : goal.returns-in_err-pool_refused-in-Unfit
unfolding malloc
returns-in_err-pool_refused-in-Unfit c =
    let m = c.args.m.now in
    let r = c.from_residual-in_err-pool_refused-in-Unfit in
    let p = err_from_is_err_and r.result r.ensures.1 in
    rw (p.1, p.2) (hands-refused m _ (admitted-stops m _ (sym c.in_ok-own_refused.ensures) _ (sym c.in_err-pool_refused-in-Unfit.ensures) _) refl)

pub returns-in_ok-pool_refused-in-Unfit : goal.returns-in_ok-pool_refused-in-Unfit
unfolding malloc
returns-in_ok-pool_refused-in-Unfit c =
    let a = c.args in
    rw (← c.in-Unfit.ensures)
    (serves-unfit a.m.now a.bytes a.stream _ _ (admitted-goes a.m.now _ (sym c.in_ok-own_refused.ensures) (sym c.in_ok-pool_refused-in-Unfit.ensures)) refl)

pub whole_malloc-requires : goal.whole_malloc-requires
whole_malloc-requires c = (sym c.in_ok-own_refused.ensures, sym c.in-Whole.ensures)

pub small_malloc-requires : goal.small_malloc-requires
small_malloc-requires c = (sym c.in_ok-own_refused.ensures, sym c.in-Smaller.ensures)

pub returns-in-Whole : goal.returns-in-Whole
unfolding malloc
returns-in-Whole c = rw (← c.in-Whole.ensures) c.whole_malloc.ensures

pub returns-in-Smaller : goal.returns-in-Smaller
unfolding malloc
returns-in-Smaller c = rw (← c.in-Smaller.ensures) c.small_malloc.ensures
