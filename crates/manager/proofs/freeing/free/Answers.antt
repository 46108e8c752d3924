-- `manager::freeing::free` meets its contract: what the layer refuses itself, or what is found among the small buffers.
use mathlib.Core.Path.{refl, sym, ◌∙◌}
use native.Mathlib.Omega.{arith}
use Rattle.std.proofs.lemmas.Result.{err_from_is_err_and}
use Rattle.cells.specs.Table.{chosen, Placed}
use Rattle.manager_rules.specs.Free.{free}
use Rattle.small_buffers.proofs.Rows.{few_entries}
use Rattle.manager.proofs.Refusals.{hands-refused}
use Rattle.manager.proofs.OwnEntry.{own-stops, own-count}
use Rattle.manager.proofs.freeing.free.Goals as goal

pub returns-in_err-own_refused : goal.returns-in_err-own_refused
unfolding free
returns-in_err-own_refused c =
    let m = c.args.m.now in
    let p = err_from_is_err_and c.from_residual.result c.from_residual.ensures.1 in
    rw (p.1, p.2) (hands-refused m _ (own-stops m _ _ (sym c.in_err-own_refused.ensures) _) refl)

pub find-requires : goal.find-requires
find-requires c = (omega arith, own-count c.args.m.now (sym c.in_ok-own_refused.ensures))

pub drop_small-requires : goal.drop_small-requires
unfolding Placed
drop_small-requires c =
    let few = few_entries c.args.m.now.small in
    (sym c.in_ok-own_refused.ensures, omega (arith, c.in-Some.ensures.placed, few))

pub returns-in-Some : goal.returns-in-Some
unfolding free chosen
returns-in-Some c = rw (← c.in-Some.ensures.is) c.drop_small.ensures

pub returns-in-None : goal.returns-in-None
unfolding free chosen
returns-in-None c = rw (← c.in-None.ensures.is) c.whole_free.ensures
