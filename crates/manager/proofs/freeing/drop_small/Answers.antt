-- `manager::freeing::drop_small` meets its contract: what the pool refuses, or the driver's answer with its record.
use mathlib.Core.Path.{refl, sym}
use native.Mathlib.Omega.{arith}
use lib.ListN.{get_or}
use Rattle.std.proofs.lemmas.Result.{err_from_is_err_and}
use Rattle.manager_rules.specs.Values.{empty_small}
use Rattle.manager.proofs.Refusals.{hands-refused}
use Rattle.manager.proofs.Entering.{admitted-stops}
use Rattle.manager.proofs.Frees.{own-few, small-held, small_at, drops-one}
use Rattle.manager.proofs.freeing.drop_small.Goals as goal

pub returns-in_err-pool_refused : goal.returns-in_err-pool_refused
returns-in_err-pool_refused c =
    let m = c.args.m.now in
    let p = err_from_is_err_and c.from_residual.result c.from_residual.ensures.1 in
    rw (p.1, p.2) (hands-refused m _ (admitted-stops m _ c.requires.0 _ (sym c.in_err-pool_refused.ensures) _) refl)

pub offset_bounds-m-at : goal.offset_bounds-m-at
offset_bounds-m-at c = omega (arith, own-few c.args.m.now c.requires.0, c.requires.1)

pub bounds-m-at : goal.bounds-m-at
bounds-m-at c = omega (arith, own-few c.args.m.now c.requires.0, c.requires.1)

pub drop_answered-outcome-requires : goal.drop_answered-outcome-requires
drop_answered-outcome-requires c =
    let m = c.args.m.now in
    (own-few m c.requires.0, rw (small_at m c.requires.0 c.args.at c.requires.1) at (small-held m c.requires.0 c.args.at c.requires.1))

pub returns : goal.returns
returns c =
    let a = c.args in
    let m = a.m.now in
    rw (small_at m c.requires.0 a.at c.requires.1, c.with_records.ensures)
    (drops-one m c.requires.0 a.address.0 a.answers.now a.log.now (sym c.in_ok-pool_refused.ensures) (get_or m.small.cells a.at empty_small) c.at-answer.result c.at-answer.ensures
    c.drop_answered-outcome.result _ c.drop_answered-outcome.ensures
    (rw (c.drop_record-record.ensures, c.code.ensures) at c.write.ensures))
