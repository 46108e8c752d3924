-- `manager::closing::close` meets its contract: refused where the pool's close is, and otherwise the records of the small buffers and then the pool's.
use mathlib.Core.Path.{refl, sym, ap}
use native.Mathlib.Omega.{arith}
use lib.ListN.{length}
use Rattle.std.proofs.lemmas.Result.{err_from_is_err_and}
use Rattle.small_buffers.proofs.Rows.{few_entries}
use Rattle.manager.proofs.Refusals.{hands-refused}
use Rattle.manager.proofs.OwnEntry.{close-stops}
use Rattle.manager.proofs.Closes.{close_smalls, few-records, few-taken, has_room, closes-refused, closes-short, closes-served}
use Rattle.manager.proofs.closing.close.Goals as goal

pub returns-in_err-close_refused : goal.returns-in_err-close_refused
returns-in_err-close_refused c =
    let a = c.args in
    let p = err_from_is_err_and c.from_residual.result c.from_residual.ensures.1 in
    rw (p.1, p.2) (hands-refused a.m.now _ (close-stops a.m.now a.answers.now _ _ (sym c.in_err-close_refused.ensures)) refl)

pub close_pool-called-requires : goal.close_pool-called-requires
close_pool-called-requires c = close_smalls c.args.m.now (sym c.in_ok-close_refused.ensures)

pub returns-then-called-eq0 : goal.returns-then-called-eq0
returns-then-called-eq0 c =
    let a = c.args in
    closes-refused a.m.now (sym c.in_ok-close_refused.ensures) a.answers.now a.log.now c.close_pool-called.result _ c.close_pool-called.ensures c.if-called-eq0.true

pub entries-small-requires : goal.entries-small-requires
entries-small-requires c = (omega arith, close_smalls c.args.m.now (sym c.in_ok-close_refused.ensures))

pub write_drops-dropped-requires : goal.write_drops-dropped-requires
write_drops-dropped-requires c =
    let a = c.args in
    let h = sym c.in_ok-close_refused.ensures in
    let room = has_room a.m.now h a.answers.now a.log.now c.close_pool-called.result _ c.close_pool-called.ensures c.if-called-eq0.false in
    omega (arith, room, c.close_pool-called.auto.log, close_smalls a.m.now h, few_entries a.m.now.small, ap length c.entries-small.ensures)

pub returns-then-pairs-small : goal.returns-then-pairs-small
returns-then-pairs-small c =
    let a = c.args in
    let drops = c.write_drops-dropped in
    closes-short a.m.now (sym c.in_ok-close_refused.ensures) a.answers.now a.log.now c.close_pool-called.result _ c.close_pool-called.ensures c.if-called-eq0.false
    (rw c.entries-small.ensures at c.if-pairs-small.true) _ (rw c.entries-small.ensures at drops.ensures.wrote) drops.result
    (rw c.entries-small.ensures at drops.ensures.counted)

pub put_before-requires : goal.put_before-requires
put_before-requires c =
    let a = c.args in
    let h = sym c.in_ok-close_refused.ensures in
    let k = c.close_pool-called in
    let room = has_room a.m.now h a.answers.now a.log.now k.result _ k.ensures c.if-called-eq0.false in
    let few = few-records a.m.now h a.answers.now a.log.now k.result _ k.ensures in
    record {
      fits = omega (arith, room, few, k.auto.log, close_smalls a.m.now h, few_entries a.m.now.small, ap length c.entries-small.ensures);
      answered = omega (arith, c.if-pairs-small.false);
    }

pub overflow_add-said : goal.overflow_add-said
overflow_add-said c =
    let a = c.args in
    let h = sym c.in_ok-close_refused.ensures in
    let k = c.close_pool-called in
    let few = few-records a.m.now h a.answers.now a.log.now k.result _ k.ensures in
    omega (arith, few, close_smalls a.m.now h, few_entries a.m.now.small, ap length c.entries-small.ensures)

pub overflow_add-said-2 : goal.overflow_add-said-2
overflow_add-said-2 c =
    let a = c.args in
    let h = sym c.in_ok-close_refused.ensures in
    let k = c.close_pool-called in
    let few = few-records a.m.now h a.answers.now a.log.now k.result _ k.ensures in
    let less = few-taken a.m.now h a.answers.now a.log.now k.result _ k.ensures in
    omega (arith, few, less, close_smalls a.m.now h, few_entries a.m.now.small, ap length c.entries-small.ensures)

pub returns : goal.returns
returns c =
    let a = c.args in
    let k = c.close_pool-called in
    rw c.entries-small.ensures
    (closes-served a.m.now (sym c.in_ok-close_refused.ensures) a.answers.now a.log.now k.result _ k.ensures c.if-called-eq0.false
    (rw c.entries-small.ensures at c.if-pairs-small.false) _ (rw c.entries-small.ensures at c.put_before.ensures) _ c.closed_with.ensures)
