-- `manager::serving::small_malloc` meets its contract: what the pool refuses, 20, or the driver's answer with its record.
use mathlib.Core.Path.{◌≡◌, refl, sym, ◌∙◌}
use Prim.Native.Nat.{◌/◌}
use lib.ListN.{length}
use Rattle.std.proofs.lemmas.Result.{err_from_is_err_and}
use Rattle.manager.proofs.Refusals.{hands-refused}
use Rattle.manager.proofs.Entering.{admitted-stops, admitted-goes}
use Rattle.manager.proofs.Bounds.{small-fits}
use Rattle.manager.proofs.Served.{serves-full, serves-small}
use Rattle.manager.proofs.serving.small_malloc.Goals as goal

pub returns-in_err-pool_refused : goal.returns-in_err-pool_refused
returns-in_err-pool_refused c =
    let m = c.args.m.now in
    let p = err_from_is_err_and c.from_residual.result c.from_residual.ensures.1 in
    rw (p.1, p.2) (hands-refused m _ (admitted-stops m _ c.requires.0 _ (sym c.in_err-pool_refused.ensures) _) refl)

pub returns-then-m-ge-SMALLS : goal.returns-then-m-ge-SMALLS
returns-then-m-ge-SMALLS c =
    let a = c.args in
    serves-full a.m.now a.bytes a.stream _ _ (admitted-goes a.m.now _ c.requires.0 (sym c.in_ok-pool_refused.ensures)) c.if-m-ge-SMALLS.true refl

pub small_answered-outcome-requires : goal.small_answered-outcome-requires
small_answered-outcome-requires c =
    let a = c.args in
    small-fits a.m.now _ (admitted-goes a.m.now (length a.log.now / 4) c.requires.0 (sym c.in_ok-pool_refused.ensures)) a.bytes c.requires.1 c.if-m-ge-SMALLS.false

pub returns : goal.returns
returns c =
    let a = c.args in
    rw c.with_records.ensures
    (serves-small a.m.now a.bytes a.stream a.answers.now a.log.now (admitted-goes a.m.now _ c.requires.0 (sym c.in_ok-pool_refused.ensures)) c.if-m-ge-SMALLS.false c.at-answer.result c.at-answer.ensures
    c.small_answered-outcome.result _ c.small_answered-outcome.ensures
    (rw (c.small_record-record.ensures, c.value.ensures, c.code.ensures) at c.write.ensures))
