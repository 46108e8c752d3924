-- `calls::Pool::malloc` meets its contract: refused at entry or for its size, or what its steps leave.
use mathlib.Core.Path.{◌≡◌, refl, ap, sym, ◌∙◌}
use Prim.Native.Nat.{◌/◌}
use native.Mathlib.Omega.{arith}
use lib.ListN.{length}
use Rattle.std.proofs.Common.{rules}
use Rattle.tables.specs.Malloc.{malloc_by}
use Rattle.pool_entry.specs.Promises.{Admitted}
use Rattle.calls.proofs.Reading.{read_opened, read-tables}
use Rattle.calls.proofs.Left.{Begins, replies-none, replies-as, replies-left, long}
use Rattle.calls.proofs.Mallocking.{page-some, spans-few, mallocable, malloc-refused, malloc-goes}
use Rattle.calls.proofs.Pool.malloc.Goals as goal
use Rattle.calls.proofs.Pool.malloc.Goals.{In_default, After-new-driver}

admitted : (c : In_default) → Admitted c.args.self.value (length c.args.log.now / 4)
admitted c = c.in_default.ensures.goes refl

begins : (c : After-new-driver) → Begins c.new-driver.result c.args.answers.now c.args.log.now
begins c = record { answers = ap (λ a. a.now) c.new-driver.ensures.lent.0; log = c.new-driver.ensures.start.0; made = c.new-driver.ensures.start.1 }

pub returns-in-Err : goal.returns-in-Err
unfolding malloc_by
returns-in-Err c = replies-none _ c.args.self _ (c.in-Err.ensures.stops _ refl _) c.refuse.ensures

pub overflow_add-spans : goal.overflow_add-spans
overflow_add-spans c = omega (arith, spans-few _ _ (admitted (goal.at.overflow_add-spans c).In_default))

pub size_refused-requires : goal.size_refused-requires
size_refused-requires c = page-some _ _ (admitted (goal.at.size_refused-requires c).In_default)

pub returns-in-Err-size_refused : goal.returns-in-Err-size_refused
returns-in-Err-size_refused c =
    let a = admitted (goal.at.returns-in-Err-size_refused c).In_default in
    replies-none _ c.args.self _ (malloc-refused _ _ a _ _ _ _ (sym c.size_refused.ensures ∙ c.in-Err-size_refused.is)) c.refuse-in-Err-size_refused.ensures

pub malloc_steps-ended-requires : goal.malloc_steps-ended-requires
malloc_steps-ended-requires c =
    let g = goal.at.malloc_steps-ended-requires c in
    let a = admitted g.In_default in (
      mallocable _ _ a _ (sym c.size_refused.ensures ∙ c.in_default-size_refused.is) _ (read_opened _ _ a.state (c.in_default.ensures.read refl)),
      omega (arith, long _ (begins g.After-new-driver) a.log),
    )

pub returns : goal.returns
returns c =
    let g = goal.at.returns c in
    let a = admitted g.In_default in
    replies-as (search rules)
    (replies-left c.args.self _ (read-tables _ _ _ (c.in_default.ensures.read refl)) (begins g.After-new-driver) c.malloc_steps-ended.ensures
    (malloc-goes _ _ a _ _ _ (sym c.size_refused.ensures ∙ c.in_default-size_refused.is)) c.leave.ensures)
