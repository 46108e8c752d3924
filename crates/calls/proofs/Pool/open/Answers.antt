-- `calls::Pool::open` meets its contract: refused, or what its steps leave.
use mathlib.Core.Path.{◌≡◌, refl, ap, sym, ◌∙◌}
use Prim.Native.Nat.{◌/◌}
use native.Mathlib.Omega.{arith}
use lib.ListN.{length}
use Rattle.std.specs.Prelude.{Ok}
use Rattle.std.proofs.Common.{rules}
use Rattle.tables.specs.Values.{opened, no_tables}
use Rattle.tables.proofs.Packs.{tables-pool}
use Rattle.calls.specs.Refusing.{open_refused}
use Rattle.calls.proofs.Left.{Begins, replies-none, replies-as, long}
use Rattle.calls.proofs.Opening.{open-refused, open-goes, open-room, open-configured, replies-opened}
use Rattle.calls.proofs.Pool.open.Goals as goal
use Rattle.calls.proofs.Pool.open.Goals.{In_default, After-new-driver}

passes : (c : In_default) →
    open_refused c.args.granularity c.args.override_size c.args.va_size c.args.initial_pages (length c.args.log.now / 4) ≡ Ok tt
passes c = sym c.open_refused.ensures ∙ c.in_default.is

begins : (c : After-new-driver) → Begins c.new-driver.result c.args.answers.now c.args.log.now
begins c = record { answers = ap (λ a. a.now) c.new-driver.ensures.lent.0; log = c.new-driver.ensures.start.0; made = c.new-driver.ensures.start.1 }

pub returns-in-Err : goal.returns-in-Err
returns-in-Err c =
    let a = c.args in
    replies-none _ (record { value = c.closed-value.result }) _
    (open-refused a.granularity a.override_size a.va_size a.initial_pages a.initial_stream _ _ _ (sym c.open_refused.ensures ∙ c.in-Err.is)
    c.closed-value.result c.closed-value.ensures)
    c.refuse.ensures

pub open_steps-ended-requires : goal.open_steps-ended-requires
open_steps-ended-requires c =
    let g = goal.at.open_steps-ended-requires c in
    let a = c.args in
    let e = passes g.In_default in
    let u = c.page_size-page.ensures in
    let room = length a.log.now / 4 in (
      open-configured a.granularity a.override_size a.va_size a.initial_pages a.initial_stream a.answers.now room e _ u,
      omega (
        arith,
        long _ (begins g.After-new-driver)
            (open-room a.granularity a.override_size a.va_size a.initial_pages a.initial_stream a.answers.now room e _ u),
      ),
    )

pub returns : goal.returns
returns c =
    let g = goal.at.returns c in
    let a = c.args in
    let t = no_tables c.page_size-page.result a.va_size in
    replies-as (search rules)
    (replies-opened t (tables-pool opened t) (begins g.After-new-driver) c.open_steps-ended.ensures
    (open-goes a.granularity a.override_size a.va_size a.initial_pages a.initial_stream _ _ (passes g.In_default) _ c.page_size-page.ensures)
    c.leave_opened.ensures)
