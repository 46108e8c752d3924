-- `calls::Pool::free` meets its contract: refused at entry or by the search, or what its steps leave.
use mathlib.Core.Path.{◌≡◌, refl, ap, sym, ◌∙◌}
use Prim.Native.Nat.{◌/◌}
use native.Mathlib.Omega.{arith}
use lib.ListN.{length}
use Rattle.std.proofs.Common.{rules}
use Rattle.tables.specs.Values.{opened, at_entry, pool_of}
use Rattle.tables.specs.Free.{free}
use Rattle.pool_entry.specs.Promises.{Admitted}
use Rattle.calls.proofs.Reading.{read_opened, read_kept, read-tables}
use Rattle.calls.proofs.Left.{Begins, replies-none, replies-as, replies-left, long}
use Rattle.calls.proofs.Freeing.{freeable, steps-ran, free-none, free-some}
use Rattle.calls.proofs.Pool.free.Goals as goal
use Rattle.calls.proofs.Pool.free.Goals.{In_default, After-new-driver}

module _ (c : In_default) where
  admitted : Admitted c.args.self.value (length c.args.log.now / 4)
  admitted = c.in_default.ensures.goes refl

  read : c.enter.new.pool ≡ pool_of opened (at_entry c.args.self.value)
  read = read_opened _ _ admitted.state (c.in_default.ensures.read refl)

begins : (c : After-new-driver) → Begins c.new-driver.result c.args.answers.now c.args.log.now
begins c = record { answers = ap (λ a. a.now) c.new-driver.ensures.lent.0; log = c.new-driver.ensures.start.0; made = c.new-driver.ensures.start.1 }

pub returns-in-Err : goal.returns-in-Err
unfolding free
returns-in-Err c = replies-none _ c.args.self _ (c.in-Err.ensures.stops _ refl _) c.refuse.ensures

pub find-requires : goal.find-requires
find-requires c =
    let e = (goal.at.find-requires c).In_default in
    (search rules, (read_kept _ _ _ (read e) (admitted e).form).live.most)

pub returns-in_default-find : goal.returns-in_default-find
returns-in_default-find c =
    let e = (goal.at.returns-in_default-find c).In_default in
    replies-none _ c.args.self _ (free-none _ _ (admitted e) _ (read e) _ _ _ c.find.ensures.is c.in_default-find.is) c.refuse-in_default-find.ensures

pub free_steps-freed-requires : goal.free_steps-freed-requires
free_steps-freed-requires c =
    let g = goal.at.free_steps-freed-requires c in
    let e = g.In_default in
    (freeable _ _ (admitted e) _ (read e) _ _ c.in-Some.is c.find.ensures.placed, omega (arith, long _ (begins g.After-new-driver) (admitted e).log))

pub returns : goal.returns
returns c =
    let g = goal.at.returns c in
    let e = g.In_default in
    replies-as (search rules)
    (replies-left c.args.self _ (read-tables _ _ _ (read e)) (begins g.After-new-driver) (steps-ran _ _ (admitted e) _ (read e) c.free_steps-freed.ensures)
    (free-some _ _ (admitted e) _ (read e) _ _ _ c.find.ensures.is _ c.in-Some.is) c.leave.ensures)

pub leave-requires : goal.leave-requires
leave-requires c =
    let e = (goal.at.leave-requires c).In_default in
    (steps-ran _ _ (admitted e) _ (read e) c.free_steps-freed.ensures).kept
