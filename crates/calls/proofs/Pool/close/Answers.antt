-- `calls::Pool::close` meets its contract: refused at entry, or what its steps leave.
use mathlib.Core.Path.{refl, ap}
use native.Mathlib.Omega.{arith}
use Rattle.calls.proofs.Reading.{read_kept, read-tables}
use Rattle.std.proofs.Common.{rules}
use Rattle.calls.proofs.Left.{Begins, replies-none, replies-as, long}
use Rattle.calls.proofs.Closing.{closes-short, closes_done}
use Rattle.calls.proofs.Pool.close.Goals as goal
use Rattle.calls.proofs.Pool.close.Goals.{After-new-driver}

begins : (c : After-new-driver) → Begins c.new-driver.result c.args.answers.now c.args.log.now
begins c = record { answers = ap (λ a. a.now) c.new-driver.ensures.lent.0; log = c.new-driver.ensures.start.0; made = c.new-driver.ensures.start.1 }

pub returns-in-Err : goal.returns-in-Err
returns-in-Err c = replies-none _ c.args.self _ (c.in-Err.ensures.stops _ refl _) c.refuse.ensures

pub close_steps-requires : goal.close_steps-requires
close_steps-requires c =
    let m = c.in_default.ensures in
    let g = m.goes refl in
    let k = read_kept _ _ _ (m.read refl) g.0 in
    let b = begins (goal.at.close_steps-requires c).After-new-driver in
    ((record { zombies = k.zombies; pages = k.pages; roots = k.roots }, omega arith), omega (arith, long _ b g.1))

pub returns-in-Ok : goal.returns-in-Ok
returns-in-Ok c =
    let m = c.in_default.ensures in
    replies-as (search rules)
    (closes_done _ _ (read-tables _ _ _ (m.read refl)) (begins (goal.at.returns-in-Ok c).After-new-driver) c.args.self (m.passes refl _)
    c.in-Ok.ensures c.leave_closed.ensures)

pub returns-in-Err-close_steps : goal.returns-in-Err-close_steps
returns-in-Err-close_steps c =
    let m = c.in_default.ensures in
    replies-as (search rules)
    (closes-short _ _ (read-tables _ _ _ (m.read refl)) (begins (goal.at.returns-in-Err-close_steps c).After-new-driver) c.args.self (m.passes refl _)
    c.in-Err-close_steps.ensures c.leave_short.ensures)
