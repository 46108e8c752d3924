-- `summary_counts::zombie_pages` meets its contract: those counted so far with those of the older pages are all.
use mathlib.Core.Path.{◌≡◌, ap, sym, ◌∙◌}
use native.Mathlib.Omega.{arith}
use mathlib.Core.Bool.{cond}
use Prim.Native.Nat.{◌+◌}
use Rattle.judge_tables.specs.Rows.{pages_in}
use Rattle.summary_counts.specs.Counts.{zombies}
use Rattle.summary_counts.proofs.Amounts.{zombie-more}
use Rattle.summary_counts.proofs.bytes.zombie_pages.Goals as goal

pub loop-page-preserved-then-is_under : goal.loop-page-preserved-then-is_under
loop-page-preserved-then-is_under c =
    let older = c.in-Some.older.now in
    let last = c.in-Some.ensures.cases in
    let e : zombies (pages_in c.loop-page.newest.now) ≡ zombies (pages_in older) + 1 =
    ap (λ t. zombies (pages_in t)) last.0 ∙ zombie-more older c.in-Some.page.now
    ∙ ap (λ b. cond b (zombies (pages_in older) + 1) (zombies (pages_in older))) (sym c.is_under.ensures ∙ c.if-is_under.true)
    in
    (omega (arith, c.loop-page.invariant.0, last.1), omega (arith, c.loop-page.invariant.1, e))

pub loop-page-preserved : goal.loop-page-preserved
loop-page-preserved c =
    let older = c.in-Some.older.now in
    let last = c.in-Some.ensures.cases in
    let e : zombies (pages_in c.loop-page.newest.now) ≡ zombies (pages_in older) =
    ap (λ t. zombies (pages_in t)) last.0 ∙ zombie-more older c.in-Some.page.now
    ∙ ap (λ b. cond b (zombies (pages_in older) + 1) (zombies (pages_in older))) (sym c.is_under.ensures ∙ c.if-is_under.false)
    in
    (omega (arith, c.loop-page.invariant.0, last.1), omega (arith, c.loop-page.invariant.1, e))
