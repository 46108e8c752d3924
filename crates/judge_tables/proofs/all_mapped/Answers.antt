-- `judge_tables::all_mapped` meets its contract: what the pages come to is what those from the place of the walk on come to.
use mathlib.Core.Path.{sym, ◌∙◌}
use Prim.Native.Nat.{◌+◌, ◌-◌, ◌≤◌, ◌^◌}
use native.Mathlib.Omega.{arith}
use Rattle.judge_rules.specs.Rules.{is_mapped}
use Rattle.judge_tables.specs.Rows.{pages_in}
use Rattle.judge_tables.proofs.Newest.{page-is}
use Rattle.judge_tables.proofs.Pages.{pages-not, pages-on, pages-beyond, last-of, mapped-beyond}
use Rattle.judge_tables.proofs.all_mapped.Goals as goal

pub returns-then-x-page : goal.returns-then-x-page
returns-then-x-page c =
    let v = c.args in
    let t = is_mapped (pages_in v.mapped.now) in
    let l = c.loop-i in
    let on = pages-on t v.page l.x l.i v.k c.loop-i-test.true (sym (c.is_mapped.ensures ∙ page-is v.mapped.now l.x) ∙ c.if-not-is_mapped.false) in
    let far : 2 ^ 64 ≤ l.x + v.page = omega (arith, c.if-x-page.true) in
    last-of l.i v.k c.loop-i-test.true
    ∙ pages-beyond t v.page (l.x + v.page) (v.k - (l.i + 1)) (mapped-beyond v.mapped.now (l.x + v.page) far c.see_addresses.ensures)
    ∙ sym (l.invariant.1 ∙ on)

pub returns-then-not-is_mapped : goal.returns-then-not-is_mapped
returns-then-not-is_mapped c =
    let v = c.args in
    let t = is_mapped (pages_in v.mapped.now) in
    let l = c.loop-i in
    sym (l.invariant.1 ∙ pages-not t v.page l.x l.i v.k c.loop-i-test.true (sym (c.is_mapped.ensures ∙ page-is v.mapped.now l.x) ∙ c.if-not-is_mapped.true))

pub loop-i-preserved : goal.loop-i-preserved
loop-i-preserved c =
    let v = c.args in
    let t = is_mapped (pages_in v.mapped.now) in
    let l = c.loop-i in
    (omega (arith, c.if-x-page.false), l.invariant.1 ∙ pages-on t v.page l.x l.i v.k c.loop-i-test.true (sym (c.is_mapped.ensures ∙ page-is v.mapped.now l.x) ∙ c.if-not-is_mapped.false))
