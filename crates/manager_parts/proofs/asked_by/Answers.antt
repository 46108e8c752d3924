-- `manager_parts::asked_by` meets its contract, test by test.
use mathlib.Core.Path.{sym, ap, ◌∙◌}
use mathlib.Core.Logic.{⊎_elim}
use Prim.Native.Nat.{◌<◌}
use native.Mathlib.Omega.{arith}
use Rattle.std.specs.Int.{next_multiple_of}
use Rattle.lists.proofs.Tests.{cases_lt}
use Rattle.manager_rules.specs.Values.{BYTES}
use Rattle.manager_rules.specs.Sizes.{rounded}
use Rattle.manager_parts.proofs.Sizes.{next-is, asks_none, asks-smaller, asks-beyond, asks-whole}
use Rattle.manager_parts.proofs.asked_by.Goals as goal

pub returns-then-bytes-eq0 : goal.returns-then-bytes-eq0
returns-then-bytes-eq0 c = sym (asks_none _ _ c.if-bytes-eq0.true)

pub returns-then-bytes-page : goal.returns-then-bytes-page
returns-then-bytes-page c = sym (asks-smaller _ _ c.if-bytes-eq0.false c.if-bytes-page.true)

pub returns-in-Some : goal.returns-in-Some
returns-in-Some c =
    let a = c.args in
    let e = c.in-Some.ensures.1 ∙ ap (next_multiple_of a.bytes) c.max.ensures ∙ next-is a.page a.bytes in
    sym (asks-whole a.page a.bytes c.in-Some.size c.if-bytes-eq0.false (omega arith) (sym e) c.if-size-le-BYTES.true)

pub returns-in_default : goal.returns-in_default
returns-in_default c =
    let a = c.args in
    let e = c.in-Some.ensures.1 ∙ ap (next_multiple_of a.bytes) c.max.ensures ∙ next-is a.page a.bytes in
    sym (asks-beyond a.page a.bytes c.if-bytes-eq0.false (omega arith) (omega (arith, e, c.if-size-le-BYTES.false)))

pub returns-in_default-2 : goal.returns-in_default-2
returns-in_default-2 c =
    let a = c.args in
    let e = ap (next_multiple_of a.bytes) c.max.ensures ∙ next-is a.page a.bytes in
    let beyond : BYTES < rounded a.page a.bytes =
    ⊎_elim (λ h. h) (λ h. absurd (c.in_default.ensures (omega (arith, c.max.ensures), omega (arith, e, h)))) (cases_lt BYTES (rounded a.page a.bytes)) in
    sym (asks-beyond a.page a.bytes c.if-bytes-eq0.false (omega arith) beyond)
