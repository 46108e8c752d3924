-- `trace::after_digits` meets its contract: each arm is a case of the rule.
use native.Mathlib.Omega.{arith}
use mathlib.Core.Bool.{and-false}
use borrow.Author.Tests.{lt-ltb, le-leb, lt-leb, eq-eqb, ne_eqb}
use Rattle.trace.specs.Machine.{after_digits}
use Rattle.trace.proofs.Codes.{fitting-Some, fitting-None}
use Rattle.trace.proofs.after_digits.Goals as goal

pub returns-in-9 : goal.returns-in-9
unfolding after_digits
returns-in-9 c = simp (eq-eqb _ _ c.in-9.is, c.part.ensures)

pub returns-in-Some : goal.returns-in-Some
unfolding after_digits
returns-in-Some c =
    let a = c.args in
    let f = fitting-Some c.in-Some.ensures in
    simp (
      ne_eqb a.b 9 (omega arith),
      le-leb 48 a.b (omega arith),
      le-leb a.b 57 (omega arith),
      lt-ltb 0 a.n (omega arith),
      f.0,
      f.1,
    )

pub returns-in-None : goal.returns-in-None
unfolding after_digits
returns-in-None c =
    let b = c.args.b in
    simp (
      ne_eqb b 9 (omega arith),
      le-leb 48 b (omega arith),
      le-leb b 57 (omega arith),
      fitting-None _ c.in-None.ensures,
      and-false,
    )

pub returns-in_default : goal.returns-in_default
unfolding after_digits
returns-in_default c = let b = c.args.b in simp (ne_eqb b 9 (omega arith), lt-leb 48 b (omega arith))

pub returns-in_default-2 : goal.returns-in_default-2
unfolding after_digits
returns-in_default-2 c =
    let b = c.args.b in
    simp (
      ne_eqb b 9 (omega arith),
      le-leb 48 b (omega arith),
      le-leb b 57 (omega arith),
      c.if-n-ne0.false,
    )

pub returns-in_default-3 : goal.returns-in_default-3
unfolding after_digits
returns-in_default-3 c =
    let b = c.args.b in
    simp (ne_eqb b 9 (omega arith), le-leb 48 b (omega arith), lt-leb b 57 (omega arith))
