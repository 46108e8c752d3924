-- `trace::after_letters` meets its contract: each arm is a case of the rule.
use native.Mathlib.Omega.{arith}
use borrow.Author.Tests.{lt-ltb, le-ltb, le-leb, lt-leb, eq-eqb, ne_eqb}
use Rattle.trace.specs.Machine.{after_letters}
use Rattle.trace.proofs.Codes.{known-Some, known-None}
use Rattle.trace.proofs.after_letters.Goals as goal

pub returns-in-Some : goal.returns-in-Some
unfolding after_letters
returns-in-Some c =
    let k = known-Some c.in-Some.ensures in
    simp (eq-eqb _ _ c.in-9.is, k.0, ne_eqb _ _ k.1)

pub returns-in-None : goal.returns-in-None
unfolding after_letters
returns-in-None c = simp (eq-eqb _ _ c.in-9.is, known-None c.in-None.ensures)

pub returns-in-97-to-122 : goal.returns-in-97-to-122
unfolding after_letters
returns-in-97-to-122 c =
    let b = c.args.b in
    simp (
      c.from.ensures,
      ne_eqb b 9 (omega arith),
      le-leb 97 b (omega arith),
      le-leb b 122 (omega arith),
      lt-ltb _ _ c.if-letters-lt-FULL.true,
    )

pub returns-in_default : goal.returns-in_default
unfolding after_letters
returns-in_default c = let b = c.args.b in simp (ne_eqb b 9 (omega arith), lt-leb 97 b (omega arith))

pub returns-in_default-2 : goal.returns-in_default-2
unfolding after_letters
returns-in_default-2 c =
    let b = c.args.b in
    simp (
      ne_eqb b 9 (omega arith),
      le-leb 97 b (omega arith),
      le-leb b 122 (omega arith),
      le-ltb _ _ c.if-letters-lt-FULL.false,
    )

pub returns-in_default-3 : goal.returns-in_default-3
unfolding after_letters
returns-in_default-3 c =
    let b = c.args.b in
    simp (ne_eqb b 9 (omega arith), le-leb 97 b (omega arith), lt-leb b 122 (omega arith))
