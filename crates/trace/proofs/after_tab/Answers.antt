-- `trace::after_tab` meets its contract: each arm is a case of the rule.
use native.Mathlib.Omega.{arith}
use borrow.Author.Tests.{le-leb, lt-leb}
use Rattle.trace.specs.Machine.{after_tab}
use Rattle.trace.proofs.after_tab.Goals as goal

pub returns-in-48-to-57 : goal.returns-in-48-to-57
unfolding after_tab
returns-in-48-to-57 c = let b = c.args.b in simp (c.from.ensures, le-leb 48 b (omega arith), le-leb b 57 (omega arith))

pub returns-in_default : goal.returns-in_default
unfolding after_tab
returns-in_default c = simp (lt-leb 48 c.args.b (omega arith))

pub returns-in_default-2 : goal.returns-in_default-2
unfolding after_tab
returns-in_default-2 c = let b = c.args.b in simp (le-leb 48 b (omega arith), lt-leb b 57 (omega arith))
