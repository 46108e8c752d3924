-- `replay_lines::call_line` meets its contract, kind by kind.
use borrow.Author.Rules.{rules}
use borrow.Author.Tests.{ne_eqb}
use Rattle.replay_lines.specs.Traced.{call_line}
use Rattle.replay_lines.proofs.call_line.Goals as goal

pub returns-in-12 : goal.returns-in-12
unfolding call_line
returns-in-12 c = rw c.in-12.is

pub returns-in-13 : goal.returns-in-13
unfolding call_line
returns-in-13 c = rw c.in-13.is

pub returns-in-14 : goal.returns-in-14
unfolding call_line
returns-in-14 c = rw c.in-14.is

pub returns-in_default : goal.returns-in_default
unfolding call_line
returns-in_default c = simp (ne_eqb c.args.l.kind 14 (search rules), ne_eqb c.args.l.kind 13 (search rules), ne_eqb c.args.l.kind 12 (search rules))
