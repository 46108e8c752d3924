-- `replay_answers::value_in` meets its contract, kind by kind.
use mathlib.Core.Path.{◌≡◌}
use native.Mathlib.Decide.{ℕ_discrete}
use native.Mathlib.Omega.{arith}
use borrow.Author.Tests.{ne_eqb}
use Rattle.replay_answers.specs.Lending.{value_in}
use Rattle.replay_answers.proofs.value_in.Goals as goal

pub returns-in-8 : goal.returns-in-8
unfolding value_in
returns-in-8 c = rw c.in-8.is

pub returns-in-1 : goal.returns-in-1
unfolding value_in
returns-in-1 c =
    let k = c.args.l.kind in
    elim (ℕ_discrete k 1) [ yes e ↦ rw e | no d ↦ let e : k ≡ 2 = omega arith in rw e ]

pub returns-in_default : goal.returns-in_default
unfolding value_in
returns-in_default c =
    let k = c.args.l.kind in
    simp (ne_eqb k 8 (omega arith), ne_eqb k 2 (omega arith), ne_eqb k 1 (omega arith))

pub returns-in_default-2 : goal.returns-in_default-2
unfolding value_in
returns-in_default-2 c =
    let k = c.args.l.kind in
    simp (ne_eqb k 8 (omega arith), ne_eqb k 2 (omega arith), ne_eqb k 1 (omega arith))
