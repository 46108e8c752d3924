-- What a line's steps promise: the state after them is what the rules and the walk of crates/judge_rules say.
use Rattle.std.specs.Prelude.{◌≡◌, cond, ℕ, eqb, Result, OnErr}
use Rattle.words.specs.declared.Word.{Word}
use Rattle.trace.specs.declared.Line.{Line}
use Rattle.judge_rules.specs.Verdict.{on, recorded, answered, judged}
use Rattle.judge_rules.specs.declared.Call.{Call}
use Rattle.judge_rules.specs.declared.Said.{Said}
use Rattle.judge_steps.specs.State.{judge_of, step_of}
use Rattle.judge_steps.specs.declared.State.{State}
use Rattle.judge_steps.specs.declared.Fault.{Fault}

-- a record of code 0, with its two numbers, comes to `r`, and makes the state `s'` of `s`
abbrev pub Records : Word → State → ℕ → ℕ → Result (Unit {0}) Fault → State → Type 0
Records w s a b r s' = step_of r s' ≡ recorded w (judge_of s) a b

-- a result of answer 0
abbrev pub Answers : Call → State → ℕ → ℕ → Result (Unit {0}) Fault → State → Type 0
Answers c s a b r s' = step_of r s' ≡ answered c (judge_of s) a b

-- a line whose kind stands for this
abbrev pub Steps : Said → State → Line → Result (Unit {0}) Fault → State → Type 0
Steps what s l r s' = step_of r s' ≡ judged what (judge_of s) l

-- a record that may stand where it does
abbrev pub Stands : Word → State → Line → Result (Unit {0}) Fault → State → Type 0
Stands w s l r s' = step_of r s' ≡ cond (eqb l.third 0) (recorded w (judge_of s) l.first l.second) (on (judge_of s))

-- where a line is refused, or too much, all that was said stays said
abbrev pub Stays : State → Result (Unit {0}) Fault → State → Type 0
Stays s r s' = OnErr r (judge_of s' ≡ judge_of s)
