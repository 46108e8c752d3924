-- `judge_steps::State::on_answer` meets its contract: call by call.
use mathlib.Core.Path.{ap, sym}
use Rattle.judge_rules.specs.Verdict.{answered}
use Rattle.judge_steps.specs.State.{judge_of}
use Rattle.judge_steps.proofs.State.on_answer.Goals as goal

pub returns-in-Open-clause-does : goal.returns-in-Open-clause-does
unfolding answered judge_of
returns-in-Open-clause-does c = let v = c.args in ap (λ d. answered d (judge_of v.self.now) v.a v.b) (sym c.in-Open.is)

pub returns-in-Close-clause-does : goal.returns-in-Close-clause-does
unfolding answered judge_of
returns-in-Close-clause-does c = let v = c.args in ap (λ d. answered d (judge_of v.self.now) v.a v.b) (sym c.in-Close.is)
