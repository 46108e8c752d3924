-- `judge_steps::State::step` meets its contract: kind by kind.
use mathlib.Core.Path.{ap, ◌∙◌}
use Rattle.judge_rules.specs.Verdict.{judged}
use Rattle.judge_steps.specs.State.{judge_of}
use Rattle.judge_steps.proofs.LineKinds.{unknown-refused}
use Rattle.judge_steps.proofs.State.step.Goals as goal

pub returns-in-Unknown-clause-does : goal.returns-in-Unknown-clause-does
returns-in-Unknown-clause-does c =
    let v = c.args in
    unknown-refused (judge_of v.self.now) v.l ∙ ap (λ w. judged w (judge_of v.self.now) v.l) c.in-Unknown.ensures
