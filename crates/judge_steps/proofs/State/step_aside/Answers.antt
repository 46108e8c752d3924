-- `judge_steps::State::step_aside` meets its contract: refused by R0, or passed over.
use mathlib.Core.Path.{sym, ◌∙◌}
use Rattle.judge_steps.specs.State.{judge_of}
use Rattle.judge_steps.proofs.LineKinds.{aside-refused, aside-on}
use Rattle.judge_steps.proofs.State.step_aside.Goals as goal

pub returns-then-not-between_runs : goal.returns-then-not-between_runs
unfolding judge_of
returns-then-not-between_runs c =
    aside-refused (judge_of c.args.self.now) c.args.l (sym c.between_runs.ensures ∙ c.if-not-between_runs.true)

pub returns : goal.returns
unfolding judge_of
returns c =
    aside-on (judge_of c.args.self.now) c.args.l (sym c.between_runs.ensures ∙ c.if-not-between_runs.false)
