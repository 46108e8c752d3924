-- `judge_steps::State::new` meets its contract: nothing was said.
use mathlib.Core.Path.{refl}
use Rattle.judge_steps.specs.State.{judge_of}
use Rattle.judge_steps.proofs.State.new.Goals as goal

pub returns : goal.returns
unfolding judge_of
returns c = rw (c.new.ensures, c.new-2.ensures, c.new-3.ensures, c.new-4.ensures) refl
