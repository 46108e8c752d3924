-- `judge_reasons::seen::Seen::of` meets its contract: each table is lent as it is.
use mathlib.Core.Path.{refl}
use Rattle.judge_steps.specs.State.{judge_of}
use Rattle.judge_reasons.specs.Seen.{judge_seen}
use Rattle.judge_reasons.proofs.seen.Seen.of.Goals as goal

pub returns : goal.returns
unfolding judge_of judge_seen
returns c = rw (c.as_slice.ensures.value, c.as_slice-2.ensures.value, c.as_slice-3.ensures.value, c.as_slice-4.ensures.value) refl
