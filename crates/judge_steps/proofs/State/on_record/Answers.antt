-- `judge_steps::State::on_record` meets its contract: word by word.
use mathlib.Core.Path.{ap, sym, ◌∙◌}
use Rattle.judge_rules.specs.Verdict.{recorded}
use Rattle.judge_steps.specs.State.{judge_of}
use Rattle.judge_steps.proofs.State.on_record.Goals as goal

pub returns-in-Wait-clause-does : goal.returns-in-Wait-clause-does
unfolding recorded
returns-in-Wait-clause-does c = let v = c.args in c.on_asked-in-Wait.ensures ∙ ap (λ w. recorded w (judge_of v.self.now) v.a v.b) (sym c.in-Wait.is)

pub returns-in-Sync-clause-does : goal.returns-in-Sync-clause-does
unfolding recorded
returns-in-Sync-clause-does c = let v = c.args in ap (λ w. recorded w (judge_of v.self.now) v.a v.b) (sym c.in-Sync.is)
