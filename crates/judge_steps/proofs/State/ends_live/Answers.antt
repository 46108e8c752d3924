-- `judge_steps::State::ends_live` meets its contract: a close that finds no buffer ends none.
use mathlib.Core.Path.{ap, sym, ◌∙◌}
use borrow.Author.Tests.{eqb-true, not-false}
use Rattle.std.proofs.lemmas.List.{nil_from_length}
use Rattle.judge_rules.specs.Verdict.{ended, with_live}
use Rattle.judge_tables.specs.Rows.{live_in}
use Rattle.judge_steps.specs.State.{judge_of}
use Rattle.judge_steps.proofs.State.ends_live.Goals as goal

pub returns-in-Close-clause-goes_on : goal.returns-in-Close-clause-goes_on
unfolding judge_of
returns-in-Close-clause-goes_on c e =
    let s = c.args.self.now in
    let n = nil_from_length s.live.items (eqb-true _ _ (sym c.is_empty.ensures ∙ not-false _ e)) in
    ap (λ d. ended d (judge_of s)) c.in-Close.is ∙ ap (λ b. with_live (judge_of s) (live_in b)) (sym n)
