-- `replay_whole::finish` meets its contract.
use mathlib.Core.Path.{refl, sym, ◌∙◌}
use mathlib.Core.List.{[]}
use native.Mathlib.Omega.{arith}
use borrow.Author.Tests.{not-true, not-false}
use Rattle.replay_whole.proofs.Fits.{adds-within}
use Rattle.replay_whole.proofs.Goes.{ends_cut, ends-fed}
use Rattle.replay_whole.proofs.finish.Goals as goal

pub returns-then-not-done : goal.returns-then-not-done
returns-then-not-done c =
    ends_cut c.turn-r.ensures (sym c.is_ended.ensures ∙ c.if-is_ended.false) c.add-done.ensures (not-true _ c.if-not-done.true)

pub end-requires-2-clause-s_value : goal.end-requires-2-clause-s_value
end-requires-2-clause-s_value c =
    (c.turn-r.ensures.fed (record { front = []; is = refl }), omega (arith, adds-within c.add-done.ensures c.requires.line_bound.1, c.add-done.auto.out))

pub returns : goal.returns
returns c =
    ends-fed c.turn-r.ensures (sym c.is_ended.ensures ∙ c.if-is_ended.false) c.add-done.ensures (not-false _ c.if-not-done.false) c.end-2.ensures
