-- `pool_soundness::walk::take` meets its contract.
use mathlib.Core.Path.{◌≡◌, refl, ap, sym, ◌∙◌}
use mathlib.Core.List.{[], ◌∷◌, map}
use Rattle.std.proofs.lemmas.List.{nil_from_length}
use Rattle.pool_soundness.specs.Walks.{Took}
use Rattle.pool_soundness.proofs.walk.take.Goals as goal

pub returns-in_err-entry : goal.returns-in_err-entry
unfolding Took
returns-in_err-entry g c =
    let p = c.in_err-entry.ensures.cases in
    let none : c.args.left.now.now ≡ [] = nil_from_length _ p in
    rw c.from_residual.ensures (rw none (refl, refl))

pub returns : goal.returns
unfolding Took
returns g c =
    let p = c.in_ok-entry.ensures.cases in
    let k : c.args.left.now.now ≡ c.in_ok-entry.entry.now ∷ c.in_ok-entry.rest.now = p.0 in
    ap (map g.T.Ranged.range) k ∙ ap (λ h. h ∷ map g.T.Ranged.range c.in_ok-entry.rest.now) (sym c.front.ensures)
