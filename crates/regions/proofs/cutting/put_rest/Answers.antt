-- `put_rest` meets its contract: the test of the code is the test of the rule.
use mathlib.Core.Path.{ap, ◌∙◌}
use native.Mathlib.Omega.{arith}
use borrow.Author.Tests.{eq-eqb, ne_eqb}
use Rattle.tables.specs.Values.{pack_free}
use Rattle.tables.proofs.Packs.{free-whole}
use Rattle.regions.proofs.cutting.put_rest.Goals as goal

pub returns-then-taken-r : goal.returns-then-taken-r
returns-then-taken-r c =
    let a = c.args in
    rw c.rest_of.ensures at c.put.ensures ∙ ap pack_free (rw (ne_eqb a.r.size a.taken (λ e. omega arith)))

pub returns-else-taken-r : goal.returns-else-taken-r
returns-else-taken-r c =
    let a = c.args in
    rw (eq-eqb a.r.size a.taken (omega arith)) (free-whole a.free.now c.requires.0.0)
