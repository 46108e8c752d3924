-- `pool_soundness::roots::roots_sound` meets its contract: the two tests in a row.
use mathlib.Core.Path.{sym, ◌∙◌}
use Rattle.pool_soundness.specs.Tests.{roots_pass}
use Rattle.pool_soundness.proofs.roots.roots_sound.Goals as goal

pub returns-then-roots_disjoint : goal.returns-then-roots_disjoint
unfolding roots_pass
returns-then-roots_disjoint c = rw (sym c.roots_disjoint.ensures ∙ c.if-roots_disjoint.true) c.roots_aligned.ensures

pub returns-else-roots_disjoint : goal.returns-else-roots_disjoint
unfolding roots_pass
returns-else-roots_disjoint c = rw (sym c.roots_disjoint.ensures ∙ c.if-roots_disjoint.false) c.if-roots_disjoint.false
