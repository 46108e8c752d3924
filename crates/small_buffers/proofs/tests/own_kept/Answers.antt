-- `small_buffers::tests::own_kept` meets its contract, test by test.
use borrow.Author.Tests.{le-leb, lt-leb, eq-eqb, ne_eqb}
use Rattle.manager_rules.specs.WellFormed.{own_kept}
use Rattle.small_buffers.proofs.tests.own_kept.Goals as goal

pub returns-then-m-eq-STOPPED : goal.returns-then-m-eq-STOPPED
unfolding own_kept
returns-then-m-eq-STOPPED c = rw (le-leb _ _ c.if-m-le-SMALLS.true, eq-eqb _ _ c.if-m-eq-STOPPED.true)

pub returns-else-m-eq-STOPPED : goal.returns-else-m-eq-STOPPED
unfolding own_kept
returns-else-m-eq-STOPPED c = rw (le-leb _ _ c.if-m-le-SMALLS.true, ne_eqb _ _ c.if-m-eq-STOPPED.false) c.own_sound.ensures

pub returns-else-m-le-SMALLS : goal.returns-else-m-le-SMALLS
unfolding own_kept
returns-else-m-le-SMALLS c = rw (lt-leb _ _ c.if-m-le-SMALLS.false)
