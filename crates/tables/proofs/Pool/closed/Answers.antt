-- `tables::Pool::closed` meets its contract: every table is the packing of no entry.
use mathlib.Core.Path.{refl}
use Rattle.tables.specs.Values.{pool_of}
use Rattle.tables.proofs.Pool.closed.Goals as goal

pub returns : goal.returns
unfolding pool_of
returns c = rw (c.empty.ensures, c.empty-2.ensures, c.empty-3.ensures, c.empty-4.ensures, c.empty-5.ensures, c.empty-6.ensures) refl
