use Rattle.std.proofs.Common.{◌≤◌}
use Rattle.std.specs.Fn.{CalledAtMut}
use Rattle.std.proofs.RetainMut.{RetainMutInvariant}
use Rattle.fixed_rows.proofs.keep_in_front.Given as goal

abbrev pub invariant-loop-at : goal.invariant-loop-at
invariant-loop-at g l = (l.kept ≤ l.at) × goal.F-IsAlwaysCallable g l.stays
    × RetainMutInvariant (CalledAtMut g.F.FnMut) l.initial.stays l.initial.rows l.stays l.rows l.kept l.at
