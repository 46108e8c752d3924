-- `trace::put_field` meets its contract: a tab, then at most twenty digits.
use Prim.Native.Nat.{◌≤◌}
use native.Mathlib.Omega.{arith}
use lib.ListN.{length}
use Rattle.trace.proofs.Put.{put_then}
use Rattle.trace.specs.Form.{decimal}
use Rattle.trace.proofs.Decimal.{at-most_twenty}
use Rattle.trace.proofs.put_field.Goals as goal

pub put_decimal-requires : goal.put_decimal-requires
put_decimal-requires c =
    let n = c.args.n in
    omega (arith, at-most_twenty n c.ranges.n.fits, c.put_byte-next.ensures.next)

pub returns : goal.returns
returns c =
    let h : length (decimal c.args.n) ≤ 20 = at-most_twenty c.args.n c.ranges.n.fits in
    put_then c.put_byte-next.ensures c.put_decimal.ensures
