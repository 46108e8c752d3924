-- `trace::put_text` meets its contract: each part ends where the next begins, and each number takes a field.
use native.Mathlib.Omega.{arith}
use Rattle.trace.proofs.Decimal.{at-most_twenty}
use Rattle.trace.proofs.Put.{put-row}
use Rattle.trace.proofs.put_text.Goals as goal

pub put_field-r-requires : goal.put_field-r-requires
put_field-r-requires c = omega (arith, at-most_twenty c.args.first c.ranges.first.fits)

pub put_field-s-requires : goal.put_field-s-requires
put_field-s-requires c =
    omega (arith, at-most_twenty c.args.first c.ranges.first.fits, at-most_twenty c.args.second c.ranges.second.fits)

pub put_byte-requires : goal.put_byte-requires
put_byte-requires c =
    omega (
      arith,
      at-most_twenty c.args.first c.ranges.first.fits,
      at-most_twenty c.args.second c.ranges.second.fits,
      at-most_twenty c.args.third c.ranges.third.fits,
    )

pub returns : goal.returns
returns c =
    let a = c.args in
    put-row a.letters.now a.first a.second a.third
    c.put_bytes-p.ensures
    c.put_field-q.ensures
    c.put_field-r.ensures
    c.put_field-s.ensures
    c.put_byte.ensures
