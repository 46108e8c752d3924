-- `judge_reasons::parts::is_decimal` meets its contract: a line that has only this number wrong would be read if the number were one.
use Rattle.judge_reasons.proofs.Unread.{decimal_unread}
use native.Mathlib.Omega.{arith}
use mathlib.Core.Path.{ap}
use lib.ListN.{length}
use Rattle.trace.proofs.Decimal.{at-most_twenty}
use Rattle.judge_reasons.proofs.parts.is_decimal.Goals as goal

pub returns-then-w-gt-MOST_DIGITS : goal.returns-then-w-gt-MOST_DIGITS
returns-then-w-gt-MOST_DIGITS c = λ e n h s. omega (arith, at-most_twenty n h, ap length s)

pub returns : goal.returns
returns c =
    λ no.
    decimal_unread c.put_bytes-p.ensures c.put_bytes-q.ensures c.put_bytes-r.ensures c.read.ensures.read_as (c.is_good.ensures no)
