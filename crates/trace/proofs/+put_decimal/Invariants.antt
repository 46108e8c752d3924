-- `trace::put_decimal` calls itself on a tenth.
use Rattle.trace.proofs.+put_decimal.Given as goal

abbrev pub decreases-put_decimal : goal.decreases-put_decimal
decreases-put_decimal l = l.n
