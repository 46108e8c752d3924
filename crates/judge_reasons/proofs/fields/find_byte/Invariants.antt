use Rattle.judge_reasons.specs.Forms.{NoneFrom}
use Rattle.judge_reasons.proofs.fields.find_byte.Given as goal

abbrev pub invariant-loop-i : goal.invariant-loop-i
invariant-loop-i l = NoneFrom l.line l.at l.i l.b
