-- docs/RULES.md 8.8: what the judge prints, one line.
use Rattle.std.specs.Prelude.{List, ℕ}
use Rattle.trace.specs.Form.{ascii, text}
use Rattle.judge_rules.specs.declared.Verdict.{Verdict}
use Rattle.judge_rules.specs.declared.Verdict.TheVariants.{Accepted, Rejected, Large}

-- `rejected` names the line and the rule, `large` the line and what is too large there
abbrev pub verdict_line : Verdict → List ℕ
verdict_line Accepted = text (ascii "accepted") 0 0 0
verdict_line (Rejected line rule) = text (ascii "rejected") line rule 0
verdict_line (Large line which) = text (ascii "large") line which 0
