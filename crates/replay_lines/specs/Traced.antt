-- docs/RULES.md 6.1, 7.4: a call as lines of a trace.
use Rattle.std.specs.Prelude.{Bool, cond, List, ◌++◌, ℕ, ◌+◌, ◌*◌, eqb}
use Rattle.tables.specs.Bounds.{LOG}
use Rattle.tables.specs.Outcomes.{numbers}
use Rattle.tables.specs.Calls.{Call, mallocs, frees, closes}
use Rattle.tables.specs.declared.Numbers.{Numbers}
use Rattle.tables.specs.declared.Outcome.{Outcome}
use Rattle.trace.specs.Bounds.{longest_line}
use Rattle.trace.specs.Form.{printed}
use Rattle.trace.specs.Kinds.{OPEN, MALLOC, FREE, open_line, malloc_line, free_line, close_line, result_line}
use Rattle.trace.specs.Put.{Put}
use Rattle.trace.specs.declared.Line.{Line}
use Rattle.replay_lines.specs.Records.{printed_all, records_in}

-- the words by their kinds
abbrev pub is_open : Line → Bool
is_open l = eqb l.kind OPEN

abbrev pub is_malloc : Line → Bool
is_malloc l = eqb l.kind MALLOC

abbrev pub is_free : Line → Bool
is_free l = eqb l.kind FREE

-- the call that a line asks for, where it isn't open
abbrev pub call_of : Line → Call
call_of l = cond (is_malloc l) (mallocs l.first l.second) (cond (is_free l) (frees l.first) closes)

-- a call's own line
abbrev pub line_of : Call → Line
line_of (mallocs n s) = malloc_line n s
line_of (frees a) = free_line a
line_of closes = close_line

-- The line that is printed of a call line: fields shown as 0 are printed as 0.
unfoldable pub call_line : Line → Line
call_line l = cond (is_open l) (open_line l.first l.second l.third) (line_of (call_of l))

abbrev pub result_of : Numbers → Line
result_of n = result_line n.first n.second n.number

-- the call, its records as the log has them, its result
unfoldable pub call_text : Line → Outcome → ℕ → List ℕ → List ℕ
call_text call o count log = printed (call_line call) ++ (printed_all (records_in count log) ++ printed (result_of (numbers o)))

-- how many bytes that can be, with the records of a full log
abbrev pub longest_call : ℕ
longest_call = longest_line * (LOG + 2)

-- put from the start of a buffer on
abbrev pub PutCall : Line → Outcome → List ℕ → ℕ → List ℕ → List ℕ → ℕ → Type 0
PutCall call o log count out out' r = Put out out' 0 r (call_text call o count log)
