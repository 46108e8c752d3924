-- docs/RULES.md 6.1, 6.2: the lines of a trace, by kind.
use Rattle.std.specs.Prelude.{ℕ}
use Rattle.words.specs.Words.{number}
use Rattle.words.specs.declared.Record.{Record}
use Rattle.words.specs.declared.Word.TheVariants.{Giveback}
use Rattle.trace.specs.Form.{line}
use Rattle.trace.specs.declared.Line.{Line}

-- The driver's words come first, in the order of the log's kinds.
abbrev pub last_driver : ℕ
last_driver = number Giveback

abbrev pub OPEN : ℕ
OPEN = 12

abbrev pub MALLOC : ℕ
MALLOC = 13

abbrev pub FREE : ℕ
FREE = 14

abbrev pub CLOSE : ℕ
CLOSE = 15

abbrev pub RESULT : ℕ
RESULT = 16

abbrev pub SMALL : ℕ
SMALL = 17

abbrev pub DROPSMALL : ℕ
DROPSMALL = 18

-- a record of the log
abbrev pub of_record : Record → Line
of_record r = line r.kind r.first r.second r.code

-- page size used, va_size, initial pages
abbrev pub open_line : ℕ → ℕ → ℕ → Line
open_line page va initial = line OPEN page va initial

-- bytes, stream, 0
abbrev pub malloc_line : ℕ → ℕ → Line
malloc_line bytes stream = line MALLOC bytes stream 0

-- address, 0, 0
abbrev pub free_line : ℕ → Line
free_line address = line FREE address 0 0

-- 0, 0, 0
abbrev pub close_line : Line
close_line = line CLOSE 0 0 0

-- first, second, answer number
abbrev pub result_line : ℕ → ℕ → ℕ → Line
result_line first second answer = line RESULT first second answer
