-- docs/RULES.md 8.1, 8.5: what the lines of a trace say, from the lines alone: no rule is asked, and nothing is walked. The lines so far are a list, the newest
-- first; the number of a line is how many are before it.
use Rattle.std.specs.Prelude.{Bool, true, false, cond, ◌&&◌, ◌||◌, not, List, [], ◌∷◌, ℕ, eqb, length}
use Rattle.std.proofs.Math.Option.{Option, none, some}
use Rattle.lists.specs.Tests.{filter}
use Rattle.words.specs.Words.{number}
use Rattle.words.specs.declared.Word.{Word}
use Rattle.words.specs.declared.Word.TheVariants.{Reserve, Create, Map, Unmap, Release, Record as RecordEvent, Giveback}
use Rattle.trace.specs.declared.Line.{Line}
use Rattle.judge_rules.specs.Said.{said, asked_by, nothing_asked}
use Rattle.judge_rules.specs.Ranges.{inside}
use Rattle.judge_rules.specs.Rules.{Reservation, is_open}
use Rattle.judge_rules.specs.declared.Asked.{Asked}
use Rattle.judge_rules.specs.declared.Call.{Call}
use Rattle.judge_rules.specs.declared.Call.TheVariants.{Open, Malloc, Free, Close}
use Rattle.judge_rules.specs.declared.Said.{Said}
use Rattle.judge_rules.specs.declared.Said.TheVariants.{Record, Call as Calls, Result, Aside, Unknown}

-- A line is a record; a result.
abbrev pub is_record : Said → Bool
is_record (Record w) = true
is_record (Calls c) = false
is_record Result = false
is_record Aside = false
is_record Unknown = false

abbrev pub is_result : Said → Bool
is_result Result = true
is_result (Record w) = false
is_result (Calls c) = false
is_result Aside = false
is_result Unknown = false

-- A call by a number, to compare it by.
abbrev pub place : Call → ℕ
place Open = 0
place Malloc = 1
place Free = 2
place Close = 3

-- What the driver did: the line is a record of this word, with code 0.
abbrev pub did_by : Word → Said → ℕ → Bool
did_by w (Record v) code = eqb code 0 && eqb (number v) (number w)
did_by w (Calls c) code = false
did_by w Result code = false
did_by w Aside code = false
did_by w Unknown code = false

abbrev pub did : Word → Line → Bool
did w l = did_by w (said l.kind) l.third

-- The open's page size, and its va_size.
abbrev pub page_size : List Line → ℕ
page_size [] = 0
page_size (l ∷ before) = cond (is_open (said l.kind)) l.first (page_size before)

abbrev pub va_size : List Line → ℕ
va_size [] = 0
va_size (l ∷ before) = cond (is_open (said l.kind)) l.second (va_size before)

-- The call that the newest lines belong to, and whether its result is still to come: a small buffer's line says nothing of either.
abbrev pub call : List Line → Asked
call [] = nothing_asked
call (l ∷ before) = asked_by (said l.kind) l (call before)

abbrev pub waits_by : Said → Bool → Bool
waits_by (Calls c) before = true
waits_by (Record w) before = true
waits_by Result before = false
waits_by Aside before = before
waits_by Unknown before = true

abbrev pub waiting : List Line → Bool
waiting [] = false
waiting (l ∷ before) = waits_by (said l.kind) (waiting before)

-- The line is a result of the call `c`, with third number 0.
abbrev pub succeeds : Call → Line → List Line → Bool
succeeds c l before = is_result (said l.kind) && eqb l.third 0 && eqb (place (call before).call) (place c)

-- A close has had the result 0.
abbrev pub over : List Line → Bool
over [] = false
over (l ∷ before) = succeeds Close l before || over before

-- The reservations that are not given back.
abbrev pub reservations : List Line → List Reservation
reservations [] = []
reservations (l ∷ before) =
    cond (did Reserve l) (record { base = l.first; size = l.second } ∷ reservations before)
    (cond (did Giveback l) (filter (λ r. not (eqb r.base l.first)) (reservations before))
    (reservations before))

-- A handle that is held, with the line that created it.
pub record Held : Type 0 where
  pub handle : ℕ
  pub created : ℕ

abbrev pub held : List Line → List Held
held [] = []
held (l ∷ before) =
    cond (did Create l) (record { handle = l.first; created = length before } ∷ held before)
    (cond (did Release l) (filter (λ k. not (eqb k.handle l.first)) (held before))
    (held before))

-- A mapped page: where it starts, the handle under it, and the line that mapped it.
pub record Mapped : Type 0 where
  pub at : ℕ
  pub handle : ℕ
  pub mapped : ℕ

abbrev pub mapped : List Line → List Mapped
mapped [] = []
mapped (l ∷ before) =
    cond (did Map l) (record { at = l.first; handle = l.second; mapped = length before } ∷ mapped before)
    (cond (did Unmap l) (filter (λ m. not (inside l.first l.second m.at)) (mapped before))
    (mapped before))

-- The last recorded event id.
abbrev pub last : List Line → Option ℕ
last [] = none
last (l ∷ before) = cond (did RecordEvent l) (some l.first) (last before)
