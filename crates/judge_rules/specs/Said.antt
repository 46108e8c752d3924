-- docs/RULES.md 6.2: what the kind of a line stands for, a driver's word, a call, `result`, or a small buffer's line.
use Rattle.std.specs.Prelude.{List, [], ◌∷◌, ℕ, get_or}
use Rattle.words.specs.declared.Word.TheVariants.{
  Reserve,
  Create,
  Map,
  Access,
  Unmap,
  Release,
  Record as RecordEvent,
  Asked as AskedFor,
  Wait,
  Sync,
  Giveback,
}
use Rattle.trace.specs.declared.Line.{Line}
use Rattle.judge_rules.specs.declared.Call.{Call}
use Rattle.judge_rules.specs.declared.Call.TheVariants.{Open, Malloc, Free, Close}
use Rattle.judge_rules.specs.declared.Said.{Said}
use Rattle.judge_rules.specs.declared.Said.TheVariants.{Record, Call as Calls, Result, Aside, Unknown}
use Rattle.judge_rules.specs.declared.Asked.{Asked}

-- from 0, which is no kind
abbrev pub kinds : List Said
kinds =
    Unknown
    ∷ Record Reserve
    ∷ Record Create
    ∷ Record Map
    ∷ Record Access
    ∷ Record Unmap
    ∷ Record Release
    ∷ Record RecordEvent
    ∷ Record AskedFor
    ∷ Record Wait
    ∷ Record Sync
    ∷ Record Giveback
    ∷ Calls Open
    ∷ Calls Malloc
    ∷ Calls Free
    ∷ Calls Close
    ∷ Result
    ∷ Aside
    ∷ Aside
    ∷ []

unfoldable pub said : ℕ → Said
said kind = get_or kinds kind Unknown

-- the one where the call is open, else the other
abbrev pub if_open {ℓ} : {A : Type ℓ} → Call → A → A → A
if_open Open one other = one
if_open Malloc one other = other
if_open Free one other = other
if_open Close one other = other

-- the call that a line and those behind it belong to: its own, where it is a call line, else the one before
abbrev pub asked_by : Said → Line → Asked → Asked
asked_by (Calls c) l before = record { call = c; first = l.first; second = l.second }
asked_by (Record w) l before = before
asked_by Result l before = before
asked_by Aside l before = before
asked_by Unknown l before = before

-- before any line
abbrev pub nothing_asked : Asked
nothing_asked = record { call = Open; first = 0; second = 0 }
