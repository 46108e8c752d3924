-- docs/RULES.md 2.1: the driver's words, their numbers, and the record that each leaves.
use Rattle.std.specs.Prelude.{ℕ}
use Rattle.words.specs.declared.Word.{Word}
use Rattle.words.specs.declared.Word.TheVariants.{
  Reserve,
  Create,
  Map,
  Access,
  Unmap,
  Release,
  Record as RecordEvent,
  Asked,
  Wait,
  Sync,
  Giveback,
}
use Rattle.words.specs.declared.Record.{Record}

abbrev pub number : Word → ℕ
number Reserve = 1
number Create = 2
number Map = 3
number Access = 4
number Unmap = 5
number Release = 6
number RecordEvent = 7
number Asked = 8
number Wait = 9
number Sync = 10
number Giveback = 11

abbrev pub line : Word → ℕ → ℕ → ℕ → Record
line word first second code = record { kind = number word; first = first; second = second; code = code }

-- base, va_size
abbrev pub reserve : ℕ → ℕ → ℕ → Record
reserve = line Reserve

-- handle, page size
abbrev pub create : ℕ → ℕ → ℕ → Record
create = line Create

-- address, handle
abbrev pub map : ℕ → ℕ → ℕ → Record
map = line Map

-- address, bytes
abbrev pub access : ℕ → ℕ → ℕ → Record
access = line Access

abbrev pub unmap : ℕ → ℕ → ℕ → Record
unmap = line Unmap

-- handle, 0
abbrev pub release : ℕ → ℕ → ℕ → Record
release = line Release

-- event id, stream
abbrev pub recorded : ℕ → ℕ → ℕ → Record
recorded = line RecordEvent

-- event id, whether it is complete (docs/RULES.md 2.3)
abbrev pub asked : ℕ → ℕ → ℕ → Record
asked = line Asked

-- event id, stream
abbrev pub wait : ℕ → ℕ → ℕ → Record
wait = line Wait

-- stream, which is 0 in a close; 0
abbrev pub sync : ℕ → ℕ → ℕ → Record
sync = line Sync

-- base, va_size
abbrev pub giveback : ℕ → ℕ → ℕ → Record
giveback = line Giveback
