-- What code that walks a step leaves: how it ended, the tables, the log and the number of driver calls made so far.
use Rattle.std.specs.Prelude.{◌≡◌, List, ℕ, ◌+◌, ◌*◌, ◌≤◌, length}
use Rattle.words.specs.Log.{written}
use Rattle.words.specs.declared.Record.{Record}
use Rattle.tables.specs.Values.{Tables}
use Rattle.tables.specs.Steps.{Ending, went, Step}
use Rattle.driving.specs.declared.Driver.{Driver}

-- Where a call stands: the driver calls made, the tables, the log.
pub record Point : Type 0 where
  pub made : ℕ
  pub tables : Tables
  pub log : List ℕ

abbrev pub point : ℕ → Tables → List ℕ → Point
point k t l = record { made = k; tables = t; log = l }

-- The step `m` goes from `s` to `u` and ends as `e`: its records stand in the log, one driver call made for each.
pub record Ran {A : Type 0} (m : Step A) (xs : List ℕ) (s : Point) (e : Ending A) (u : Point) : Type 0 where
  pub records : List Record
  pub goes : m xs s.made s.tables ≡ went e u.tables records
  pub log : u.log ≡ written s.log s.made records
  pub made : u.made ≡ s.made + length records

-- The same answers are lent, and the same log, of the same length.
pub record Lent (d d' : Driver) : Type 0 where
  pub answers : d'.answers ≡ d.answers
  pub log : d'.log.ghost_name ≡ d.log.ghost_name
  pub cells : length d'.log.now ≡ length d.log.now

-- where a call stands, with its tables
abbrev pub stands : Driver → Tables → Point
stands d t = point d.made t d.log.now

-- A driver call: it leaves the tables as they are, whatever they are, and one record.
pub record Drove {A : Type 0} (m : Step A) (d : Driver) (e : Ending A) (d' : Driver) : Type 0 where
  pub lent : Lent d d'
  pub made : d'.made ≡ d.made + 1
  pub ran : (t : Tables) → Ran m d.answers.now (stands d t) e (stands d' t)

-- The log has room for `n` records more.
abbrev pub RoomFor : ℕ → Driver → Type 0
RoomFor n d = 4 * (d.made + n) ≤ length d.log.now
