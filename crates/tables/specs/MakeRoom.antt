-- docs/RULES.md 3.9: make room. Its parts are in TakeRange, NewPages and Pull.
use Rattle.std.specs.Prelude.{cond, ℕ, ◌-◌, ◌/◌, leb}
use Rattle.std.proofs.Math.Option.{Option, some, none}
use Rattle.tables.specs.Values.{Tables}
use Rattle.tables.specs.Steps.{Step, ◌>>=◌, ◌>>◌, give, tables}
use Rattle.tables.specs.InsertFree.{from, bytes, without_free}
use Rattle.tables.specs.TakeRange.{take_range}
use Rattle.tables.specs.NewPages.{Room, make_pages, insert_new}
use Rattle.tables.specs.Pull.{pull_in}
use Rattle.tables.specs.declared.FreeRegion.{FreeRegion}

-- what the free bytes of all streams lack of `n`
abbrev pub missing : ℕ → Tables → ℕ
missing n t = n - bytes t.free

-- A new region that is too small, with what it merged with, is filled up. So the end of the range may stay unused, and is then in no table.
unfoldable pub fill : Room → Option FreeRegion → Step FreeRegion
fill o none = do
  t ← tables
  pull_in o o.size t.free
fill o (some r) = do
  t ← tables
  cond (leb o.size r.size) (give r) (pull_in o (o.size - r.size) (without_free (from r) t.free))

unfoldable pub make_room : ℕ → ℕ → Step FreeRegion
make_room n s = do
  t ← tables
  a ← take_range n
  let o : Room = record { start = a; size = n; missing = missing n t; stream = s }
  make_pages (o.missing / t.fields.page) o a
  r ← insert_new o
  fill o r
