-- docs/RULES.md 3.2: insert free.
use Rattle.std.specs.Prelude.{Bool, cond, ◌&&◌, ◌||◌, not, ℕ, ◌+◌, ◌-◌, min, eqb}
use mathlib.Core.List.{List, foldr}
use Rattle.lists.specs.Tests.{filter}
use Rattle.lists.specs.Order.{put, without}
use Rattle.lists.specs.Walks.{sum}
use Rattle.tables.specs.Values.{region}
use Rattle.tables.specs.Steps.{Step, ◌>>=◌, ◌>>◌, give, tables, change_free, count_on}
use Rattle.tables.specs.Driver.{must, record_event}
use Rattle.tables.specs.declared.FreeRegion.{FreeRegion}

-- where a free region starts and ends
abbrev pub from : FreeRegion → ℕ
from r = r.start.0

abbrev pub upto : FreeRegion → ℕ
upto r = r.start.0 + r.size

abbrev pub bytes : List FreeRegion → ℕ
bytes = sum (λ r. r.size)

-- in its place by address
abbrev pub put_free : FreeRegion → List FreeRegion → List FreeRegion
put_free = put from

-- without the region that starts at an address
abbrev pub without_free : ℕ → List FreeRegion → List FreeRegion
without_free = without from

-- what the first `n` bytes leave of the region `r` stays free, with its stream and id
abbrev pub put_rest : ℕ → FreeRegion → List FreeRegion → List FreeRegion
put_rest n r l = cond (eqb r.size n) l (put_free (region (from r + n) (r.size - n) r.stream r.id.0) l)

-- `q` ends at the range's start or starts at its end, and is on the stream `s`
abbrev pub merges : ℕ → ℕ → ℕ → FreeRegion → Bool
merges a n s q = (eqb (from q) (a + n) || eqb (upto q) a) && eqb q.stream s

-- the range from `a` of `n` bytes and the regions `near` as one, on stream `s` with id `i`
abbrev pub merged : ℕ → ℕ → ℕ → ℕ → List FreeRegion → FreeRegion
merged a n s i near = region (foldr (λ q b. min (from q) b) a near) (n + bytes near) s i

-- What merges leaves the table before the record: where that fails, it is in none.
unfoldable pub insert_free : ℕ → ℕ → ℕ → Step FreeRegion
insert_free a n s = do
  t ← tables
  let r = merged a n s t.fields.counter (filter (merges a n s) t.free)
  change_free (filter (λ q. not (merges a n s q)))
  must (record_event t.fields.counter s)
  change_free (put_free r)
  count_on
  give r
