-- docs/RULES.md 3.11: fit.
use Rattle.std.specs.Prelude.{cond, List, [], ◌∷◌, map, ℕ, leb, eqb}
use Rattle.std.proofs.Math.Option.{Option, some, none}
use Rattle.lists.specs.Tests.{filter}
use Rattle.lists.specs.Order.{least}
use Rattle.tables.specs.Values.{region}
use Rattle.tables.specs.Steps.{Step, ◌>>=◌, ◌>>◌, give, tables, change_free}
use Rattle.tables.specs.Driver.{is_complete}
use Rattle.tables.specs.InsertFree.{from}
use Rattle.tables.specs.Pull.{own_of}
use Rattle.tables.specs.declared.FreeRegion.{FreeRegion}

-- the free regions of at least `n` bytes
abbrev pub candidates : ℕ → List FreeRegion → List FreeRegion
candidates n = filter (λ r. leb n r.size)

-- the smallest, the first of equal ones
abbrev pub smallest : List FreeRegion → Option FreeRegion
smallest = least (λ r. r.size)

-- Every one of a list is asked: the complete ones.
abbrev pub ask_all : List FreeRegion → Step (List FreeRegion)
ask_all [] = give []
ask_all (r ∷ l) = do
  c ← is_complete r.id.0
  done ← ask_all l
  give (cond c (r ∷ done) done)

abbrev pub on_stream : ℕ → FreeRegion → FreeRegion
on_stream s r = region (from r) r.size s r.id.0

-- In the table it is on the stream `s` now, with its id.
unfoldable pub take_over : ℕ → Option FreeRegion → Step (Option FreeRegion)
take_over s none = give none
take_over s (some r) = do
  change_free (map (λ q. cond (eqb (from q) (from r)) (on_stream s q) q))
  give (some (on_stream s r))

-- Candidates are asked only where none is on the stream `s`.
unfoldable pub or_other : ℕ → List FreeRegion → Option FreeRegion → Step (Option FreeRegion)
or_other s l (some r) = give (some r)
or_other s l none = do
  done ← ask_all l
  take_over s (smallest done)

-- The smallest candidate on the stream `s`, or a complete one of another.
unfoldable pub fit : ℕ → ℕ → Step (Option FreeRegion)
fit n s = do
  t ← tables
  let l = candidates n t.free
  or_other s l (smallest (own_of s l))
