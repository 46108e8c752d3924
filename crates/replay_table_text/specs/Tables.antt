-- docs/RULES.md 7.6: what is shown of a pool after a result, its tables, one entry a line.
use Rattle.std.specs.Prelude.{cond, List, [], ◌∷◌, ◌++◌, ℕ, eqb}
use Rattle.lists.specs.Walks.{joined}
use Rattle.words.specs.declared.Address.{Address}
use Rattle.tables.specs.Values.{Tables, tables_of, closed}
use Rattle.tables.specs.declared.FreeRegion.{FreeRegion}
use Rattle.tables.specs.declared.LiveBuffer.{LiveBuffer}
use Rattle.tables.specs.declared.Hole.{Hole}
use Rattle.tables.specs.declared.Zombie.{Zombie}
use Rattle.tables.specs.declared.Page.{Page}
use Rattle.tables.specs.declared.Pool.{Pool}
use Rattle.trace.specs.Form.{ascii, decimal}

-- a number behind a tab
abbrev pub field : ℕ → List ℕ
field n = 9 ∷ decimal n

-- a word, its numbers parted by tabs, and a line feed
unfoldable pub entry : List ℕ → List ℕ → List ℕ
entry word numbers = word ++ (joined field numbers ++ (10 ∷ []))

-- address, size, stream, id
unfoldable pub free_entry : FreeRegion → List ℕ
free_entry r = entry (ascii "t-free") (r.start.0 ∷ r.size ∷ r.stream ∷ r.id.0 ∷ [])

-- address, size, stream
unfoldable pub live_entry : LiveBuffer → List ℕ
live_entry b = entry (ascii "t-live") (b.start.0 ∷ b.size ∷ b.stream ∷ [])

-- address, size
unfoldable pub hole_entry : Hole → List ℕ
hole_entry h = entry (ascii "t-hole") (h.start.0 ∷ h.size ∷ [])

-- address, size, event
unfoldable pub zombie_entry : Zombie → List ℕ
zombie_entry z = entry (ascii "t-zombie") (z.start.0 ∷ z.size ∷ z.id.0 ∷ [])

-- address, handle
unfoldable pub page_entry : Page → List ℕ
page_entry g = entry (ascii "t-page") (g.start.0 ∷ g.handle.0 ∷ [])

-- base
unfoldable pub root_entry : Address → List ℕ
root_entry base = entry (ascii "t-root") (base.0 ∷ [])

-- the next event id
unfoldable pub counter_entry : ℕ → List ℕ
counter_entry n = entry (ascii "t-counter") (n ∷ [])

unfoldable pub none_entry : List ℕ
none_entry = entry (ascii "t-none") []

-- Kinds stand in this order, the entries of a table in its own: a call leaves free, live, holes and pages in ascending address.
unfoldable pub entries : Tables → List ℕ
entries t =
    joined free_entry t.free
    ++ (joined live_entry t.live
    ++ (joined hole_entry t.holes
    ++ (joined zombie_entry t.zombies
    ++ (joined page_entry t.pages
    ++ (joined root_entry t.roots
    ++ counter_entry t.fields.counter)))))

-- A closed pool is `t-none` alone; a stopped one has its tables as any other.
unfoldable pub tables_text : Pool → List ℕ
tables_text p = cond (eqb p.state closed) none_entry (entries (tables_of p))
