-- docs/RULES.md 1.3, 1.4: the values that the rules speak of. A pool's tables are lists here.
use Rattle.std.specs.Prelude.{List, [], ℕ}
use Rattle.lists.specs.Order.{sorted}
use Rattle.cells.specs.Table.{entries, pack}
use Rattle.cells.specs.declared.Table.{Table}
use Rattle.words.specs.declared.Address.{Address}
use Rattle.tables.specs.Bounds.{HOLES, PAGES, ROOTS, SPANS, ZOMBIES}
use Rattle.tables.specs.declared.FreeRegion.{FreeRegion}
use Rattle.tables.specs.declared.LiveBuffer.{LiveBuffer}
use Rattle.tables.specs.declared.Hole.{Hole}
use Rattle.tables.specs.declared.Zombie.{Zombie}
use Rattle.tables.specs.declared.Page.{Page}
use Rattle.tables.specs.declared.Pool.{Pool}

abbrev pub address : ℕ → Address
address a = record { 0 = a }

abbrev pub region : ℕ → ℕ → ℕ → ℕ → FreeRegion
region a n s i = record { start = address a; size = n; stream = s; id = record { 0 = i } }

abbrev pub buffer : ℕ → ℕ → ℕ → LiveBuffer
buffer a n s = record { start = address a; size = n; stream = s }

abbrev pub hole : ℕ → ℕ → Hole
hole a n = record { start = address a; size = n }

abbrev pub zombie : ℕ → ℕ → ℕ → Zombie
zombie a n i = record { start = address a; size = n; id = record { 0 = i } }

abbrev pub page : ℕ → ℕ → Page
page a h = record { start = address a; handle = record { 0 = h } }

-- The zero cell of each table.
abbrev pub empty_region : FreeRegion
empty_region = region 0 0 0 0

abbrev pub empty_buffer : LiveBuffer
empty_buffer = buffer 0 0 0

abbrev pub empty_hole : Hole
empty_hole = hole 0 0

abbrev pub empty_zombie : Zombie
empty_zombie = zombie 0 0 0

abbrev pub empty_page : Page
empty_page = page 0 0

abbrev pub empty_root : Address
empty_root = address 0

-- What a pool holds beside its tables: page size, va_size and the id counter.
pub record Fields : Type 0 where
  pub page : ℕ
  pub va : ℕ
  pub counter : ℕ

abbrev pub fields : ℕ → ℕ → ℕ → Fields
fields page va counter = record { page = page; va = va; counter = counter }

pub record Tables : Type 0 where
  pub fields : Fields
  pub free : List FreeRegion
  pub live : List LiveBuffer
  pub holes : List Hole
  pub zombies : List Zombie
  pub pages : List Page
  pub roots : List Address

-- The six tables, each with its ceiling.
abbrev pub FreeRegions : Type 0
FreeRegions = Table FreeRegion SPANS

abbrev pub LiveBuffers : Type 0
LiveBuffers = Table LiveBuffer SPANS

abbrev pub Holes : Type 0
Holes = Table Hole HOLES

abbrev pub Zombies : Type 0
Zombies = Table Zombie ZOMBIES

abbrev pub Pages : Type 0
Pages = Table Page PAGES

abbrev pub Roots : Type 0
Roots = Table Address ROOTS

-- A table and its list: the first cells, as many as its count; every other cell of a table that a call leaves is 0.
abbrev pub free_of : FreeRegions → List FreeRegion
free_of = entries

abbrev pub pack_free : List FreeRegion → FreeRegions
pack_free = pack empty_region

abbrev pub live_of : LiveBuffers → List LiveBuffer
live_of = entries

abbrev pub pack_live : List LiveBuffer → LiveBuffers
pack_live = pack empty_buffer

abbrev pub holes_of : Holes → List Hole
holes_of = entries

abbrev pub pack_holes : List Hole → Holes
pack_holes = pack empty_hole

abbrev pub zombies_of : Zombies → List Zombie
zombies_of = entries

abbrev pub pack_zombies : List Zombie → Zombies
pack_zombies = pack empty_zombie

abbrev pub pages_of : Pages → List Page
pages_of = entries

abbrev pub pack_pages : List Page → Pages
pack_pages = pack empty_page

abbrev pub roots_of : Roots → List Address
roots_of = entries

abbrev pub pack_roots : List Address → Roots
pack_roots = pack empty_root

-- The tables of a pool.
unfoldable pub tables_of : Pool → Tables
tables_of p =
    record {
      fields = fields p.page p.va p.counter;
      free = free_of p.free;
      live = live_of p.live;
      holes = holes_of p.holes;
      zombies = zombies_of p.zombies;
      pages = pages_of p.pages;
      roots = roots_of p.roots;
    }

-- Free, live, holes and pages are sets, read in ascending address; the order of zombies and roots counts.
unfoldable pub in_order : Tables → Tables
in_order t =
    record {
      fields = t.fields;
      free = sorted (λ r. r.start.0) t.free;
      live = sorted (λ b. b.start.0) t.live;
      holes = sorted (λ h. h.start.0) t.holes;
      zombies = t.zombies;
      pages = sorted (λ g. g.start.0) t.pages;
      roots = t.roots;
    }

-- What a call reads at entry.
abbrev pub at_entry : Pool → Tables
at_entry p = in_order (tables_of p)

abbrev pub closed : ℕ
closed = 0

abbrev pub opened : ℕ
opened = 1

abbrev pub stopped : ℕ
stopped = 2

-- The pool that a call leaves.
unfoldable pub pool_of : ℕ → Tables → Pool
pool_of state t =
    record {
      state = state;
      page = t.fields.page;
      va = t.fields.va;
      counter = t.fields.counter;
      free = pack_free t.free;
      live = pack_live t.live;
      holes = pack_holes t.holes;
      zombies = pack_zombies t.zombies;
      pages = pack_pages t.pages;
      roots = pack_roots t.roots;
    }

abbrev pub no_tables : ℕ → ℕ → Tables
no_tables page va =
    record { fields = fields page va 0; free = []; live = []; holes = []; zombies = []; pages = []; roots = [] }

-- The closed pool: 0 in every number and cell (docs/RULES.md 4.5).
abbrev pub closed_pool : Pool
closed_pool = pool_of closed (no_tables 0 0)

-- One table changed.
abbrev pub with_free : List FreeRegion → Tables → Tables
with_free l t =
    record { fields = t.fields; free = l; live = t.live; holes = t.holes; zombies = t.zombies; pages = t.pages; roots = t.roots }

abbrev pub with_live : List LiveBuffer → Tables → Tables
with_live l t =
    record { fields = t.fields; free = t.free; live = l; holes = t.holes; zombies = t.zombies; pages = t.pages; roots = t.roots }

abbrev pub with_holes : List Hole → Tables → Tables
with_holes l t =
    record { fields = t.fields; free = t.free; live = t.live; holes = l; zombies = t.zombies; pages = t.pages; roots = t.roots }

abbrev pub with_zombies : List Zombie → Tables → Tables
with_zombies l t =
    record { fields = t.fields; free = t.free; live = t.live; holes = t.holes; zombies = l; pages = t.pages; roots = t.roots }

abbrev pub with_pages : List Page → Tables → Tables
with_pages l t =
    record { fields = t.fields; free = t.free; live = t.live; holes = t.holes; zombies = t.zombies; pages = l; roots = t.roots }

abbrev pub with_roots : List Address → Tables → Tables
with_roots l t =
    record { fields = t.fields; free = t.free; live = t.live; holes = t.holes; zombies = t.zombies; pages = t.pages; roots = l }

abbrev pub with_counter : ℕ → Tables → Tables
with_counter n t =
    record { fields = fields t.fields.page t.fields.va n; free = t.free; live = t.live; holes = t.holes; zombies = t.zombies; pages = t.pages; roots = t.roots }
