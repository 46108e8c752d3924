-- A table and its list: packing is undone by reading, a kept table is its list packed, the packing of a list is kept, and a cell in use is the list's
-- element.
use mathlib.Core.Path.{◌≡◌, refl}
use mathlib.Core.List.{List}
use Prim.Native.Nat.{ℕ, ◌≤◌, ◌<◌}
use lib.ListN.{length, get_or, replicate}
use Rattle.cells.proofs.Packs.{entries_pack, whole, count_is, cell_is, kept, packed_count}
use Rattle.words.specs.declared.Address.{Address}
use Rattle.cells.specs.Table.{entries, pack}
use Rattle.tables.specs.Bounds.{HOLES, PAGES, ROOTS, SPANS, ZOMBIES}
use Rattle.tables.specs.Values.{Tables, tables_of, pool_of, closed_pool, free_of, pack_free, live_of, pack_live, holes_of, pack_holes, zombies_of, pack_zombies, pages_of, pack_pages, roots_of, pack_roots, empty_root, empty_buffer, empty_hole, empty_page, empty_region, empty_zombie}
use Rattle.tables.specs.Kept.{KeptFree, KeptLive, KeptHoles, KeptZombies, KeptPages, KeptRoots, KeptPool}
use Rattle.tables.specs.declared.FreeRegion.{FreeRegion}
use Rattle.tables.specs.Values.{FreeRegions}
use Rattle.tables.specs.declared.LiveBuffer.{LiveBuffer}
use Rattle.tables.specs.Values.{LiveBuffers}
use Rattle.tables.specs.declared.Hole.{Hole}
use Rattle.tables.specs.Values.{Holes}
use Rattle.tables.specs.declared.Zombie.{Zombie}
use Rattle.tables.specs.Values.{Zombies}
use Rattle.tables.specs.declared.Page.{Page}
use Rattle.tables.specs.Values.{Pages}
use Rattle.tables.specs.Values.{Roots}
use Rattle.tables.specs.declared.Pool.{Pool}

-- The laws of `cells`, by the name of each table.
pub free_pack : (l : List FreeRegion) → free_of (pack_free l) ≡ l
free_pack = entries_pack SPANS empty_region

pub free-whole : (t : FreeRegions) → KeptFree t → t ≡ pack_free (free_of t)
free-whole = whole empty_region

pub free-count : (t : FreeRegions) → KeptFree t → t.count ≡ length (free_of t)
free-count = count_is empty_region

pub free_cell : (t : FreeRegions) (i : ℕ) → i < t.count → get_or (free_of t) i empty_region ≡ get_or t.cells i empty_region
free_cell = cell_is empty_region

pub free-kept : (l : List FreeRegion) → length l ≤ SPANS → KeptFree (pack_free l)
free-kept = kept empty_region

pub free-packed-count : (l : List FreeRegion) → (pack_free l).count ≡ length l
free-packed-count = packed_count SPANS empty_region

pub live_pack : (l : List LiveBuffer) → live_of (pack_live l) ≡ l
live_pack = entries_pack SPANS empty_buffer

pub live-whole : (t : LiveBuffers) → KeptLive t → t ≡ pack_live (live_of t)
live-whole = whole empty_buffer

pub live-count : (t : LiveBuffers) → KeptLive t → t.count ≡ length (live_of t)
live-count = count_is empty_buffer

pub live_cell : (t : LiveBuffers) (i : ℕ) → i < t.count → get_or (live_of t) i empty_buffer ≡ get_or t.cells i empty_buffer
live_cell = cell_is empty_buffer

pub live-kept : (l : List LiveBuffer) → length l ≤ SPANS → KeptLive (pack_live l)
live-kept = kept empty_buffer

pub holes_pack : (l : List Hole) → holes_of (pack_holes l) ≡ l
holes_pack = entries_pack HOLES empty_hole

pub holes-whole : (t : Holes) → KeptHoles t → t ≡ pack_holes (holes_of t)
holes-whole = whole empty_hole

pub holes-count : (t : Holes) → KeptHoles t → t.count ≡ length (holes_of t)
holes-count = count_is empty_hole

pub holes_cell : (t : Holes) (i : ℕ) → i < t.count → get_or (holes_of t) i empty_hole ≡ get_or t.cells i empty_hole
holes_cell = cell_is empty_hole

pub holes-kept : (l : List Hole) → length l ≤ HOLES → KeptHoles (pack_holes l)
holes-kept = kept empty_hole

pub holes-packed-count : (l : List Hole) → (pack_holes l).count ≡ length l
holes-packed-count = packed_count HOLES empty_hole

pub zombies_pack : (l : List Zombie) → zombies_of (pack_zombies l) ≡ l
zombies_pack = entries_pack ZOMBIES empty_zombie

pub zombies-whole : (t : Zombies) → KeptZombies t → t ≡ pack_zombies (zombies_of t)
zombies-whole = whole empty_zombie

pub zombies-count : (t : Zombies) → KeptZombies t → t.count ≡ length (zombies_of t)
zombies-count = count_is empty_zombie

pub zombies_cell : (t : Zombies) (i : ℕ) → i < t.count → get_or (zombies_of t) i empty_zombie ≡ get_or t.cells i empty_zombie
zombies_cell = cell_is empty_zombie

pub zombies-kept : (l : List Zombie) → length l ≤ ZOMBIES → KeptZombies (pack_zombies l)
zombies-kept = kept empty_zombie

pub zombies-packed-count : (l : List Zombie) → (pack_zombies l).count ≡ length l
zombies-packed-count = packed_count ZOMBIES empty_zombie

pub pages_pack : (l : List Page) → pages_of (pack_pages l) ≡ l
pages_pack = entries_pack PAGES empty_page

pub pages-whole : (t : Pages) → KeptPages t → t ≡ pack_pages (pages_of t)
pages-whole = whole empty_page

pub pages-count : (t : Pages) → KeptPages t → t.count ≡ length (pages_of t)
pages-count = count_is empty_page

pub pages_cell : (t : Pages) (i : ℕ) → i < t.count → get_or (pages_of t) i empty_page ≡ get_or t.cells i empty_page
pages_cell = cell_is empty_page

pub pages-kept : (l : List Page) → length l ≤ PAGES → KeptPages (pack_pages l)
pages-kept = kept empty_page

pub pages-packed-count : (l : List Page) → (pack_pages l).count ≡ length l
pages-packed-count = packed_count PAGES empty_page

pub roots_pack : (l : List Address) → roots_of (pack_roots l) ≡ l
roots_pack = entries_pack ROOTS empty_root

pub roots-whole : (t : Roots) → KeptRoots t → t ≡ pack_roots (roots_of t)
roots-whole = whole empty_root

pub roots-count : (t : Roots) → KeptRoots t → t.count ≡ length (roots_of t)
roots-count = count_is empty_root

pub roots_kept : (l : List Address) → length l ≤ ROOTS → KeptRoots (pack_roots l)
roots_kept = kept empty_root

-- a pool's tables are those that were put into it
pub tables-pool : (state : ℕ) (t : Tables) → tables_of (pool_of state t) ≡ t
unfolding tables_of pool_of
tables-pool state t =
    λ i. record {
      fields = t.fields;
      free = free_pack t.free i;
      live = live_pack t.live i;
      holes = holes_pack t.holes i;
      zombies = zombies_pack t.zombies i;
      pages = pages_pack t.pages i;
      roots = roots_pack t.roots i;
    }

-- a pool of kept tables is what its tables make
pub pool-whole : (p : Pool) → KeptPool p → p ≡ pool_of p.state (tables_of p)
unfolding tables_of pool_of
pool-whole p k =
    λ i. record {
      state = p.state;
      page = p.page;
      va = p.va;
      counter = p.counter;
      free = free-whole p.free k.free i;
      live = live-whole p.live k.live i;
      holes = holes-whole p.holes k.holes i;
      zombies = zombies-whole p.zombies k.zombies i;
      pages = pages-whole p.pages k.pages i;
      roots = roots-whole p.roots k.roots i;
    }

-- a closed pool is all 0: no cell is in use, and every cell is 0
pub closed-is-zero :
    closed_pool ≡
    record {
      state = 0;
      page = 0;
      va = 0;
      counter = 0;
      free = record { cells = replicate SPANS empty_region; count = 0 };
      live = record { cells = replicate SPANS empty_buffer; count = 0 };
      holes = record { cells = replicate HOLES empty_hole; count = 0 };
      zombies = record { cells = replicate ZOMBIES empty_zombie; count = 0 };
      pages = record { cells = replicate PAGES empty_page; count = 0 };
      roots = record { cells = replicate ROOTS empty_root; count = 0 };
    }
unfolding pool_of pack
closed-is-zero = refl
