-- What each table is below the entry points: its count within the ceiling, and 0 in every cell past it.
use Rattle.cells.specs.Table.{Kept}
use Rattle.tables.specs.Values.{FreeRegions, LiveBuffers, Holes, Zombies, Pages, Roots, empty_root, empty_buffer, empty_hole, empty_page, empty_region, empty_zombie}
use Rattle.tables.specs.declared.Pool.{Pool}

abbrev pub KeptFree : FreeRegions → Type 0
KeptFree = Kept empty_region

abbrev pub KeptLive : LiveBuffers → Type 0
KeptLive = Kept empty_buffer

abbrev pub KeptHoles : Holes → Type 0
KeptHoles = Kept empty_hole

abbrev pub KeptZombies : Zombies → Type 0
KeptZombies = Kept empty_zombie

abbrev pub KeptPages : Pages → Type 0
KeptPages = Kept empty_page

abbrev pub KeptRoots : Roots → Type 0
KeptRoots = Kept empty_root

pub record KeptPool (p : Pool) : Type 0 where
  pub free : KeptFree p.free
  pub live : KeptLive p.live
  pub holes : KeptHoles p.holes
  pub zombies : KeptZombies p.zombies
  pub pages : KeptPages p.pages
  pub roots : KeptRoots p.roots
