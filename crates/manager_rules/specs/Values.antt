-- docs/RULES.md 12.1: the layer's value. Its table is a list here.
use Rattle.std.specs.Prelude.{List, [], ℕ, ◌^◌}
use Rattle.cells.specs.Table.{entries, pack}
use Rattle.cells.specs.declared.Table.{Table}
use Rattle.tables.specs.Values.{closed_pool}
use Rattle.tables.specs.declared.Pool.{Pool}
use Rattle.manager_rules.specs.declared.SmallBuffer.{SmallBuffer}
use Rattle.manager_rules.specs.declared.Manager.{Manager}

abbrev pub SMALLS : ℕ
SMALLS = 128

-- the largest size that is asked of the pool
abbrev pub BYTES : ℕ
BYTES = 2 ^ 63

abbrev pub small_buffer : ℕ → ℕ → ℕ → SmallBuffer
small_buffer pointer size stream = record { pointer = pointer; size = size; stream = stream }

abbrev pub empty_small : SmallBuffer
empty_small = small_buffer 0 0 0

abbrev pub SmallBuffers : Type 0
SmallBuffers = Table SmallBuffer SMALLS

-- The table and its list, as with the pool's: the first cells, as many as its count; every other cell of a table that was changed is 0.
abbrev pub small_of : SmallBuffers → List SmallBuffer
small_of = entries

abbrev pub pack_small : List SmallBuffer → SmallBuffers
pack_small = pack empty_small

abbrev pub no_small : SmallBuffers
no_small = pack_small []

-- the small buffers that a layer holds
abbrev pub small : Manager → List SmallBuffer
small m = small_of m.small

abbrev pub with_pool : Manager → Pool → Manager
with_pool m p = record { pool = p; small = m.small; current = m.current; highest = m.highest }

-- The layer over a pool that was just opened, or that is closed: 0 in every number and cell of its own.
abbrev pub over : Pool → Manager
over p = record { pool = p; small = no_small; current = 0; highest = 0 }

abbrev pub closed_manager : Manager
closed_manager = over closed_pool
