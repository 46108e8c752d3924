-- docs/RULES.md 12.6: a layer is well formed where its pool is, and what it adds to it.
use Rattle.std.specs.Prelude.{Bool, ◌&&◌, ◌||◌, not, map, ℕ, ◌+◌, ltb, leb, eqb}
use Rattle.lists.specs.Tests.{every, distinct}
use Rattle.lists.specs.Walks.{sum}
use Rattle.tables.specs.Values.{stopped, at_entry}
use Rattle.tables.specs.WellFormed as Pool
use Rattle.manager_rules.specs.Values.{SMALLS, small}
use Rattle.manager_rules.specs.declared.Manager.{Manager}

-- no pointer is 0, and none is held twice
abbrev pub pointers_nonzero : Manager → Bool
pointers_nonzero m = every (λ b. not (eqb b.pointer 0)) (small m)

abbrev pub pointers_distinct : Manager → Bool
pointers_distinct m = distinct (map (λ b. b.pointer) (small m))

-- a small buffer has at least a byte, and fewer than a page
abbrev pub sizes_small : Manager → Bool
sizes_small m = every (λ b. leb 1 b.size && ltb b.size m.pool.page) (small m)

-- the bytes of small buffers, and of the pool's live ones
abbrev pub small_bytes : Manager → ℕ
small_bytes m = sum (λ b. b.size) (small m)

abbrev pub live_bytes : Manager → ℕ
live_bytes m = sum (λ b. b.size) (at_entry m.pool).live

-- current is what is held
abbrev pub current_held : Manager → Bool
current_held m = eqb m.current (small_bytes m + live_bytes m)

unfoldable pub own_sound : Manager → Bool
own_sound m = pointers_nonzero m && (pointers_distinct m && (sizes_small m && (current_held m && leb m.current m.highest)))

-- Of a stopped layer only the counts are tested.
unfoldable pub own_kept : Manager → Bool
own_kept m = leb m.small.count SMALLS && (eqb m.pool.state stopped || own_sound m)

abbrev pub well_formed : Manager → Bool
well_formed m = Pool.well_formed m.pool && own_kept m
