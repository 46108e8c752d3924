-- Which free regions count in a scan for the best, what it chooses, and what becomes of it.
use Rattle.std.specs.Prelude.{Bool, cond, ◌&&◌, List, map, ℕ, leb, eqb}
use Rattle.std.proofs.Math.Option.{Option}
use Rattle.tables.specs.InsertFree.{from}
use Rattle.tables.specs.Pull.{own_of}
use Rattle.tables.specs.Fit.{candidates, smallest, on_stream}
use Rattle.tables.specs.declared.FreeRegion.{FreeRegion}

-- at least `n` bytes, on stream `s`
abbrev pub suits : ℕ → ℕ → FreeRegion → Bool
suits n s q = leb n q.size && eqb q.stream s

-- the smallest of these, the lowest address on ties
abbrev pub smallest_own : ℕ → ℕ → List FreeRegion → Option FreeRegion
smallest_own n s l = smallest (own_of s (candidates n l))

-- the region that starts at `a` becomes stream `s`'s
abbrev pub taken_over : ℕ → ℕ → List FreeRegion → List FreeRegion
taken_over s a = map (λ q. cond (eqb (from q) a) (on_stream s q) q)
