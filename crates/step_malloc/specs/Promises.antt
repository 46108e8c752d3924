-- What the steps of malloc need and promise.
use Rattle.std.specs.Prelude.{Result, ℕ, ◌+◌, ◌*◌, ◌<◌}
use Rattle.std.proofs.Math.Option.{none}
use Rattle.tables.specs.Bounds.{IDS, SPANS, ZOMBIES}
use Rattle.tables.specs.Values.{tables_of}
use Rattle.tables.specs.Kept.{KeptPool}
use Rattle.tables.specs.Steps.{on, ◌>>=◌}
use Rattle.tables.specs.Malloc.{or_room, hand_over}
use Rattle.tables.specs.declared.FreeRegion.{FreeRegion}
use Rattle.tables.specs.declared.Pool.{Pool}
use Rattle.keeping.specs.Malloc.{Asked, Handing}
use Rattle.tables.specs.declared.Outcome.{Outcome}
use Rattle.driving.specs.Endings.{ending}
use Rattle.driving.specs.Pools.{PoolRan}
use Rattle.driving.specs.declared.Driver.{Driver}
use Rattle.step_make_room.specs.Promises.{make_room_calls}

-- The most driver calls of malloc: each zombie is asked after and unmapped, each free region is asked after, and room is made.
abbrev pub malloc_calls : ℕ
malloc_calls = 2 * ZOMBIES + SPANS + make_room_calls

-- The pool is kept, with an id to spare and a span, and the size is of whole pages.
pub record Mallocable (n : ℕ) (p : Pool) : Type 0 where
  pub tables : KeptPool p
  pub ids : p.counter < IDS
  pub lost : ℕ → ℕ
  pub asked : Asked lost n (tables_of p)

-- `n` bytes of the region can be handed over.
pub record Handable (n : ℕ) (r : FreeRegion) (p : Pool) : Type 0 where
  pub tables : KeptPool p
  pub lost : ℕ → ℕ
  pub due : Handing lost n r (tables_of p)

-- What is left once `n` bytes of the region are handed over on stream `s`, with no driver call.
pub record HandsOut (n s : ℕ) (r : FreeRegion) (p : Pool) (o : Outcome) (q : Pool) : Type 0 where
  pub walked : (d : Driver) → PoolRan (hand_over n s r) 0 d p (on o) d q

-- No fit: room is made and handed over, or the call ended.
abbrev pub RoomsOut : ℕ → ℕ → Driver → Pool → Result Outcome Outcome → Driver → Pool → Type 0
RoomsOut n s d p r d' q = PoolRan (or_room n s none >>= λ x. hand_over n s x) make_room_calls d p (ending r) d' q
