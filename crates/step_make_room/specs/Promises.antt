-- What the refusals before room is made read and promise, and how many driver calls making room takes.
use Rattle.std.specs.Prelude.{◌≡◌, Result, List, ℕ, ◌+◌}
use Rattle.tables.specs.Values.{tables_of}
use Rattle.tables.specs.Kept.{KeptPool}
use Rattle.tables.specs.MakeRoom.{missing}
use Rattle.tables.specs.Malloc.{room_refused}
use Rattle.tables.specs.declared.Outcome.{Outcome}
use Rattle.tables.specs.declared.Pool.{Pool}
use Rattle.keeping.specs.Sound.{Kept}
use Rattle.driving.specs.Ran.{Ran, point}
use Rattle.driving.specs.Endings.{ending}
use Rattle.step_new_room.specs.Promises.{take_room_calls}
use Rattle.step_pull_in.specs.Promises.{pull_in_calls}

-- The most driver calls of making room: the room is taken; access and record for its new pages; regions are pulled in.
abbrev pub make_room_calls : ℕ
make_room_calls = take_room_calls + 2 + pull_in_calls

-- What the refusals read: a pool that is kept; of `n` bytes `m` are missing.
pub record Readable (n m : ℕ) (p : Pool) : Type 0 where
  pub tables : KeptPool p
  pub lost : ℕ → ℕ
  pub kept : Kept lost (tables_of p)
  pub lacks : m ≡ missing n (tables_of p)

-- 8 to 11, of a pool, with no driver call.
pub record Refuses (n : ℕ) (p : Pool) (r : Result (Unit {0}) Outcome) : Type 0 where
  pub ran : (xs : List ℕ) (k : ℕ) (l : List ℕ) → Ran (room_refused n) xs (point k (tables_of p) l) (ending r) (point k (tables_of p) l)
