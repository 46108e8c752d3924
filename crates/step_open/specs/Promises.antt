-- How many driver calls open takes.
use Rattle.std.specs.Prelude.{ℕ, ◌+◌}
use Rattle.step_make_room.specs.Promises.{make_room_calls}

-- The most driver calls of open: the root is reserved, room is made, the stream is synced.
abbrev pub open_calls : ℕ
open_calls = 1 + make_room_calls + 1
