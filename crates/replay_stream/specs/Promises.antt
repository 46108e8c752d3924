-- What the pump keeps to, whatever it reads.
use Rattle.std.specs.Prelude.{ℕ, ◌+◌, ◌≤◌}
use Rattle.replay_waiting.specs.Places.{Stands}
use Rattle.replay_waiting.specs.declared.Place.{Place}

-- Where the run stands after so many bytes more: each counts at most one line.
pub record Reads (s : Place) (count : ℕ) (t : Place) : Type 0 where
  pub stands : Stands t
  pub lines : t.line ≤ s.line + count
