-- Where replay stands, and what is then still to be printed.
use Rattle.std.specs.Prelude.{Option, Some, None, Bool, true, false, cond, ◌||◌, List, [], ℕ, ◌+◌, ◌≤◌}
use Rattle.tables.specs.declared.Pool.{Pool}
use Rattle.trace.specs.Chunks.{lines_from}
use Rattle.trace.specs.Machine.{fresh, is_fresh}
use Rattle.trace.specs.declared.Line.{Line}
use Rattle.trace.specs.declared.Partial.{Partial}
use Rattle.trace.specs.declared.Reading.{Reading}
use Rattle.replay_answers.specs.Promises.{KEPT}
use Rattle.replay_rules.specs.Replay.{Waiting, replay_from, replay_lines}
use Rattle.replay_waiting.specs.declared.Pending.{Pending}
use Rattle.replay_waiting.specs.declared.Place.{Place}

abbrev pub first_place : Place
first_place = record { partial = fresh; line = 1; pending = None; count = 0; over = false }

abbrev pub waiting_at : Line → ℕ → Place
waiting_at call number = record { partial = fresh; line = number + 1; pending = Some (record { call = call; number = number }); count = 0; over = false }

abbrev pub reading_at : Place → Partial → ℕ → ℕ → Place
reading_at s p n count = record { partial = p; line = n; pending = s.pending; count = count; over = s.over }

abbrev pub over_at : ℕ → ℕ → Place
over_at n count = record { partial = fresh; line = n; pending = None; count = count; over = true }

-- lines are counted from 1, and no more answers are lent than are kept
pub record Stands (s : Place) : Type 0 where
  pub line : 1 ≤ s.line
  pub few : s.count ≤ KEPT

-- the call that waits, with the answers `xs`
abbrev pub waiting_of : Pending → List ℕ → Waiting
waiting_of w xs = record { number = w.number; call = w.call; answers = xs }

-- no byte of a line is left to be taken account of
abbrev pub is_ended : Place → Bool
is_ended s = s.over || is_fresh s.partial

-- what is still to be printed for lines, the first of which is an open's where no call waits
abbrev pub lines_todo : (Pool → List ℕ) → Pool → Option Pending → List ℕ → ℕ → List Reading → List ℕ
lines_todo show p None xs n ls = replay_lines show p ls
lines_todo show p (Some w) xs n ls = replay_from show p (waiting_of w xs) n ls

-- What is still to be printed where `l` is still to be read, with the pool `p` and the answers `xs` lent to the waiting call.
unfoldable pub todo : (Pool → List ℕ) → Pool → Place → List ℕ → List ℕ → List ℕ
todo show p s xs l = cond s.over [] (lines_todo show p s.pending xs s.line (lines_from s.partial l))
