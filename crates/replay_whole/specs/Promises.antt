-- What replay leaves in a lent buffer.
use Rattle.std.specs.Prelude.{◌≡◌, List, [], ◌++◌, ℕ, min, leb, length, take, drop}
use Rattle.trace.specs.Put.{Put}
use Rattle.replay_answers.specs.Promises.{Keeps}
use Rattle.calls.specs.declared.Pool.{Pool}
use Rattle.replay_rules.specs.Replay.{replayed}
use Rattle.replay_waiting.specs.Places.{todo}
use Rattle.replay_waiting.specs.declared.Place.{Place}
use Rattle.replay_whole.specs.declared.Replayed.{Replayed}

-- What fits of `text` stands from the start on, and no byte behind it changes: the buffer `out` becomes `out'`.
pub record Fits (text out out' : List ℕ) (r : Replayed) : Type 0 where
  pub whole : r.whole ≡ leb (length text) (length out)
  pub written : r.written ≡ min (length text) (length out)
  pub bytes : out' ≡ take r.written text ++ drop r.written out

-- What fits of all that replay prints for the input.
abbrev pub Replays : List ℕ → List ℕ → List ℕ → Replayed → Type 0
Replays input = Fits (replayed input)

-- A piece goes behind any text that stands whole in the first `at` bytes.
pub record Adds (piece : List ℕ) (at : ℕ) (out out' : List ℕ) (r : Replayed) : Type 0 where
  pub adds : (text before : List ℕ) → Put before out 0 at text → Fits (text ++ piece) before out' r

-- The end of the input: what is still to be printed goes there.
pub record Ends (p : Pool) (s : Place) (cells : List ℕ) (at : ℕ) (out out' : List ℕ) (r : Replayed) : Type 0 where
  pub ends : (xs : List ℕ) → Keeps cells s.count xs → Adds (todo (λ q. []) p.value s xs []) at out out' r
