-- What a turn of replay does, whatever may follow the chunk.
use Rattle.std.specs.Prelude.{◌≡◌, true, cond, List, [], ◌++◌, ℕ, ◌+◌, ◌*◌, ◌≤◌, ◌<◌, length, take, drop}
use Rattle.tables.specs.Bounds.{LOG}
use Rattle.tables.specs.declared.Pool as tables
use Rattle.trace.specs.declared.Line.{Line}
use Rattle.replay_answers.specs.Promises.{KEPT, Keeps, Fed}
use Rattle.replay_lines.specs.Traced.{longest_call}
use Rattle.calls.specs.Promises.{Replies}
use Rattle.calls.specs.declared.Pool.{Pool}
use Rattle.calls.specs.declared.Called.{Called}
use Rattle.replay_rules.specs.Replay.{Waiting, answered, ran}
use Rattle.replay_waiting.specs.Places.{is_ended, todo}
use Rattle.replay_waiting.specs.declared.Place.{Place}
use Rattle.replay_chunks.specs.declared.Ran.{Ran}
use Rattle.replay_chunks.specs.declared.Step.{Step}

-- Room for the answers of a call, for its log, and for its text.
pub record Buffers (answers log out : List ℕ) : Type 0 where
  pub pairs : length answers ≡ 2 * KEPT
  pub records : length log ≡ 4 * LOG
  pub text : length out ≡ longest_call

abbrev pub waiting_for : ℕ → Line → List ℕ → Waiting
waiting_for n l xs = record { number = n; call = l; answers = xs }

-- The call that waits is run on the answers `xs`.
pub record Runs (p : Pool) (l : Line) (xs log : List ℕ) (r : Called) (log' : List ℕ) : Type 0 where
  pub replies : (n : ℕ) → Replies (answered p.value (waiting_for n l xs)) r log log'

-- What is printed of the call, then what is shown of the pool, then what `rest` prints, is what the call prints and then `rest`: also with any answers `xs`
-- of which those that it was run on are kept.
pub record RunsDue (p : Pool) (l : Line) (n : ℕ) (kept out : List ℕ) (r : Ran) : Type 0 where
  pub filled : r.filled ≤ length out
  pub same : (xs : List ℕ) → kept ≡ take (2 * KEPT) xs → (show : tables.Pool → List ℕ) (rest : tables.Pool → List ℕ)
      → take r.filled out ++ cond r.shown (show r.pool.value ++ rest r.pool.value) [] ≡ ran show p.value (waiting_for n l xs) rest

-- Whatever follows the chunk: what the turn printed, what is shown of the pool after a result, and what is then to be printed, is what was to be printed.
pub record Turns (p : Pool) (s : Place) (chunk : List ℕ) (at : ℕ) (xs cells out : List ℕ) (r : Step) : Type 0 where
  pub answers : List ℕ
  pub keeps : Keeps cells r.place.count answers
  pub same : (show : tables.Pool → List ℕ) (more : List ℕ)
      → take r.filled out ++ (cond r.shown (show r.pool.value) [] ++ todo show r.pool.value r.place answers (drop r.at chunk ++ more))
      ≡ todo show p.value s xs (drop at chunk ++ more)

pub record Turned (p : Pool) (s : Place) (chunk : List ℕ) (at : ℕ) (cells cells' out : List ℕ) (r : Step) : Type 0 where
  pub within : r.at ≤ length chunk
  pub moved : at < r.at
  pub counted : r.place.line + at ≤ s.line + r.at
  pub lines : 1 ≤ r.place.line
  pub few : r.place.count ≤ KEPT
  pub filled : r.filled ≤ length out
  pub fed : Fed chunk → is_ended r.place ≡ true
  pub turns : (xs : List ℕ) → Keeps cells s.count xs → Turns p s chunk at xs cells' out r

-- At the end of the input, where no byte of a line is left: what is printed, and shown of the pool, is what was to be printed.
pub record Lasts (p : Pool) (s : Place) (cells out : List ℕ) (r : Ran) : Type 0 where
  pub filled : r.filled ≤ length out
  pub same : (xs : List ℕ) → Keeps cells s.count xs → is_ended s ≡ true → (show : tables.Pool → List ℕ)
      → take r.filled out ++ cond r.shown (show r.pool.value) [] ≡ todo show p.value s xs []
