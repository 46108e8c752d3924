-- What `gather` does with a chunk, whatever may follow it.
use Rattle.std.specs.Prelude.{◌≡◌, true, cond, List, [], ◌∷◌, ◌++◌, ℕ, ◌+◌, ◌*◌, ◌≤◌, ◌<◌, length, take, drop}
use Rattle.trace.specs.Chunks.{lines_from}
use Rattle.trace.specs.Machine.{fresh}
use Rattle.trace.specs.declared.Line.{Line}
use Rattle.trace.specs.declared.Partial.{Partial}
use Rattle.trace.specs.declared.Reading.{Reading}
use Rattle.trace.specs.declared.Reading.TheVariants.{Good}
use Rattle.trace.specs.declared.Reading.TheVariants as readings
use Rattle.replay_answers.specs.Lending.{is_driver, is_call, answer_in, passed}
use Rattle.replay_answers.specs.declared.Gathered.{Gathered}
use Rattle.replay_answers.specs.declared.Stop.{Stop}
use Rattle.replay_answers.specs.declared.Stop.TheVariants.{More, Call, Malformed}

-- answers that are kept of a call, each a pair of numbers: it can take no more than its log has records
abbrev pub KEPT : ℕ
KEPT = 2048

-- cells for the answers of a call, of which `count` are lent
pub record Room (cells : List ℕ) (count : ℕ) : Type 0 where
  pub few : count ≤ KEPT
  pub room : length cells ≡ 2 * KEPT

-- The first `count` pairs of the cells are what is kept of the answers `xs`.
pub record Keeps (cells : List ℕ) (count : ℕ) (xs : List ℕ) : Type 0 where
  pub room : length cells ≡ 2 * KEPT
  pub few : count ≤ KEPT
  pub front : take (2 * count) cells ≡ take (2 * KEPT) xs

-- A driver line adds its answer to those that are lent, a line that is passed over none.
abbrev pub lent_by : Line → List ℕ → List ℕ
lent_by l xs = cond (is_driver l) (xs ++ answer_in l) xs

pub record Lends (l : Line) (cells : List ℕ) (count : ℕ) (cells' : List ℕ) (count' : ℕ) : Type 0 where
  pub keeps : (xs : List ℕ) → Keeps cells count xs → Keeps cells' count' (lent_by l xs)
  pub few : count' ≤ KEPT

-- what is still to be read, with the line that stopped it in front
abbrev pub ahead : Stop → Partial → List ℕ → List Reading
ahead More p l = lines_from p l
ahead (Call c) p l = Good c ∷ lines_from fresh l
ahead Malformed p l = readings.Malformed ∷ lines_from fresh l

-- the line feed of the line that stopped it
abbrev pub feeds : Stop → ℕ
feeds More = 0
feeds (Call c) = 1
feeds Malformed = 1

-- a line that stopped it is a call: neither the driver's nor passed over
abbrev pub Calls : Stop → Type 0
Calls More = Unit {0}
Calls (Call c) = is_call c ≡ true
Calls Malformed = Unit {0}

-- a chunk that ends with a line feed
pub record Fed (chunk : List ℕ) : Type 0 where
  pub front : List ℕ
  pub is : chunk ≡ front ++ (10 ∷ [])

-- Whatever follows the chunk, and whatever the answers lent before: the lines come to the same, read from the start or from where it stopped.
pub record Took (p : Partial) (n : ℕ) (chunk : List ℕ) (at : ℕ) (xs cells : List ℕ) (r : Gathered) : Type 0 where
  pub answers : List ℕ
  pub keeps : Keeps cells r.count answers
  pub same : (more : List ℕ) → passed xs n (lines_from p (drop at chunk ++ more)) ≡ passed answers r.line (ahead r.stop r.partial (drop r.at chunk ++ more))

pub record Gathers (p : Partial) (n : ℕ) (chunk : List ℕ) (at : ℕ) (cells : List ℕ) (count : ℕ) (cells' : List ℕ) (r : Gathered) : Type 0 where
  pub within : r.at ≤ length chunk
  pub moved : at < length chunk → at < r.at
  pub counted : feeds r.stop + (r.line + at) ≤ n + r.at
  pub lines : n ≤ r.line
  pub few : r.count ≤ KEPT
  pub all : r.stop ≡ More → r.at ≡ length chunk
  pub calls : Calls r.stop
  pub fed : Fed chunk → at < length chunk → r.partial ≡ fresh
  pub takes : (xs : List ℕ) → Keeps cells count xs → Took p n chunk at xs cells' r
