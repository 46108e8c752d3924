-- How far a trace is judged, and what that says of the verdict on the whole, whatever follows.
use Rattle.std.specs.Prelude.{◌≡◌, List, [], ◌∷◌, ◌++◌, ℕ, ◌+◌, ◌≤◌, ◌<◌, ◌^◌, length, drop, Result, Ok, Err}
use Rattle.trace.specs.Machine.{fresh}
use Rattle.trace.specs.Chunks.{lines_from}
use Rattle.trace.specs.declared.Reading.{Reading}
use Rattle.judge_rules.specs.Verdict.{start, verdict_from}
use Rattle.judge_rules.specs.declared.Verdict.{Verdict}
use Rattle.judge_rules.specs.declared.Verdict.TheVariants.{Rejected, Large}
use Rattle.judge_steps.specs.State.{judge_of}
use Rattle.judge_steps.specs.declared.Fault.{Fault}
use Rattle.judge_steps.specs.declared.Fault.TheVariants.{Broken, Beyond}
use Rattle.judge_chunks.specs.declared.Progress.{Progress}

-- before the first byte
pub record IsStart (p : Progress) : Type 0 where
  pub lines : p.lines ≡ 0
  pub state : judge_of p.state ≡ start
  pub partial : p.partial ≡ fresh
  pub outcome : p.outcome ≡ Ok tt

-- line `n` was the last: the verdict, or where all is well that on what follows
abbrev pub settled : Result (Unit {0}) Fault → ℕ → Verdict → Verdict
settled (Ok u) n v = v
settled (Err (Broken rule)) n v = Rejected n rule
settled (Err (Beyond which)) n v = Large n which

-- the verdict on the whole, where these readings follow, and where these bytes do
abbrev pub verdict_on : Progress → List Reading → Verdict
verdict_on p xs = settled p.outcome p.lines (verdict_from p.lines (judge_of p.state) xs)

abbrev pub verdict_after : Progress → List ℕ → Verdict
verdict_after p bytes = verdict_on p (lines_from p.partial bytes)

-- What a line of a chunk finds, from place `at` on.
pub record TakesLine (p : Progress) (at : ℕ) (chunk : List ℕ) : Type 0 where
  pub well : p.outcome ≡ Ok tt
  pub inside : at < length chunk
  pub counted : p.lines + 1 < 2 ^ 64

-- The promises: `r` is what is made of `p`, by one reading;
pub record Judged (r p : Progress) (x : Reading) : Type 0 where
  pub lines : r.lines ≡ p.lines + 1
  pub partial : r.partial ≡ fresh
  pub says : (xs : List Reading) → verdict_on r xs ≡ verdict_from p.lines (judge_of p.state) (x ∷ xs)

-- by a line of a chunk from place `at` to before place `next`;
pub record Onward (r p : Progress) (at next : ℕ) (chunk : List ℕ) : Type 0 where
  pub moved : at < next
  pub within : next ≤ length chunk
  pub lines : r.lines ≤ p.lines + 1
  pub says : (rest : List ℕ) → verdict_after r (drop next chunk ++ rest) ≡ verdict_after p (drop at chunk ++ rest)

-- by a chunk: whatever follows, they say of it what is said of it behind the chunk;
pub record Feeds (r p : Progress) (chunk : List ℕ) : Type 0 where
  pub lines : r.lines ≤ p.lines + length chunk
  pub says : (rest : List ℕ) → verdict_after r rest ≡ verdict_after p (chunk ++ rest)

-- by the end of the input.
pub record Lasts (r p : Progress) : Type 0 where
  pub lines : r.lines ≤ p.lines + 1
  pub says : verdict_on r [] ≡ verdict_after p []

-- Chunk after chunk, and then the end: from `p` on, the chunks come to the verdict `r`.
pub data Comes (r : Verdict) : List (List ℕ) → Progress → Type 0 where
  ends : {p : Progress} → r ≡ verdict_after p [] → Comes r [] p
  feeds : {chunk : List ℕ} {chunks : List (List ℕ)} {p q : Progress} → Feeds q p chunk → Comes r chunks q → Comes r (chunk ∷ chunks) p
