-- What the counting of a line promises of the counts and of their tables.
use Rattle.std.specs.Prelude.{◌≡◌, List, ◌∷◌, ℕ, ◌+◌, ◌<◌, length, get_or}
use Rattle.trace.specs.declared.Line.{Line}
use Rattle.judge_rules.specs.SoFar.{call}
use Rattle.judge_rules.specs.declared.Call.{Call}
use Rattle.summary_counts.specs.Counts.{
  counted,
  first_at,
  counts_of,
  firsts_of,
  answer_place,
  failure_place,
  live_bytes,
  mapped_bytes,
  peak,
}
use Rattle.summary_counts.specs.declared.tallies.Counts.{Counts}

-- a table holds at each place how many lines stand there; the number of the first
abbrev pub Tally : (Line → List Line → ℕ) → List ℕ → List Line → Type 0
Tally at t h = (n : ℕ) → n < length t → get_or t n 0 ≡ counted at n h

abbrev pub Firsts : (Line → List Line → ℕ) → List ℕ → List Line → Type 0
Firsts at t h = (n : ℕ) → n < length t → get_or t n 0 ≡ first_at at n h

-- every number is 0
abbrev pub Zeros : List ℕ → Type 0
Zeros t = (i : ℕ) → get_or t i 0 ≡ 0

-- before the first line
pub record NoneYet (c : Counts) : Type 0 where
  pub lines : c.lines ≡ 0
  pub live : c.live ≡ record { most = 0; line = 0 }
  pub mapped : c.mapped ≡ record { most = 0; line = 0 }
  pub answers : Zeros (counts_of c.answers)
  pub firsts : Zeros (firsts_of c.answers)
  pub failures : Zeros c.failures

-- The promises: the counts and their tables say what the definitions say of the lines `h`;
pub record Tells (c : Counts) (h : List Line) : Type 0 where
  pub lines : c.lines ≡ length h
  pub live : c.live ≡ peak live_bytes h
  pub mapped : c.mapped ≡ peak mapped_bytes h
  pub answers : Tally answer_place (counts_of c.answers) h
  pub firsts : Firsts answer_place (firsts_of c.answers) h
  pub failures : Tally failure_place c.failures h

-- the line `l` in a call of `k`, behind which so much is live and mapped, makes `r` of `c`: whatever lines they told of, with this one more.
pub record Adds (c : Counts) (k : Call) (live mapped : ℕ) (l : Line) (r : Counts) : Type 0 where
  pub lines : r.lines ≡ c.lines + 1
  pub tells : (h : List Line) → k ≡ (call h).call → live ≡ live_bytes (l ∷ h) → mapped ≡ mapped_bytes (l ∷ h) → Tells c h → Tells r (l ∷ h)
