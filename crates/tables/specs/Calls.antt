-- A call of the pool and what it answers. A new call is a constructor here, a rule of its own, and a line of `answer_by`.
use Rattle.std.specs.Prelude.{List, ℕ}
use Rattle.tables.specs.Steps.{Step}
use Rattle.tables.specs.HandsBack.{Reply}
use Rattle.tables.specs.Malloc.{malloc_by, malloc_steps}
use Rattle.tables.specs.Free.{free}
use Rattle.tables.specs.Close.{close}
use Rattle.tables.specs.declared.Pool.{Pool}
use Rattle.tables.specs.declared.Outcome.{Outcome}

pub data Call : Type 0 where
  -- bytes, stream
  mallocs : ℕ → ℕ → Call
  -- address
  frees : ℕ → Call
  closes : Call

-- Lent the answers `xs` and a log with room for `log` records. A malloc goes by `steps`, so that misreadings can be told apart.
abbrev pub answer_by : (ℕ → ℕ → Step Outcome) → Pool → Call → List ℕ → ℕ → Reply
answer_by steps p (mallocs n s) xs log = malloc_by steps p n s xs log
answer_by steps p (frees a) xs log = free p a xs log
answer_by steps p closes xs log = close p xs log

abbrev pub answer : Pool → Call → List ℕ → ℕ → Reply
answer = answer_by malloc_steps
