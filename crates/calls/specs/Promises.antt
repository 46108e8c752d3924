-- docs/RULES.md 11.1: what a call hands back, as its rule says.
use Rattle.std.specs.Prelude.{◌≡◌, List, ℕ, ◌/◌, length}
use Rattle.words.specs.Log.{written}
use Rattle.words.specs.declared.Address.{Address}
use Rattle.tables.specs.HandsBack.{Reply}
use Rattle.tables.specs.Open.{open_pool}
use Rattle.tables.specs.Calls.{Call, mallocs, frees, closes, answer}
use Rattle.calls.specs.declared.Pool.{Pool}
use Rattle.calls.specs.declared.Called.{Called}

-- The pool, the outcome, how many records stand in the log and how many answers were taken.
abbrev pub called : Reply → Called
called w = record { pool = record { value = w.pool }; outcome = w.outcome; records = length w.records; taken = w.taken }

-- The call hands this back, and its records stand in the log from the first cell on; no other cell changes.
pub record Replies (w : Reply) (r : Called) (log log' : List ℕ) : Type 0 where
  pub answer : r ≡ called w
  pub cells : log' ≡ written log 0 w.records

-- What each entry point promises: `xs` are the lent answers, and the log has room for a record in every four numbers.
abbrev pub Opens : ℕ → ℕ → ℕ → ℕ → ℕ → List ℕ → List ℕ → Called → List ℕ → Type 0
Opens granularity override va initial stream xs log r log' =
    Replies (open_pool granularity override va initial stream xs (length log / 4)) r log log'

abbrev pub Answers : Pool → Call → List ℕ → List ℕ → Called → List ℕ → Type 0
Answers p c xs log r log' = Replies (answer p.value c xs (length log / 4)) r log log'

abbrev pub Mallocs : Pool → ℕ → ℕ → List ℕ → List ℕ → Called → List ℕ → Type 0
Mallocs p bytes stream = Answers p (mallocs bytes stream)

abbrev pub Frees : Pool → Address → List ℕ → List ℕ → Called → List ℕ → Type 0
Frees p a = Answers p (frees a.0)

abbrev pub Closes : Pool → List ℕ → List ℕ → Called → List ℕ → Type 0
Closes p = Answers p closes
