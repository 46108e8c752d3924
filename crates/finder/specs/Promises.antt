-- What a call hands to C and Rust: what its rule says, with the numbers of docs/RULES.md 4.1 for the outcome.
use Rattle.std.specs.Prelude.{◌≡◌, List, ℕ, ◌/◌, length}
use Rattle.words.specs.Log.{written}
use Rattle.tables.specs.HandsBack as rule
use Rattle.tables.specs.Open.{open_pool}
use Rattle.tables.specs.Calls.{Call, mallocs, frees, closes, answer}
use Rattle.tables.specs.Outcomes.{numbers}
use Rattle.plain_pool.specs.Plain.{pool_of, plain_of}
use Rattle.plain_pool.specs.declared.PlainPool.{PlainPool}
use Rattle.calls.specs.declared.Called.{Called}
use Rattle.finder.specs.declared.Reply.{Reply}

-- The version of the layout and of the answers.
abbrev pub version : ℕ
version = 2

-- a call's answer with the numbers of its outcome
abbrev pub reply_of : Called → Reply
reply_of c =
    let n = numbers c.outcome in
    record { pool = plain_of c.pool.value; answer = n.number; first = n.first; second = n.second; records = c.records; taken = c.taken }

-- The pool, the numbers, how many records stand in the log and how many answers were taken.
abbrev pub told : rule.Reply → Reply
told w =
    record {
      pool = plain_of w.pool;
      answer = (numbers w.outcome).number;
      first = (numbers w.outcome).first;
      second = (numbers w.outcome).second;
      records = length w.records;
      taken = w.taken;
    }

-- The call hands this back, and its records stand in the log from the first cell on; no other cell changes.
pub record Tells (w : rule.Reply) (r : Reply) (log log' : List ℕ) : Type 0 where
  pub reply : r ≡ told w
  pub cells : log' ≡ written log 0 w.records

-- What each function promises: `xs` are the lent answers, and the log has room for a record in every four numbers.
abbrev pub TellsOpen : ℕ → ℕ → ℕ → ℕ → ℕ → List ℕ → List ℕ → Reply → List ℕ → Type 0
TellsOpen granularity override va initial stream xs log r log' =
    Tells (open_pool granularity override va initial stream xs (length log / 4)) r log log'

abbrev pub TellsCall : PlainPool → Call → List ℕ → List ℕ → Reply → List ℕ → Type 0
TellsCall p c xs log r log' = Tells (answer (pool_of p) c xs (length log / 4)) r log log'

abbrev pub TellsMalloc : PlainPool → ℕ → ℕ → List ℕ → List ℕ → Reply → List ℕ → Type 0
TellsMalloc p bytes stream = TellsCall p (mallocs bytes stream)

abbrev pub TellsFree : PlainPool → ℕ → List ℕ → List ℕ → Reply → List ℕ → Type 0
TellsFree p a = TellsCall p (frees a)

abbrev pub TellsClose : PlainPool → List ℕ → List ℕ → Reply → List ℕ → Type 0
TellsClose p = TellsCall p closes
