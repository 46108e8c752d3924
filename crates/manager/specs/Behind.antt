-- What the parts of a call promise: the rule, with the tests at entry before it where they are still to be made.
use Rattle.std.specs.Prelude.{◌≡◌, Result, cond, List, ◌++◌, ℕ, ◌+◌, ◌*◌, ◌/◌, ◌≤◌, ◌<◌, ◌^◌, length, drop}
use Rattle.std.proofs.Math.Option.{Option}
use Rattle.words.specs.Log.{written}
use Rattle.words.specs.declared.Address.{Address}
use Rattle.words.specs.declared.Record.{Record}
use Rattle.tables.specs.Bounds.{ROOTS}
use Rattle.tables.specs.Outcomes.{is}
use Rattle.tables.specs.Calls.{Call, mallocs, frees, closes}
use Rattle.tables.specs.Calls as Pools
use Rattle.tables.specs.declared.Pool.{Pool}
use Rattle.tables.specs.declared.Outcome.{Outcome}
use Rattle.calls.specs.Promises as Calls
use Rattle.calls.specs.declared.Called.{Called}
use Rattle.manager_rules.specs.Values.{SMALLS, closed_manager}
use Rattle.manager_rules.specs.Sizes as Sizes
use Rattle.manager_rules.specs.HandsBack.{Reply, admitted}
use Rattle.manager_rules.specs.Malloc.{served}
use Rattle.manager_rules.specs.Free.{free_found}
use Rattle.manager_rules.specs.Close.{drops}
use Rattle.manager_rules.specs.Calls.{answer}
use Rattle.manager_rules.specs.declared.Manager.{Manager}
use Rattle.manager_rules.specs.declared.SmallBuffer.{SmallBuffer}
use Rattle.manager.specs.Promises.{Replies}
use Rattle.manager.specs.Handing.{handed}
use Rattle.manager.specs.declared.Said.{Said}

-- The code leaves the layer `m`, hands on `r` and leaves this log, as the reply `w` has them.
abbrev pub Hands : Reply → List ℕ → Manager → Result Said Outcome → List ℕ → Type 0
Hands w log m r log' = Replies w (handed m r) log log'

-- a call of the layer `m`
abbrev pub Answered : Manager → Call → List ℕ → List ℕ → Manager → Result Said Outcome → List ℕ → Type 0
Answered m c xs log = Hands (answer m c xs (length log / 4)) log

abbrev pub Served : Manager → ℕ → ℕ → List ℕ → List ℕ → Manager → Result Said Outcome → List ℕ → Type 0
Served m bytes stream = Answered m (mallocs bytes stream)

abbrev pub Freed : Manager → Address → List ℕ → List ℕ → Manager → Result Said Outcome → List ℕ → Type 0
Freed m a = Answered m (frees a.0)

abbrev pub Closed : Manager → List ℕ → List ℕ → Manager → Result Said Outcome → List ℕ → Type 0
Closed m = Answered m closes

-- a malloc of `n` bytes that ask for this
abbrev pub Serves : Sizes.Request → Manager → ℕ → ℕ → List ℕ → List ℕ → Manager → Result Said Outcome → List ℕ → Type 0
Serves q m n s xs log = let room = length log / 4 in Hands (admitted m room (served m n s xs room q)) log

-- a free of what was found among the small buffers
abbrev pub FreesFound : Option SmallBuffer → Manager → ℕ → List ℕ → List ℕ → Manager → Result Said Outcome → List ℕ → Type 0
FreesFound b m a xs log = let room = length log / 4 in Hands (admitted m room (free_found m a xs room b)) log

-- a small buffer of `n` bytes has room in the table, and its bytes in the figures
pub record SmallFits (m : Manager) (n : ℕ) : Type 0 where
  pub room : m.small.count < SMALLS
  pub roots : m.pool.roots.count ≤ ROOTS
  pub counted : m.current + n < 2 ^ 64

-- the pool's close, lent the answers behind those of `n` small buffers
abbrev pub PoolCloses : Pool → ℕ → List ℕ → List ℕ → Called → List ℕ → Type 0
PoolCloses p n xs log r log' = Calls.Replies (Pools.answer p closes (drop (2 * n) xs) (length log / 4)) r log log'

-- The records of the small buffers stand before the `n` that stood in the log, wherever those were written.
pub record DropsBefore (bs : List SmallBuffer) (xs : List ℕ) (n : ℕ) (log log' : List ℕ) : Type 0 where
  pub stand : (l : List ℕ) (rs : List Record) → log ≡ written l 0 rs → length rs ≡ n → log' ≡ written l 0 (drops xs 0 bs ++ rs)

-- the layer that a close leaves which was served
abbrev pub closed_with : Manager → Outcome → Manager
closed_with m o = cond (is 17 o) m closed_manager
