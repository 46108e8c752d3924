-- docs/RULES.md 4.5: what a call leaves, by the number that it answers.
use Rattle.std.specs.Prelude.{Bool, cond, ◌||◌, not, List, [], ℕ, ◌-◌, ltb, leb, eqb, length}
use Rattle.words.specs.declared.Record.{Record}
use Rattle.tables.specs.Bounds.{IDS, LOG}
use Rattle.tables.specs.Values.{Tables, closed, opened, stopped, pool_of}
use Rattle.tables.specs.Outcomes.{is}
use Rattle.tables.specs.Steps.{Ending, on, ends, Went}
use Rattle.tables.specs.WellFormed.{well_formed}
use Rattle.tables.specs.declared.Pool.{Pool}
use Rattle.tables.specs.declared.Outcome.{Outcome}
use Rattle.tables.specs.declared.Outcome.TheVariants.{PoolClosed, PoolStopped, NotWellFormed, ShortLog, IdsSpent}

-- The pool, the outcome, the records that stand in the log, and how many answers were taken.
pub record Reply : Type 0 where
  pub pool : Pool
  pub outcome : Outcome
  pub records : List Record
  pub taken : ℕ

-- One answer for each record, but 17's last has none.
abbrev pub reply : Pool → Outcome → List Record → Reply
reply p o rs = record { pool = p; outcome = o; records = rs; taken = cond (is 17 o) (length rs - 1) (length rs) }

-- A refusal at entry: the pool as it came, and no record.
abbrev pub refused : Pool → Outcome → Reply
refused p o = reply p o []

abbrev pub outcome_of : Ending Outcome → Outcome
outcome_of (on o) = o
outcome_of (ends o) = o

-- The tables as the steps left them, stopped by 14 and 15; at 17 the pool that came.
abbrev pub pool_after : Pool → Tables → Outcome → Pool
pool_after p t o = cond (is 17 o) p (pool_of (cond (is 14 o || is 15 o) stopped opened) t)

unfoldable pub finished : Pool → Went Outcome → Reply
finished p w = reply (pool_after p w.tables (outcome_of w.ending)) (outcome_of w.ending) w.records

-- 4, wherever it is tested: `log` counts the records that the log has room for.
abbrev pub short_log : ℕ → Bool
short_log log = ltb log LOG

-- docs/RULES.md 4.2: 1 to 5, in this order, and then as `r` says.
unfoldable pub admitted : Pool → ℕ → Reply → Reply
admitted p log r =
    cond (eqb p.state closed) (refused p PoolClosed)
    (cond (eqb p.state stopped) (refused p PoolStopped)
    (cond (not (well_formed p)) (refused p NotWellFormed)
    (cond (short_log log) (refused p ShortLog)
    (cond (leb IDS p.counter) (refused p IdsSpent) r))))
