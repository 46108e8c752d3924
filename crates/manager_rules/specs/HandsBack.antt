-- docs/RULES.md 12.3: what a call of the layer leaves.
use Rattle.std.specs.Prelude.{cond, not, List, [], ℕ, ◌-◌, leb, eqb, length}
use Rattle.words.specs.declared.Record.{Record}
use Rattle.tables.specs.Bounds.{IDS}
use Rattle.tables.specs.Values.{closed, stopped}
use Rattle.tables.specs.Outcomes.{is}
use Rattle.tables.specs.HandsBack as Pool
use Rattle.tables.specs.declared.Outcome.{Outcome}
use Rattle.tables.specs.declared.Outcome.TheVariants.{PoolClosed, PoolStopped, NotWellFormed, ShortLog, IdsSpent}
use Rattle.manager_rules.specs.WellFormed.{well_formed}
use Rattle.manager_rules.specs.declared.Manager.{Manager}

-- The layer, the outcome, the records that stand in the log, and how many answers were taken.
pub record Reply : Type 0 where
  pub manager : Manager
  pub outcome : Outcome
  pub records : List Record
  pub taken : ℕ

-- One answer for each record, but 17's last has none.
abbrev pub reply : Manager → Outcome → List Record → Reply
reply m o rs = record { manager = m; outcome = o; records = rs; taken = cond (is 17 o) (length rs - 1) (length rs) }

-- A refusal: the layer as it came, and no record.
abbrev pub refused : Manager → Outcome → Reply
refused m o = reply m o []

-- The pool's answer, over the layer that is left.
abbrev pub of_pool : Manager → Pool.Reply → Reply
of_pool m r = record { manager = m; outcome = r.outcome; records = r.records; taken = r.taken }

-- 1 to 5 as the pool has them, but that 3 speaks of the layer; and then as `r` says.
unfoldable pub admitted : Manager → ℕ → Reply → Reply
admitted m log r =
    cond (eqb m.pool.state closed) (refused m PoolClosed)
    (cond (eqb m.pool.state stopped) (refused m PoolStopped)
    (cond (not (well_formed m)) (refused m NotWellFormed)
    (cond (Pool.short_log log) (refused m ShortLog)
    (cond (leb IDS m.pool.counter) (refused m IdsSpent) r))))
