-- docs/RULES.md 3.13: open. `xs` are the lent answers, `log` counts the records that the log has room for.
use Rattle.std.specs.Prelude.{Bool, cond, ◌||◌, not, List, ℕ, ◌*◌, ◌%◌, ltb, eqb, length}
use Rattle.tables.specs.Bounds.{PAGES}
use Rattle.tables.specs.Values.{Tables, address, opened, stopped, pool_of, no_tables, closed_pool}
use Rattle.tables.specs.Outcomes.{is}
use Rattle.tables.specs.Steps.{Step, Went, ◌>>=◌, ◌>>◌, give, nothing, tables}
use Rattle.tables.specs.Driver.{must, sync}
use Rattle.tables.specs.TakeRange.{reserve_root}
use Rattle.tables.specs.MakeRoom.{make_room}
use Rattle.tables.specs.WellFormed.{allowed}
use Rattle.tables.specs.HandsBack.{Reply, reply, refused, outcome_of, short_log}
use Rattle.tables.specs.declared.Pool.{Pool}
use Rattle.tables.specs.declared.Outcome.{Outcome}
use Rattle.tables.specs.declared.Outcome.TheVariants.{Opened, ShortLog, BadConfiguration}

-- override 0 stands for the granularity
abbrev pub page_size : ℕ → ℕ → ℕ
page_size granularity override = cond (eqb override 0) granularity override

-- The root is one hole, until room for the initial pages is made in it.
unfoldable pub open_steps : ℕ → ℕ → Step Outcome
open_steps initial stream = do
  base ← reserve_root 0
  t ← tables
  cond (eqb initial 0) nothing (do
    make_room (initial * t.fields.page) stream
    must (sync stream))
  give (Opened (address base) t.fields.page)

-- docs/RULES.md 4.2: what 19 refuses.
unfoldable pub bad_configuration : ℕ → ℕ → ℕ → ℕ → Bool
bad_configuration granularity override va initial =
    eqb granularity 0
    || (not (eqb (override % granularity) 0)
    || (not (allowed (page_size granularity override) va)
    || (ltb PAGES initial
    || ltb va (initial * page_size granularity override))))

-- docs/RULES.md 4.7: without its root, or at 17, the pool is closed; with it, whatever fails stops it.
abbrev pub pool_opened : Tables → Outcome → Pool
pool_opened t o = cond (is 17 o || eqb (length t.roots) 0) closed_pool (pool_of (cond (is 0 o) opened stopped) t)

unfoldable pub open_finished : Went Outcome → Reply
open_finished w = reply (pool_opened w.tables (outcome_of w.ending)) (outcome_of w.ending) w.records

-- 4, and then 19.
unfoldable pub open_pool : ℕ → ℕ → ℕ → ℕ → ℕ → List ℕ → ℕ → Reply
open_pool granularity override va initial stream xs log =
    cond (short_log log) (refused closed_pool ShortLog)
    (cond (bad_configuration granularity override va initial) (refused closed_pool BadConfiguration)
    (open_finished (open_steps initial stream xs 0 (no_tables (page_size granularity override) va))))
