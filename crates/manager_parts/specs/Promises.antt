-- What a size asks for, and what the pool refuses at entry, in the words of the code.
use Rattle.std.specs.Prelude.{Result, Ok, Err, cond, not, ℕ, leb, eqb}
use Rattle.tables.specs.Bounds.{IDS}
use Rattle.tables.specs.Values.{closed, stopped}
use Rattle.tables.specs.WellFormed.{well_formed}
use Rattle.tables.specs.HandsBack.{short_log}
use Rattle.tables.specs.declared.Pool.{Pool}
use Rattle.tables.specs.declared.Outcome.{Outcome}
use Rattle.tables.specs.declared.Outcome.TheVariants.{PoolClosed, PoolStopped, NotWellFormed, ShortLog, IdsSpent}
use Rattle.manager_rules.specs.Sizes as Sizes
use Rattle.manager_parts.specs.declared.Request.{Request}
use Rattle.manager_parts.specs.declared.Request.TheVariants.{Unfit, Smaller, Whole}

abbrev pub request_of : Request → Sizes.Request
request_of Unfit = Sizes.unfit
request_of Smaller = Sizes.smaller
request_of (Whole n) = Sizes.whole n

-- 1 to 5 of the pool.
abbrev pub pool_refused : Pool → ℕ → Result (Unit {0}) Outcome
pool_refused p log =
    cond (eqb p.state closed) (Err PoolClosed)
    (cond (eqb p.state stopped) (Err PoolStopped)
    (cond (not (well_formed p)) (Err NotWellFormed)
    (cond (short_log log) (Err ShortLog)
    (cond (leb IDS p.counter) (Err IdsSpent) (Ok tt)))))
