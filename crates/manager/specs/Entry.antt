-- What is tested at entry: what the layer tests itself, and then what the pool does.
use Rattle.std.specs.Prelude.{Result, Ok, Err, cond, eqb}
use Rattle.tables.specs.Values.{closed, stopped}
use Rattle.tables.specs.declared.Outcome.{Outcome}
use Rattle.tables.specs.declared.Outcome.TheVariants.{PoolClosed, PoolStopped, NotWellFormed}
use Rattle.manager_rules.specs.WellFormed.{own_kept}
use Rattle.manager_rules.specs.declared.Manager.{Manager}

-- 1, 2, and the layer's own part of 3.
abbrev pub own_refused : Manager → Result (Unit {0}) Outcome
own_refused m =
    cond (eqb m.pool.state closed) (Err PoolClosed)
    (cond (eqb m.pool.state stopped) (Err PoolStopped)
    (cond (own_kept m) (Ok tt) (Err NotWellFormed)))

-- 1, and the same part of 3.
abbrev pub close_refused : Manager → Result (Unit {0}) Outcome
close_refused m = cond (eqb m.pool.state closed) (Err PoolClosed) (cond (own_kept m) (Ok tt) (Err NotWellFormed))
