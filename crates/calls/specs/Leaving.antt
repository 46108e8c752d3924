-- docs/RULES.md 4.5, 4.7: what is left of the pool, in the words of the code: by a state, or as at entry.
use Rattle.std.specs.Prelude.{cond, ◌||◌, ℕ, ◌-◌, Some, None, Option as State}
use Rattle.tables.specs.Values.{closed, opened, stopped, tables_of, closed_pool}
use Rattle.tables.specs.Outcomes.{is}
use Rattle.tables.specs.HandsBack.{pool_after, refused}
use Rattle.tables.specs.Open.{pool_opened}
use Rattle.tables.specs.declared.Pool as tables
use Rattle.tables.specs.declared.Outcome.{Outcome}
use Rattle.tables.specs.declared.Outcome.TheVariants.{Closed}
use Rattle.calls.specs.Promises.{called}
use Rattle.calls.specs.declared.Pool.{Pool}
use Rattle.calls.specs.declared.Called.{Called}

-- the state that an outcome leaves; none where the pool is as at entry
abbrev pub state_after : Outcome → State ℕ
state_after o = cond (is 17 o) None (Some (cond (is 14 o || is 15 o) stopped opened))

-- the same for open; none where it leaves a closed pool
abbrev pub opened_after : Outcome → State ℕ
opened_after o = cond (is 17 o) None (Some (cond (is 0 o) opened stopped))

-- A refusal at entry hands back the pool as it came.
abbrev pub leaving_refused : Pool → Outcome → Called
leaving_refused p o = called (refused p.value o)

-- The pool `q` as the steps left it, or as at entry; one answer for each record, but for 17.
abbrev pub leaving : Pool → tables.Pool → Outcome → ℕ → Called
leaving p q o k =
    record {
      pool = record { value = pool_after p.value (tables_of q) o };
      outcome = o;
      records = k;
      taken = cond (is 17 o) (k - 1) k;
    }

-- The pool as the steps of open left it, or a closed one.
abbrev pub leaving_opened : tables.Pool → Outcome → ℕ → Called
leaving_opened q o k =
    record {
      pool = record { value = pool_opened (tables_of q) o };
      outcome = o;
      records = k;
      taken = cond (is 17 o) (k - 1) k;
    }

-- 17: the pool as at entry; the last record has no answer.
abbrev pub leaving_short : Pool → Outcome → ℕ → Called
leaving_short p o k = record { pool = p; outcome = o; records = k; taken = k - 1 }

-- `f` lines of a close failed.
abbrev pub leaving_closed : ℕ → ℕ → Called
leaving_closed f k = record { pool = record { value = closed_pool }; outcome = Closed f; records = k; taken = k }
