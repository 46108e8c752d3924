-- docs/RULES.md 3.16: close. `xs` are the lent answers, `log` counts the records that the log has room for.
use Rattle.std.specs.Prelude.{cond, not, List, ℕ, eqb, length}
use Rattle.lists.specs.Tests.{filter}
use Rattle.words.specs.declared.Record.{Record}
use Rattle.tables.specs.Values.{closed, at_entry, closed_pool}
use Rattle.tables.specs.Steps.{Ending, on, ends, Act, ◌>>=◌, ◌>>◌, each, tables}
use Rattle.tables.specs.Driver.{try, unmap, release, sync, giveback}
use Rattle.tables.specs.NewPages.{at}
use Rattle.tables.specs.WellFormed.{well_formed}
use Rattle.tables.specs.HandsBack.{Reply, reply, refused, short_log}
use Rattle.tables.specs.declared.Pool.{Pool}
use Rattle.tables.specs.declared.Outcome.TheVariants.{Closed, PoolClosed, NotWellFormed, ShortLog}

-- Whatever fails, all that the pool holds is handed back.
unfoldable pub close_steps : Act
close_steps = do
  t ← tables
  try (sync 0)
  each (λ z. try (unmap z.start.0 z.size)) t.zombies
  each (λ g. try (unmap (at g) t.fields.page) >> try (release g.handle.0)) t.pages
  each (λ a. try (giveback a.0 t.fields.va)) t.roots

abbrev pub failures : List Record → ℕ
failures rs = length (filter (λ r. not (eqb r.code 0)) rs)

-- The failures are counted, and the pool is closed; at 17 it is the one that came.
unfoldable pub close_finished : Pool → List Record → Ending (Unit {0}) → Reply
close_finished p rs (on u) = reply closed_pool (Closed (failures rs)) rs
close_finished p rs (ends o) = reply p o rs

-- docs/RULES.md 4.2: 1, 3, 4. A stopped pool is closed too.
unfoldable pub close : Pool → List ℕ → ℕ → Reply
close p xs log =
    let w = close_steps xs 0 (at_entry p) in
    cond (eqb p.state closed) (refused p PoolClosed)
    (cond (not (well_formed p)) (refused p NotWellFormed)
    (cond (short_log log) (refused p ShortLog)
    (close_finished p w.records w.ending)))
