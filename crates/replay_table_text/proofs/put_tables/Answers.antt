-- `replay_table_text::put_tables` meets its contract: each table ends where the next begins.
use mathlib.Core.Path.{◌≡◌}
use native.Mathlib.Omega.{arith}
use borrow.Author.Tests.{eq-eqb, ne_eqb}
use Rattle.cells.specs.Table.{entries as held}
use Rattle.tables.specs.Values.{tables_of, free_of, live_of, holes_of, zombies_of, pages_of, roots_of}
use Rattle.tables.specs.declared.Pool.{Pool}
use Rattle.replay_table_text.specs.Tables.{counter_entry, none_entry, entries, tables_text}
use Rattle.replay_table_text.proofs.Walks.{puts_then, puts_as}
use Rattle.replay_table_text.proofs.put_tables.Goals as goal

closed-text : (p : Pool) → p.state ≡ 0 → none_entry ≡ tables_text p
unfolding tables_text
closed-text p e = rw (eq-eqb p.state 0 e)

open-text : (p : Pool) → (p.state ≡ 0 → ⊥) → entries (tables_of p) ≡ tables_text p
unfolding tables_text
open-text p n = rw (ne_eqb p.state 0 n)

pub returns-then-pool-eq0 : goal.returns-then-pool-eq0
unfolding none_entry
returns-then-pool-eq0 c =
    puts_as (closed-text c.args.pool c.if-pool-eq0.true) (omega arith) c.put_entry.ensures

pub returns : goal.returns
unfolding counter_entry entries tables_of held
returns c =
    puts_as
    (open-text c.args.pool c.if-pool-eq0.false)
    (omega arith)
    (puts_then c.put_table-live.ensures
    (puts_then c.put_table-holes.ensures
    (puts_then c.put_table-zombies.ensures
    (puts_then c.put_table-pages.ensures
    (puts_then c.put_table-roots.ensures
    (puts_then c.put_table-counter.ensures c.put_entry-2.ensures))))))
