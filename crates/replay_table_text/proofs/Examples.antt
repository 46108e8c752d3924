-- The text of the tables after F and M of docs/RULES.md 9, as `rust_replay --tables` prints them, and of a closed pool, by computation.
use mathlib.Core.Path.{◌≡◌, refl}
use mathlib.Core.List.{[], ◌∷◌}
use Rattle.tables.specs.Values.{address, region, buffer, hole, zombie, page, pool_of, closed_pool}
use Rattle.tables.specs.Session.{holding}
use Rattle.trace.specs.Form.{ascii, decimal}
use Rattle.replay_table_text.specs.Tables.{
  entry,
  free_entry,
  live_entry,
  hole_entry,
  zombie_entry,
  page_entry,
  root_entry,
  counter_entry,
  none_entry,
  entries,
  tables_text,
}

after_f : entries
    (holding 4 40 6 [] (buffer 1008 4 2 ∷ buffer 1016 12 1 ∷ []) (hole 1028 12 ∷ []) (zombie 1000 8 3 ∷ zombie 1012 4 4 ∷ [])
    (page 1008 73 ∷ page 1016 71 ∷ page 1020 72 ∷ page 1024 74 ∷ []) (address 1000 ∷ []))
    ≡ ascii "t-live\t1008\t4\t2\nt-live\t1016\t12\t1\nt-hole\t1028\t12\nt-zombie\t1000\t8\t3\nt-zombie\t1012\t4\t4\nt-page\t1008\t73\nt-page\t1016\t71\nt-page\t1020\t72\nt-page\t1024\t74\nt-root\t1000\nt-counter\t6\n"
unfolding decimal entry free_entry live_entry hole_entry zombie_entry page_entry root_entry counter_entry entries
after_f = refl

after_m : entries
    (holding 4 40 7 (region 1016 12 1 6 ∷ []) (buffer 1008 4 2 ∷ []) (hole 1000 8 ∷ hole 1012 4 ∷ hole 1028 52 ∷ []) []
    (page 1008 73 ∷ page 1016 71 ∷ page 1020 72 ∷ page 1024 74 ∷ []) (address 1000 ∷ address 1040 ∷ []))
    ≡ ascii "t-free\t1016\t12\t1\t6\nt-live\t1008\t4\t2\nt-hole\t1000\t8\nt-hole\t1012\t4\nt-hole\t1028\t52\nt-page\t1008\t73\nt-page\t1016\t71\nt-page\t1020\t72\nt-page\t1024\t74\nt-root\t1000\nt-root\t1040\nt-counter\t7\n"
unfolding decimal entry free_entry live_entry hole_entry zombie_entry page_entry root_entry counter_entry entries
after_m = refl

closed : tables_text closed_pool ≡ ascii "t-none\n"
unfolding entry none_entry tables_text pool_of
closed = refl
