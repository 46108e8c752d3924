-- What the layer's own tests refuse, its rule refuses.
use mathlib.Core.Path.{◌≡◌, refl, ap, sym, ◌∙◌}
use mathlib.Core.Bool.{Bool, true, false, cond, ◌&&◌, ◌||◌, not}
use mathlib.Core.List.{List}
use Prim.Native.Nat.{ℕ, ◌≤◌}
use borrow.Author.Tests.{leb-true}
use lib.Dec.{leb, eqb}
use Rattle.lists.proofs.Tests.{both}
use Rattle.tables.specs.Values.{closed, stopped}
use Rattle.tables.specs.WellFormed as Pool
use Rattle.tables.specs.declared.Outcome.{Outcome}
use Rattle.tables.specs.declared.Outcome.TheVariants.{PoolClosed, PoolStopped, NotWellFormed}
use Rattle.std.specs.Prelude.{Ok, Err}
use Rattle.manager_rules.specs.WellFormed.{own_sound, own_kept}
use Rattle.manager_rules.specs.HandsBack.{Reply, refused, admitted}
use Rattle.manager_rules.specs.Values.{SMALLS}
use Rattle.manager_rules.specs.Close.{close}
use Rattle.manager_rules.specs.declared.Manager as Rules
use Rattle.manager.specs.Entry.{own_refused, close_refused}
use Rattle.manager.proofs.Refusals.{not_on, refused-once}

module _ (m : Rules.Manager) where
  -- by the tests: closed, stopped, the pool well formed, the layer's own part
  by-own : (r : Reply) (a b f k : Bool) (o : Outcome) → cond a (Err PoolClosed) (cond b (Err PoolStopped) (cond k (Ok (tt {0})) (Err NotWellFormed))) ≡ Err o →
      cond a (refused m PoolClosed) (cond b (refused m PoolStopped) (cond (not (f && k)) (refused m NotWellFormed) r)) ≡ refused m o
  by-own r true b f k o e = ap (refused m) (refused-once e)
  by-own r false true f k o e = ap (refused m) (refused-once e)
  by-own r false false f true o e = not_on (sym e)
  by-own r false false true false o e = ap (refused m) (refused-once e)
  by-own r false false false false o e = ap (refused m) (refused-once e)

  by-close : (r : Reply) (a f k : Bool) (o : Outcome) → cond a (Err PoolClosed) (cond k (Ok (tt {0})) (Err NotWellFormed)) ≡ Err o →
      cond a (refused m PoolClosed) (cond (not (f && k)) (refused m NotWellFormed) r) ≡ refused m o
  by-close r true f k o e = ap (refused m) (refused-once e)
  by-close r false f true o e = not_on (sym e)
  by-close r false true false o e = ap (refused m) (refused-once e)
  by-close r false false false o e = ap (refused m) (refused-once e)

  pub own-stops : (log : ℕ) (o : Outcome) → own_refused m ≡ Err o → (r : Reply) → admitted m log r ≡ refused m o
  unfolding admitted
  own-stops log o e r = by-own _ (eqb m.pool.state closed) (eqb m.pool.state stopped) (Pool.well_formed m.pool) (own_kept m) o e

  pub close-stops : (xs : List ℕ) (log : ℕ) (o : Outcome) → close_refused m ≡ Err o → close m xs log ≡ refused m o
  unfolding close
  close-stops xs log o e = by-close _ (eqb m.pool.state closed) (Pool.well_formed m.pool) (own_kept m) o e

-- what the layer's own tests let pass has its small buffers within the ceiling
pub own-count : (m : Rules.Manager) → own_refused m ≡ Ok (tt {0}) → m.small.count ≤ SMALLS
unfolding own_kept
own-count m e =
    leb-true m.small.count SMALLS
    (both (leb m.small.count SMALLS) (eqb m.pool.state stopped || own_sound m) (kept (eqb m.pool.state closed) (eqb m.pool.state stopped) (own_kept m) e)).0
  where
    kept : (a b k : Bool) → cond a (Err PoolClosed) (cond b (Err PoolStopped) (cond k (Ok (tt {0})) (Err NotWellFormed))) ≡ Ok (tt {0}) → k ≡ true
    kept true b k h = not_on h
    kept false true k h = not_on h
    kept false false true h = refl
    kept false false false h = not_on h
