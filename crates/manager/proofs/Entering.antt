-- Behind the layer's own tests its entry is the pool's: where the pool refuses, the layer does so with the same outcome, and where the pool goes on, so does it.
use mathlib.Core.Path.{◌≡◌, refl, ap, sym}
use mathlib.Core.Bool.{Bool, true, false, cond, ◌&&◌, not, false≢true}
use Prim.Native.Nat.{ℕ, ◌≤◌}
use borrow.Author.Tests.{eqb-false, ltb-false}
use lib.Dec.{leb, eqb}
use Rattle.tables.specs.Bounds.{IDS, LOG}
use Rattle.tables.specs.Values.{closed, stopped}
use Rattle.tables.specs.Outcomes.{is}
use Rattle.tables.specs.WellFormed.{well_formed}
use Rattle.tables.specs.HandsBack as Pool
use Rattle.tables.specs.declared.Outcome.{Outcome}
use Rattle.tables.specs.declared.Outcome.TheVariants.{PoolClosed, PoolStopped, NotWellFormed, ShortLog, IdsSpent}
use Rattle.std.specs.Prelude.{Result, Ok, Err}
use Rattle.manager_rules.specs.WellFormed.{own_kept}
use Rattle.manager_rules.specs.HandsBack.{Reply, refused, admitted}
use Rattle.manager_rules.specs.declared.Manager as Rules
use Rattle.manager_parts.specs.Promises.{pool_refused}
use Rattle.manager.specs.Entry.{own_refused}
use Rattle.manager.proofs.Refusals.{not_on, refused-once}

-- the tests in their order: what the layer tests itself, what the pool tests, and what both do
abbrev own : Bool → Bool → Bool → Result (Unit {0}) Outcome
own a b k = cond a (Err PoolClosed) (cond b (Err PoolStopped) (cond k (Ok (tt {0})) (Err NotWellFormed)))

abbrev pools : Bool → Bool → Bool → Bool → Bool → Result (Unit {0}) Outcome
pools a b f d e =
    cond a (Err PoolClosed)
    (cond b (Err PoolStopped)
    (cond (not f) (Err NotWellFormed)
    (cond d (Err ShortLog)
    (cond e (Err IdsSpent) (Ok (tt {0}))))))

module _ (m : Rules.Manager) where
  abbrev layers : Reply → Bool → Bool → Bool → Bool → Bool → Bool → Reply
  layers r a b f k d e =
      cond a (refused m PoolClosed)
      (cond b (refused m PoolStopped)
      (cond (not (f && k)) (refused m NotWellFormed)
      (cond d (refused m ShortLog)
      (cond e (refused m IdsSpent) r))))

  stops : (r : Reply) (a b f k d e : Bool) → own a b k ≡ Ok (tt {0}) → (o : Outcome) → pools a b f d e ≡ Err o → layers r a b f k d e ≡ refused m o
  stops r true b f k d e h o q = not_on h
  stops r false true f k d e h o q = not_on h
  stops r false false f false d e h o q = not_on h
  stops r false false false true d e h o q = ap (refused m) (refused-once q)
  stops r false false true true true e h o q = ap (refused m) (refused-once q)
  stops r false false true true false true h o q = ap (refused m) (refused-once q)
  stops r false false true true false false h o q = not_on (sym q)

  goes : (a b f k d e : Bool) → own a b k ≡ Ok (tt {0}) → pools a b f d e ≡ Ok (tt {0}) →
      ((r : Reply) → layers r a b f k d e ≡ r) × ((a ≡ false) × ((b ≡ false) × ((f ≡ true) × ((k ≡ true) × (d ≡ false)))))
  goes true b f k d e h q = not_on h
  goes false true f k d e h q = not_on h
  goes false false f false d e h q = not_on h
  goes false false false true d e h q = not_on q
  goes false false true true true e h q = not_on q
  goes false false true true false true h q = not_on q
  goes false false true true false false h q = (λ r. refl, (refl, (refl, (refl, (refl, refl)))))

  -- the pool's answer, of which the layer makes its own
  abbrev answered : Pool.Reply → Bool → Bool → Bool → Bool → Bool → Pool.Reply
  answered w a b f d e =
      cond a (Pool.refused m.pool PoolClosed)
      (cond b (Pool.refused m.pool PoolStopped)
      (cond (not f) (Pool.refused m.pool NotWellFormed)
      (cond d (Pool.refused m.pool ShortLog)
      (cond e (Pool.refused m.pool IdsSpent) w))))

  same : (g : Pool.Reply → Reply) → ((o : Outcome) → is 0 o ≡ false → g (Pool.refused m.pool o) ≡ refused m o) → (w : Pool.Reply) (a b f k d e : Bool) →
      own a b k ≡ Ok (tt {0}) → layers (g (answered w a b f d e)) a b f k d e ≡ g (answered w a b f d e)
  same g u w true b f k d e h = not_on h
  same g u w false true f k d e h = not_on h
  same g u w false false f false d e h = not_on h
  same g u w false false false true d e h = sym (u NotWellFormed refl)
  same g u w false false true true true e h = sym (u ShortLog refl)
  same g u w false false true true false true h = sym (u IdsSpent refl)
  same g u w false false true true false false h = refl

  zero : (w : Pool.Reply) (a b f d e : Bool) → is 0 (answered w a b f d e).outcome ≡ true → pools a b f d e ≡ Ok (tt {0})
  zero w true b f d e h = absurd (false≢true h)
  zero w false true f d e h = absurd (false≢true h)
  zero w false false false d e h = absurd (false≢true h)
  zero w false false true true e h = absurd (false≢true h)
  zero w false false true false true h = absurd (false≢true h)
  zero w false false true false false h = refl

-- None of 1 to 5 applies.
pub record Admitted (m : Rules.Manager) (log : ℕ) : Type 0 where
  pub passes : (r : Reply) → admitted m log r ≡ r
  pub closes : m.pool.state ≡ closed → ⊥
  pub stops : m.pool.state ≡ stopped → ⊥
  pub form : well_formed m.pool ≡ true
  pub own : own_kept m ≡ true
  pub room : LOG ≤ log

-- an answer of 0 is one of a pool that went on
pub zero-goes : (m : Rules.Manager) (log : ℕ) (w : Pool.Reply) → is 0 (Pool.admitted m.pool log w).outcome ≡ true → pool_refused m.pool log ≡ Ok (tt {0})
unfolding Pool.admitted
zero-goes m log w e =
    zero m w (eqb m.pool.state closed) (eqb m.pool.state stopped) (well_formed m.pool) (Pool.short_log log) (leb IDS m.pool.counter) e

module _ (m : Rules.Manager) (log : ℕ) (h : own_refused m ≡ Ok (tt {0})) where
  -- What is made of the pool's answer needs no test of its own, if a refusal of the pool's is made one of the layer's.
  pub admitted-same : (g : Pool.Reply → Reply) → ((o : Outcome) → is 0 o ≡ false → g (Pool.refused m.pool o) ≡ refused m o) → (w : Pool.Reply) →
      admitted m log (g (Pool.admitted m.pool log w)) ≡ g (Pool.admitted m.pool log w)
  unfolding admitted Pool.admitted
  admitted-same g u w =
      same m g u w (eqb m.pool.state closed) (eqb m.pool.state stopped) (well_formed m.pool) (own_kept m) (Pool.short_log log) (leb IDS m.pool.counter) h

  pub admitted-stops : (o : Outcome) → pool_refused m.pool log ≡ Err o → (r : Reply) → admitted m log r ≡ refused m o
  unfolding admitted
  admitted-stops o q r =
      stops m r (eqb m.pool.state closed) (eqb m.pool.state stopped) (well_formed m.pool) (own_kept m) (Pool.short_log log) (leb IDS m.pool.counter) h o q

  pub admitted-goes : pool_refused m.pool log ≡ Ok (tt {0}) → Admitted m log
  unfolding admitted
  admitted-goes q =
      let g = goes m (eqb m.pool.state closed) (eqb m.pool.state stopped) (well_formed m.pool) (own_kept m) (Pool.short_log log) (leb IDS m.pool.counter) h q in
      record {
        passes = g.0;
        closes = eqb-false m.pool.state closed g.1.0;
        stops = eqb-false m.pool.state stopped g.1.1.0;
        form = g.1.1.1.0;
        own = g.1.1.1.1.0;
        room = ltb-false log LOG g.1.1.1.1.1;
      }
