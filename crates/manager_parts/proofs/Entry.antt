-- What the pool's tests at entry tell, in their order.
use mathlib.Core.Path.{◌≡◌, refl, ap, sym, ◌∙◌}
use mathlib.Core.Bool.{Bool, true, false, cond, not}
use Prim.Native.Nat.{ℕ}
use native.Mathlib.Omega.{arith}
use lib.Dec.{leb, eqb}
use borrow.Author.Tests.{lt-leb, le-ltb}
use Rattle.std.specs.Prelude.{Result, Ok, Err}
use Rattle.tables.specs.Bounds.{IDS, LOG}
use Rattle.tables.specs.Values.{closed, stopped}
use Rattle.tables.specs.Outcomes.{numbers}
use Rattle.tables.specs.WellFormed.{well_formed}
use Rattle.tables.specs.HandsBack.{Reply, refused, short_log, admitted}
use Rattle.tables.specs.declared.Pool.{Pool}
use Rattle.tables.specs.declared.Outcome.{Outcome}
use Rattle.tables.specs.declared.Outcome.TheVariants.{PoolClosed, PoolStopped, NotWellFormed, ShortLog, IdsSpent}
use Rattle.pool_entry.specs.Promises.{Admitted, Enters}
use Rattle.manager_parts.specs.Promises.{pool_refused}

module _ (p : Pool) where
  abbrev replying : Bool → Bool → Bool → Bool → Bool → Reply → Reply
  replying a b c d e w =
      cond a (refused p PoolClosed)
      (cond b (refused p PoolStopped)
      (cond c (refused p NotWellFormed)
      (cond d (refused p ShortLog)
      (cond e (refused p IdsSpent) w))))

  abbrev tested : Bool → Bool → Bool → Bool → Bool → Result (Unit {0}) Outcome
  tested a b c d e =
      cond a (Err PoolClosed)
      (cond b (Err PoolStopped)
      (cond c (Err NotWellFormed)
      (cond d (Err ShortLog)
      (cond e (Err IdsSpent) (Ok tt)))))

  -- whatever the call would have gone on to, it is refused with `o`
  by_tests : (a b c d e : Bool) (o : Outcome) → ((w : Reply) → replying a b c d e w ≡ refused p o) → Err o ≡ tested a b c d e
  by_tests true b c d e o h = ap (λ r. Err r.outcome) (sym (h (refused p o)))
  by_tests false true c d e o h = ap (λ r. Err r.outcome) (sym (h (refused p o)))
  by_tests false false true d e o h = ap (λ r. Err r.outcome) (sym (h (refused p o)))
  by_tests false false false true e o h = ap (λ r. Err r.outcome) (sym (h (refused p o)))
  by_tests false false false false true o h = ap (λ r. Err r.outcome) (sym (h (refused p o)))
  by_tests false false false false false o h =
      let e = ap (λ r. (numbers r.outcome).number) (h (refused p PoolClosed) ∙ sym (h (refused p PoolStopped))) in absurd (omega (arith, e))

  goes : (log : ℕ) → Admitted p log → Ok tt ≡ pool_refused p log
  goes log a = rw (a.form, a.state, le-ltb log LOG a.log, lt-leb IDS p.counter a.ids) refl

  stops : (log : ℕ) (o : Outcome) → ((w : Reply) → admitted p log w ≡ refused p o) → Err o ≡ pool_refused p log
  unfolding admitted
  stops log o h = by_tests (eqb p.state closed) (eqb p.state stopped) (not (well_formed p)) (short_log log) (leb IDS p.counter) o h

  pub enters-tells : (log : ℕ) (r : Result (Unit {0}) Outcome) (q : Pool) → Enters p log r q → r ≡ pool_refused p log
  enters-tells log (Ok u) q e = goes log (e.goes refl)
  enters-tells log (Err o) q e = stops log o (e.stops o refl)
