-- A malloc of no bytes tells what the pool refuses at entry, and leaves no record.
use mathlib.Core.Path.{◌≡◌, refl}
use mathlib.Core.Bool.{Bool, true, false, cond, not}
use mathlib.Core.List.{List, []}
use Prim.Native.Nat.{ℕ}
use lib.Dec.{leb, eqb}
use Rattle.std.proofs.Common.{Result, Ok, Err}
use Rattle.tables.specs.Bounds.{IDS}
use Rattle.tables.specs.Values.{closed, stopped}
use Rattle.tables.specs.Outcomes.{is}
use Rattle.tables.specs.WellFormed.{well_formed}
use Rattle.tables.specs.HandsBack.{Reply, refused, short_log, admitted}
use Rattle.tables.specs.Malloc.{malloc_by}
use Rattle.tables.specs.Calls.{mallocs, answer}
use Rattle.tables.specs.declared.Pool.{Pool}
use Rattle.tables.specs.declared.Outcome.{Outcome}
use Rattle.tables.specs.declared.Outcome.TheVariants.{PoolClosed, PoolStopped, NotWellFormed, ShortLog, IdsSpent, BadSize}
use Rattle.manager_parts.specs.Promises.{pool_refused}

-- by the number of its answer
abbrev ended_by : Outcome → Result (Unit {0}) Outcome
ended_by o = cond (is 6 o) (Ok tt) (Err o)

pub record Tells (p : Pool) (log : ℕ) (r : Reply) : Type 0 where
  pub refuses : ended_by r.outcome ≡ pool_refused p log
  pub none : r.records ≡ []

module _ (p : Pool) where
  abbrev replying : Bool → Bool → Bool → Bool → Bool → Reply
  replying a b c d e =
      cond a (refused p PoolClosed)
      (cond b (refused p PoolStopped)
      (cond c (refused p NotWellFormed)
      (cond d (refused p ShortLog)
      (cond e (refused p IdsSpent) (refused p (BadSize 0))))))

  abbrev ending : Bool → Bool → Bool → Bool → Bool → Result (Unit {0}) Outcome
  ending a b c d e =
      cond a (Err PoolClosed)
      (cond b (Err PoolStopped)
      (cond c (Err NotWellFormed)
      (cond d (Err ShortLog)
      (cond e (Err IdsSpent) (Ok tt)))))

  by_tests : (a b c d e : Bool) → (ended_by (replying a b c d e).outcome ≡ ending a b c d e) × ((replying a b c d e).records ≡ [])
  by_tests true b c d e = (refl, refl)
  by_tests false true c d e = (refl, refl)
  by_tests false false true d e = (refl, refl)
  by_tests false false false true e = (refl, refl)
  by_tests false false false false true = (refl, refl)
  by_tests false false false false false = (refl, refl)

  pub no-bytes-tells : (xs : List ℕ) (log : ℕ) → Tells p log (answer p (mallocs 0 0) xs log)
  unfolding malloc_by admitted
  no-bytes-tells xs log =
      let t = by_tests (eqb p.state closed) (eqb p.state stopped) (not (well_formed p)) (short_log log) (leb IDS p.counter) in
      record { refuses = t.0; none = t.1 }
