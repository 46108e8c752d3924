-- 14 of a free stops the pool: no test at entry answers it, and what the steps leave is stopped by it.
use mathlib.Core.Path.{◌≡◌}
use mathlib.Core.Bool.{true, false≢true}
use mathlib.Core.List.{List}
use mathlib.Core.Option.{Option, some, none}
use Prim.Native.Nat.{ℕ}
use borrow.Author.Tests.{eqb-true}
use lib.Dec.{eqb}
use Rattle.lists.specs.Tests.{first}
use Rattle.tables.specs.Values.{stopped, at_entry, pool_of}
use Rattle.tables.specs.Steps.{Went}
use Rattle.tables.specs.Outcomes.{numbers, is}
use Rattle.tables.specs.HandsBack.{Reply, outcome_of, finished}
use Rattle.tables.specs.Free.{free_steps, free_found, free}
use Rattle.tables.specs.Calls.{frees, answer}
use Rattle.tables.specs.declared.LiveBuffer.{LiveBuffer}
use Rattle.tables.specs.declared.Pool.{Pool}
use Rattle.answering.proofs.Calls.{admitted_by}

-- 14 leaves the pool stopped
abbrev Stops : Reply → Type 0
Stops r = is 14 r.outcome ≡ true → r.pool.state ≡ stopped

finished-stops : (p : Pool) (w : Went _) → Stops (finished p w)
unfolding finished pool_of
finished-stops p w e =
    let z = eqb-true (numbers (outcome_of w.ending)).number 14 e in
    rw z

pub free-stops : (p : Pool) (a : ℕ) (xs : List ℕ) (log : ℕ) → is 14 (answer p (frees a) xs log).outcome ≡ true →
    (answer p (frees a) xs log).pool.state ≡ stopped
unfolding free free_found
free-stops p a xs log =
    admitted_by Stops p log _ (λ e. absurd (false≢true e)) (λ e. absurd (false≢true e)) (λ e. absurd (false≢true e)) (λ e. absurd (false≢true e))
    (λ e. absurd (false≢true e)) (found (first (λ b. eqb b.start.0 a) (at_entry p).live))
  where
    found : (o : Option LiveBuffer) → Stops (free_found p a xs o)
    found none = λ e. absurd (false≢true e)
    found (some b) = finished-stops p (free_steps b xs 0 (at_entry p))
