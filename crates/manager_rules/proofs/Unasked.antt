-- A malloc of a small buffer, or of a size that 6 refuses, asks nothing of the pool: it stays as it was, or is stopped where the driver's pointer is not
-- credible.
use mathlib.Core.Path.{◌≡◌, refl, sym}
use mathlib.Core.Logic.{◌⊎◌, inl, inr}
use mathlib.Core.Bool.{true, false, false≢true}
use mathlib.Core.List.{List}
use Prim.Native.Nat.{ℕ}
use lib.Dec.{leb}
use Rattle.words.specs.Answers.{lent}
use Rattle.words.specs.declared.Answer.{Answer}
use Rattle.words.specs.declared.Answer.TheVariants.{Done, Failed, Missing}
use Rattle.tables.specs.Outcomes.{is}
use Rattle.tables.specs.Calls.{mallocs}
use Rattle.tables.specs.declared.Outcome.{Outcome}
use Rattle.answering.proofs.Calls.{either_way}
use Rattle.manager_rules.specs.Values.{SMALLS}
use Rattle.manager_rules.specs.Sizes.{unfit, smaller, request}
use Rattle.manager_rules.specs.HandsBack.{Reply, refused}
use Rattle.manager_rules.specs.Malloc.{incredible, stopped_pool, small_answered, small_malloc, served, malloc}
use Rattle.manager_rules.specs.Calls.{answer}
use Rattle.manager_rules.specs.declared.Manager.{Manager}
use Rattle.manager_rules.proofs.Own.{admitted-entered}

-- the pool as it was, but that 15 stops it
pub record PoolUnasked (m : Manager) (r : Reply) : Type 0 where
  pub same : is 15 r.outcome ≡ false → r.manager.pool ≡ m.pool
  pub stops : is 15 r.outcome ≡ true → r.manager.pool ≡ stopped_pool m.pool

module _ (m : Manager) where
  left_unasked : (o : Outcome) (r : Reply) → r.outcome ≡ o → r.manager ≡ m → is 15 o ≡ false → PoolUnasked m r
  left_unasked o r e f h = record { same = λ _. rw f; stops = λ q. absurd (false≢true (rw (e, h) at q)) }

  small_unasked : (n s : ℕ) (x : Answer) → PoolUnasked m (small_answered m n s x)
  unfolding small_answered
  small_unasked n s Missing = left_unasked _ _ refl refl refl
  small_unasked n s (Failed c) = left_unasked _ _ refl refl refl
  small_unasked n s (Done a) =
      either_way (PoolUnasked m) (incredible m a) _ _
      (record { same = λ q. absurd (false≢true (sym q)); stops = λ _. refl })
      (record { same = λ _. refl; stops = λ q. absurd (false≢true q) })

  pub unasked : (n s : ℕ) (xs : List ℕ) (log : ℕ) → (request m.pool.page n ≡ unfit) ⊎ (request m.pool.page n ≡ smaller) →
      PoolUnasked m (answer m (mallocs n s) xs log)
  unfolding malloc served small_malloc
  unasked n s xs log h =
      admitted-entered (PoolUnasked m) m log _ (no _ refl) (no _ refl) (no _ refl) (no _ refl) (no _ refl) (λ _. go h)
    where
      no : (o : Outcome) → is 15 o ≡ false → PoolUnasked m (refused m o)
      no o e = left_unasked o _ refl refl e

      go : (request m.pool.page n ≡ unfit) ⊎ (request m.pool.page n ≡ smaller) → PoolUnasked m (served m n s xs log (request m.pool.page n))
      go (inl e) = rw e (no _ refl)
      go (inr e) = rw e (either_way (PoolUnasked m) (leb SMALLS m.small.count) _ _ (no _ refl) (small_unasked n s (lent xs 0)))
