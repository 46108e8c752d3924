-- A call of the layer that answers 17 leaves the layer as it came: it is in no trace, and may be asked again.
use mathlib.Core.Path.{◌≡◌, refl, ap}
use mathlib.Core.Bool.{true, false, cond, not, false≢true}
use mathlib.Core.List.{List}
use mathlib.Core.Option.{Option, some, none}
use Prim.Native.Nat.{ℕ, ◌*◌, ◌/◌}
use borrow.Author.Tests.{eqb-true}
use lib.Dec.{ltb, leb, eqb}
use lib.ListN.{length, drop}
use Rattle.lists.specs.Tests.{first}
use Rattle.words.specs.Answers.{lent}
use Rattle.words.specs.declared.Answer.{Answer}
use Rattle.words.specs.declared.Answer.TheVariants.{Done, Failed, Missing}
use Rattle.tables.specs.Values.{closed}
use Rattle.tables.specs.Outcomes.{numbers, is}
use Rattle.tables.specs.HandsBack as PoolHandsBack
use Rattle.tables.specs.Calls as PoolCalls
use Rattle.tables.specs.Calls.{Call, mallocs, frees, closes}
use Rattle.tables.specs.declared.Outcome.{Outcome}
use Rattle.answering.proofs.Calls.{either_way}
use Rattle.answering.proofs.Unchanged.{call-unchanged}
use Rattle.manager_rules.specs.Values.{SMALLS, small, with_pool}
use Rattle.manager_rules.specs.Sizes.{Request, unfit, smaller, whole, request}
use Rattle.manager_rules.specs.WellFormed.{well_formed}
use Rattle.manager_rules.specs.HandsBack.{Reply}
use Rattle.manager_rules.specs.Malloc.{whole_malloc, incredible, small_answered, small_malloc, served, malloc}
use Rattle.manager_rules.specs.Free.{whole_free, drop_answered, free_found, free}
use Rattle.manager_rules.specs.Close.{close_served, close}
use Rattle.manager_rules.specs.Calls.{answer}
use Rattle.manager_rules.specs.declared.SmallBuffer.{SmallBuffer}
use Rattle.manager_rules.specs.declared.Manager.{Manager}
use Rattle.manager_rules.proofs.Own.{admitted-entered}

-- 17 is not 0
not-zero : (o : Outcome) → is 17 o ≡ true → is 0 o ≡ false
not-zero o e = let z : (numbers o).number ≡ 17 = eqb-true (numbers o).number 17 e in rw z

module _ (m : Manager) where
  abbrev Stays : Reply → Type 0
  Stays r = is 17 r.outcome ≡ true → r.manager ≡ m

  -- the pool's own answer, whatever the layer does at 0
  pool-stays : (c : Call) (xs : List ℕ) (log : ℕ) (z : Manager) → let r = PoolCalls.answer m.pool c xs log in
      is 17 r.outcome ≡ true → cond (is 0 r.outcome) z (with_pool m r.pool) ≡ m
  pool-stays c xs log z e =
      let r = PoolCalls.answer m.pool c xs log in
      rw (not-zero r.outcome e) (ap (with_pool m) ((call-unchanged m.pool c xs log).short e))

  small-stays : (n s : ℕ) (x : Answer) → Stays (small_answered m n s x)
  unfolding small_answered
  small-stays n s Missing = λ _. refl
  small-stays n s (Failed c) = λ e. absurd (false≢true e)
  small-stays n s (Done a) = either_way Stays (incredible m a) _ _ (λ e. absurd (false≢true e)) (λ e. absurd (false≢true e))

  served-stays : (n s : ℕ) (xs : List ℕ) (log : ℕ) (q : Request) → Stays (served m n s xs log q)
  unfolding served small_malloc whole_malloc
  served-stays n s xs log unfit = λ e. refl
  served-stays n s xs log smaller = either_way Stays (leb SMALLS m.small.count) _ _ (λ e. refl) (small-stays n s (lent xs 0))
  served-stays n s xs log (whole k) = λ e. pool-stays (mallocs k s) xs log _ e

  drop-stays : (b : SmallBuffer) (x : Answer) → Stays (drop_answered m b x)
  unfolding drop_answered
  drop-stays b Missing e = refl
  drop-stays b (Failed c) e = refl
  drop-stays b (Done v) e = absurd (false≢true e)

  found-stays : (a : ℕ) (xs : List ℕ) (log : ℕ) (o : Option SmallBuffer) → Stays (free_found m a xs log o)
  unfolding free_found whole_free
  found-stays a xs log none = λ e. pool-stays (frees a) xs log _ e
  found-stays a xs log (some b) = drop-stays b (lent xs 0)

  close-stays : (xs : List ℕ) (log : ℕ) → Stays (close m xs log)
  unfolding close close_served
  close-stays xs log =
      let r = PoolCalls.answer m.pool closes (drop (2 * length (small m)) xs) log in
      either_way Stays (eqb m.pool.state closed) _ _ (λ _. refl)
      (either_way Stays (not (well_formed m)) _ _ (λ _. refl)
      (either_way Stays (PoolHandsBack.short_log log) _ _ (λ _. refl)
      (either_way Stays (ltb (length xs / 2) (length (small m))) _ _ (λ _. refl) (λ e. rw e))))

  pub short-stays : (c : Call) (xs : List ℕ) (log : ℕ) → is 17 (answer m c xs log).outcome ≡ true → (answer m c xs log).manager ≡ m
  unfolding malloc free
  short-stays (mallocs n s) xs log =
      admitted-entered Stays m log _ (λ _. refl) (λ _. refl) (λ _. refl) (λ _. refl) (λ _. refl) (λ _.
      served-stays n s xs log (request m.pool.page n))
  short-stays (frees a) xs log =
      admitted-entered Stays m log _ (λ _. refl) (λ _. refl) (λ _. refl) (λ _. refl) (λ _. refl) (λ _.
      found-stays a xs log (first (λ b. eqb b.pointer a) (small m)))
  short-stays closes xs log = close-stays xs log
