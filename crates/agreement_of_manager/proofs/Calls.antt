-- A malloc and a free of the layer: what is the driver's own stands in the trace as asides, and what is asked of the pool is the pool's own call.
use mathlib.Core.Path.{◌≡◌, refl, ap, sym, ◌∙◌, subst}
use mathlib.Core.Logic.{◌⊎◌, inl, inr}
use mathlib.Core.Bool.{Bool, true, false, cond, ◌||◌}
use mathlib.Core.List.{List, [], ◌∷◌, map}
use mathlib.Core.Option.{Option, some, none}
use Prim.Native.Nat.{ℕ}
use native.Mathlib.Omega.{arith}
use lib.Dec.{leb, eqb}
use Rattle.lists.specs.Tests.{every, any, first}
use Rattle.words.specs.Answers.{lent}
use Rattle.words.specs.declared.Answer.{Answer}
use Rattle.words.specs.declared.Answer.TheVariants.{Done, Failed, Missing}
use Rattle.tables.specs.Values.{opened, stopped}
use Rattle.tables.specs.Outcomes.{numbers, is}
use Rattle.tables.specs.HandsBack as PoolHandsBack
use Rattle.tables.specs.Calls as PoolCalls
use Rattle.tables.specs.Calls.{Call, mallocs, frees}
use Rattle.tables.specs.declared.Pool.{Pool}
use Rattle.tables.specs.declared.Outcome.{Outcome}
use Rattle.tables.specs.declared.Outcome.TheVariants.{PoolClosed, PoolStopped, NotWellFormed, ShortLog, IdsSpent, BadSize, SmallBuffersFull}
use Rattle.trace.specs.Kinds.{of_record, malloc_line, free_line}
use Rattle.answering.proofs.Calls.{either_way}
use Rattle.judge_rules.specs.Rules.{Judge}
use Rattle.replay_lines.specs.Traced.{line_of}
use Rattle.agreement.specs.Runs as Runs
use Rattle.agreement.specs.Premises.{credible}
use Rattle.agreement.specs.Judges.{Reach, Fair, addresses}
use Rattle.agreement.proofs.Reading.{reach_to}
use Rattle.agreement.proofs.Standing.{Stands, Standing}
use Rattle.agreement.proofs.Calls.{Read}
use Rattle.agreement.proofs.MallocCall as Malloc
use Rattle.agreement.proofs.FreeCall as Free
use Rattle.agreement.proofs.Run.{Rests, credible-entry}
use Rattle.manager_rules.specs.Values.{SMALLS, small, with_pool}
use Rattle.manager_rules.specs.Sizes.{Request, unfit, smaller, whole, request}
use Rattle.manager_rules.specs.HandsBack.{Reply, refused, admitted}
use Rattle.manager_rules.specs.Malloc.{grown, whole_malloc, incredible, stopped_pool, small_answered, small_malloc, served, malloc}
use Rattle.manager_rules.specs.Free.{lowered, whole_free, drop_answered, free_found, free}
use Rattle.manager_rules.specs.declared.SmallBuffer.{SmallBuffer}
use Rattle.manager_rules.specs.declared.Manager.{Manager}
use Rattle.manager_rules.proofs.Own.{Entered, admitted-entered}
use Rattle.agreement_of_manager.specs.LayerRuns.{entry, malloc_lines}
use Rattle.agreement_of_manager.proofs.Asides.{asides-reach, small_asides, drop_asides}
use Rattle.agreement_of_manager.proofs.Layered.{
  Beneath,
  Layered,
  goes,
  layered,
  rests,
  stops,
  Reads,
  LayerReads,
  none_read,
  refusal-entry,
}

-- A call of the pool that is in the trace, where no result is 15.
pub credibly : (c : Call) (p : Pool) (s : Judge) (r : PoolHandsBack.Reply) → Read c p s r → Fair (addresses s.mapped) (Runs.entry (line_of c) r) →
    every credible (Runs.entry (line_of c) r) ≡ true → is 17 r.outcome ≡ false → Reach s (Runs.entry (line_of c) r) (Standing r.pool)
credibly c p s r reads fair plain long = (reads fair).reaches (rw (credible-entry (line_of c) r plain, long))

-- The first that passes a test is there where some element does.
first_any : {A : Type 0} (p : A → Bool) (K : Bool → Option A → Type 0) → K false none → ((x : A) → K true (some x)) → (l : List A) → K (any p l) (first p l)
first_any p K missed found [] = missed
first_any {A} p K missed found (x ∷ l) = go (p x) (first_any p K missed found l)
  where
    go : (b : Bool) → K (any p l) (first p l) → K (b || any p l) (cond b (some x) (first p l))
    go true rest = found x
    go false rest = rest

module _ (m : Manager) (s : Judge) (h : Beneath m.pool s) where
  -- what is served is open, and so it is the pool that the judge agrees with
  entered-stands : Entered m → Stands m.pool s
  entered-stands e = go h.same
    where
      go : (m.pool ≡ h.under) ⊎ (m.pool ≡ stopped_pool h.under) → Stands m.pool s
      go (inl q) = subst (λ p. Stands p s) (sym q) h.agrees
      go (inr q) = let z : ◌≡◌ {A = ℕ} opened stopped = sym e.running ∙ ap (λ (p : Pool). p.state) q in absurd (omega arith)

  -- the lines of a call that the pool is not asked for
  abbrev Passes : Reply → Type 0
  Passes r = Reach s (map of_record r.records) (Layered r.manager.pool)

  nothing-passes : Reach s [] (Layered m.pool)
  nothing-passes = none_read s _ (goes h)

  at_rest : Rests s
  at_rest = rests m.pool s (goes h)

  -- 1 to 5, before a call that the pool is not asked for, and before one that it is asked for
  admitted-passes : (log : ℕ) (r : Reply) → Passes r → Passes (admitted m log r)
  admitted-passes log r p =
      let no = nothing-passes in
      admitted-entered Passes m log r no no no no no (λ _. p)

  abbrev Asks : Call → Reply → Type 0
  Asks d r = Reads s (entry (line_of d) r.records r.outcome) r

  admitted_asks : (d : Call) (log : ℕ) (r : Reply) → (Stands m.pool s → Asks d r) → Asks d (admitted m log r)
  admitted_asks d log r f =
      let no : (o : Outcome) → is 0 o ≡ false → is 15 o ≡ false → Asks d (refused m o) = λ o e n. refusal-entry m s d o e n h in
      admitted-entered (Asks d) m log r (no PoolClosed refl refl) (no PoolStopped refl refl) (no NotWellFormed refl refl) (no ShortLog refl refl)
      (no IdsSpent refl refl) (λ e. f (entered-stands e))

  -- A small malloc: 15 stops the pool, and the judge doesn't hear of it.
  small-leaves : (n k : ℕ) (x : Answer) → Layered (small_answered m n k x).manager.pool s
  unfolding small_answered
  small-leaves n k Missing = goes h
  small-leaves n k (Failed c) = goes h
  small-leaves n k (Done a) = either_way (λ (r : Reply). Layered r.manager.pool s) (incredible m a) _ _ (goes (stops m.pool s h)) (goes h)

  small_malloc-passes : (n k : ℕ) (xs : List ℕ) → Passes (small_malloc m n k xs)
  unfolding small_malloc
  small_malloc-passes n k xs =
      let r = small_answered m n k (lent xs 0) in
      either_way Passes (leb SMALLS m.small.count) (refused m SmallBuffersFull) r nothing-passes
      (asides-reach s r.records (small_asides m n k (lent xs 0)) at_rest (Layered r.manager.pool) (small-leaves n k (lent xs 0)))

  -- a malloc of whole pages, and a free of the pool's: the layer's tests before it were the pool's
  whole_malloc-reads : Stands m.pool s → (b k : ℕ) (xs : List ℕ) (log : ℕ) →
      let r = whole_malloc m b k xs log in Reads s (entry (malloc_line b k) r.records r.outcome) r
  unfolding whole_malloc
  whole_malloc-reads st b k xs log fair plain long =
      let r = PoolCalls.answer m.pool (mallocs b k) xs log in
      let q = with_pool m r.pool in
      let l = grown b q in
      let e : r.pool ≡ (cond (is 0 r.outcome) l q).pool = either_way (λ (z : Manager). r.pool ≡ z.pool) (is 0 r.outcome) l q refl refl in
      reach_to (λ z g. subst (λ p. Layered p z) e (layered r.pool z g))
      (credibly (mallocs b k) m.pool s r (Malloc.malloc-read b k m.pool s st xs log) fair plain long)

  whole_free-reads : Stands m.pool s → (a : ℕ) (xs : List ℕ) (log : ℕ) →
      let r = whole_free m a xs log in Reads s (entry (free_line a) r.records r.outcome) r
  unfolding whole_free
  whole_free-reads st a xs log fair plain long =
      let r = PoolCalls.answer m.pool (frees a) xs log in
      let q = with_pool m r.pool in
      let l = lowered (numbers r.outcome).first q in
      let e : r.pool ≡ (cond (is 0 r.outcome) l q).pool = either_way (λ (z : Manager). r.pool ≡ z.pool) (is 0 r.outcome) l q refl refl in
      reach_to (λ z g. subst (λ p. Layered p z) e (layered r.pool z g))
      (credibly (frees a) m.pool s r (Free.free-read m.pool s st a xs log) fair plain long)

  unfit-passes : (n log : ℕ) → Reach s [] (Layered (admitted m log (refused m (BadSize n))).manager.pool)
  unfit-passes n log =
      let K : Reply → Type 0 = λ r. Reach s [] (Layered r.manager.pool) in
      let no = nothing-passes in
      admitted-entered K m log (refused m (BadSize n)) no no no no no (λ _. no)

  pub malloc-reads : (n k : ℕ) (xs : List ℕ) (log : ℕ) → LayerReads m (mallocs n k) s (malloc m n k xs log)
  unfolding malloc served
  malloc-reads n k xs log = go (request m.pool.page n)
    where
      go : (q : Request) → let r = admitted m log (served m n k xs log q) in Reads s (malloc_lines q k r) r
      go unfit = λ _ _ _. unfit-passes n log
      go smaller = λ _ _ _. admitted-passes log (small_malloc m n k xs) (small_malloc-passes n k xs)
      go (whole b) = admitted_asks (mallocs b k) log (whole_malloc m b k xs log) (λ st. whole_malloc-reads st b k xs log)

  -- a small buffer's free leaves the pool as it was
  drop-leaves : (b : SmallBuffer) (x : Answer) → Layered (drop_answered m b x).manager.pool s
  unfolding drop_answered
  drop-leaves b Missing = goes h
  drop-leaves b (Failed c) = goes h
  drop-leaves b (Done v) = goes h

  drop-passes : (b : SmallBuffer) (x : Answer) → Passes (drop_answered m b x)
  drop-passes b x =
      let r = drop_answered m b x in
      asides-reach s r.records (drop_asides m b x) at_rest (Layered r.manager.pool) (drop-leaves b x)

  pub free-reads : (a : ℕ) (xs : List ℕ) (log : ℕ) → LayerReads m (frees a) s (free m a xs log)
  unfolding free free_found
  free-reads a xs log =
      let K : Bool → Option SmallBuffer → Type 0 =
      λ b o.
      let r = admitted m log (free_found m a xs log o) in
      Reads s (cond b (map of_record r.records) (entry (free_line a) r.records r.outcome)) r
      in
      first_any (λ b. eqb b.pointer a) K
      (admitted_asks (frees a) log (whole_free m a xs log) (λ st. whole_free-reads st a xs log))
      (λ b _ _ _. admitted-passes log (drop_answered m b (lent xs 0)) (drop-passes b (lent xs 0))) (small m)
