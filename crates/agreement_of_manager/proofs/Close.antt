-- A close of the layer: the small buffers' records stand before its line, and then it is the pool's own close, with the answers behind theirs. A pool that a
-- small malloc stopped is closed by the same steps as the one that the judge agrees with.
use mathlib.Core.Path.{◌≡◌, refl, ap, sym, ◌∙◌, subst}
use mathlib.Core.Logic.{◌⊎◌, inl, inr}
use mathlib.Core.Bool.{true, false, cond, not, false≢true}
use mathlib.Core.List.{List, ◌++◌, map}
use Prim.Native.Nat.{ℕ, ◌+◌, ◌*◌, ◌/◌}
use native.Mathlib.Omega.{arith}
use borrow.Author.Tests.{ltb-false, not-false}
use lib.Dec.{ltb, eqb}
use lib.ListN.{length, take, drop}
use lib.Seq.{take-append_seam, drop-append_seam}
use Rattle.lists.specs.Tests.{every}
use Rattle.words.specs.declared.Record.{Record}
use Rattle.tables.specs.Values.{Tables, closed, at_entry, tables_of, closed_pool}
use Rattle.tables.specs.Outcomes.{is}
use Rattle.tables.specs.Steps.{Ending, on, ends, Went}
use Rattle.tables.specs.WellFormed as Pool
use Rattle.tables.specs.HandsBack as PoolHandsBack
use Rattle.tables.specs.HandsBack.{short_log}
use Rattle.tables.specs.Close as PoolClose
use Rattle.tables.specs.Close.{close_steps, close_finished}
use Rattle.tables.specs.Calls as PoolCalls
use Rattle.tables.specs.Calls.{closes}
use Rattle.tables.specs.declared.Pool.{Pool}
use Rattle.tables.specs.declared.Outcome.{Outcome}
use Rattle.tables.specs.declared.Outcome.TheVariants.{PoolClosed, NotWellFormed, ShortLog, AnswersRanOut}
use Rattle.trace.specs.Kinds.{of_record, close_line}
use Rattle.keeping.specs.Holds.{After}
use Rattle.answering.proofs.Calls.{tested}
use Rattle.answering.proofs.Steps.{close_steps-ends}
use Rattle.judge_rules.specs.Rules.{Judge}
use Rattle.agreement.specs.Premises.{credible}
use Rattle.agreement.specs.Judges.{Reach, Fair, addresses}
use Rattle.agreement.proofs.Reading.{reach_to, every_first, fair_second}
use Rattle.agreement.proofs.Standing.{Standing}
use Rattle.agreement.proofs.Calls.{state-open, formed}
use Rattle.agreement.proofs.CloseCall as PoolCall
use Rattle.manager_rules.specs.Values.{small, closed_manager}
use Rattle.manager_rules.specs.WellFormed.{well_formed}
use Rattle.manager_rules.specs.HandsBack.{Reply, reply}
use Rattle.manager_rules.specs.Malloc.{stopped_pool}
use Rattle.manager_rules.specs.Close.{drops, close_served, close}
use Rattle.manager_rules.specs.declared.SmallBuffer.{SmallBuffer}
use Rattle.manager_rules.specs.declared.Manager.{Manager}
use Rattle.manager_rules.proofs.Own.{formed-pool}
use Rattle.agreement_of_manager.specs.LayerRuns.{entry}
use Rattle.agreement_of_manager.proofs.Asides.{asides-read, asides_then, drops_asides, drops-length}
use Rattle.agreement_of_manager.proofs.Layered.{Beneath, Layered, goes, layered, rests, Reads, LayerReads, refusal-read}
use Rattle.agreement_of_manager.proofs.Calls.{credibly}

-- the steps of a pool's close
abbrev went : Pool → List ℕ → Went (Unit {0})
went p xs = close_steps xs 0 (at_entry p)

-- what a close leaves where its tests pass
closed-went : (p : Pool) (xs : List ℕ) (log : ℕ) → eqb p.state closed ≡ false → Pool.well_formed p ≡ true → short_log log ≡ false →
    PoolClose.close p xs log ≡ close_finished p (went p xs).records (went p xs).ending
unfolding PoolClose.close
closed-went p xs log a b c = rw (a, b, c)

-- Its outcome and records are the steps', whatever the pool was.
abbrev SameLines : PoolHandsBack.Reply → PoolHandsBack.Reply → Type 0
SameLines r q = (r.records ≡ q.records) × (r.outcome ≡ q.outcome)

finished-same : (p q : Pool) (rs : List Record) (e : Ending (Unit {0})) → SameLines (close_finished p rs e) (close_finished q rs e)
unfolding close_finished
finished-same p q rs (on u) = (refl, refl)
finished-same p q rs (ends o) = (refl, refl)

-- It closes the pool, or ends in 17.
finished-closes : (p : Pool) (rs : List Record) (t : Tables) (e : Ending (Unit {0})) → After (λ _ _. Unit {0}) (λ o _. is 17 o ≡ true) t e →
    is 17 (close_finished p rs e).outcome ≡ false → (close_finished p rs e).pool ≡ closed_pool
unfolding close_finished
finished-closes p rs t (on u) h long = refl
finished-closes p rs t (ends o) h long = absurd (false≢true (sym long ∙ h))

stopped-entry : (u : Pool) (xs : List ℕ) → went (stopped_pool u) xs ≡ went u xs
unfolding tables_of
stopped-entry u xs = refl

stopped-same : (u : Pool) (xs : List ℕ) (log : ℕ) → Pool.well_formed (stopped_pool u) ≡ true → eqb u.state closed ≡ false → Pool.well_formed u ≡ true →
    short_log log ≡ false → SameLines (PoolClose.close (stopped_pool u) xs log) (PoolClose.close u xs log)
stopped-same u xs log v a w c =
    rw (closed-went (stopped_pool u) xs log refl v c, closed-went u xs log a w c, stopped-entry u xs)
    (finished-same (stopped_pool u) u (went u xs).records (went u xs).ending)

module _ (p : Pool) (s : Judge) (h : Beneath p s) (w : Pool.well_formed p ≡ true) (xs : List ℕ) (log : ℕ) (room : short_log log ≡ false) where
  beneath-open : eqb h.under.state closed ≡ false
  beneath-open = ap (λ x. eqb x closed) (state-open h.under s h.agrees)

  beneath-same : SameLines (PoolClose.close p xs log) (PoolClose.close h.under xs log)
  beneath-same = go h.same
    where
      go : (p ≡ h.under) ⊎ (p ≡ stopped_pool h.under) → SameLines (PoolClose.close p xs log) (PoolClose.close h.under xs log)
      go (inl e) = (ap (λ q. (PoolClose.close q xs log).records) e, ap (λ q. (PoolClose.close q xs log).outcome) e)
      go (inr e) =
          subst (λ q. SameLines (PoolClose.close q xs log) (PoolClose.close h.under xs log)) (sym e)
          (stopped-same h.under xs log (subst (λ q. Pool.well_formed q ≡ true) e w) beneath-open (formed h.under s h.agrees) room)

  beneath-closes : is 17 (PoolClose.close h.under xs log).outcome ≡ false → (PoolClose.close h.under xs log).pool ≡ closed_pool
  beneath-closes =
      let u = h.under in
      rw (closed-went u xs log beneath-open (formed u s h.agrees) room)
      (finished-closes u (went u xs).records (went u xs).tables (went u xs).ending
      ((close_steps-ends (λ o. is 17 o ≡ true) refl).leaves xs 0 (at_entry u) tt))

  -- the pool's close in the trace
  entry-reads : (rs : List Record) (o : Outcome) → rs ≡ (PoolClose.close p xs log).records → o ≡ (PoolClose.close p xs log).outcome →
      Fair (addresses s.mapped) (entry close_line rs o) → every credible (entry close_line rs o) ≡ true → is 17 o ≡ false →
      Reach s (entry close_line rs o) (Layered closed_pool)
  entry-reads rs o e f =
      let u = h.under in
      rw (e, f, beneath-same.0, beneath-same.1) (λ fair plain long.
      reach_to (λ z q. layered closed_pool z (subst (λ p. Standing p z) (beneath-closes long) q))
      (credibly closes u s (PoolClose.close u xs log) (PoolCall.close-read u s h.agrees xs log) fair plain long))

-- its records are cut where the small buffers' end
parted : (ds rs : List Record) (k : ℕ) (o : Outcome) → length ds ≡ k →
    ◌≡◌ (map of_record (take k (ds ++ rs)) ++ entry close_line (drop k (ds ++ rs)) o) (map of_record ds ++ entry close_line rs o)
parted ds rs k o e = rw (← e, take-append_seam ds rs, drop-append_seam ds rs)

module _ (m : Manager) (s : Judge) (h : Beneath m.pool s) where
  -- small buffers first, then the pool
  served-reads : (xs : List ℕ) (log : ℕ) → well_formed m ≡ true → short_log log ≡ false → LayerReads m closes s (close_served m xs log)
  unfolding close_served
  served-reads xs log w room =
      tested (LayerReads m closes s) (ltb (length xs / 2) (length l)) (reply m AnswersRanOut ds) done (λ _ _ long. absurd (false≢true (sym long))) (λ enough.
      subst (λ ls. Reads s ls done)
      (sym (parted ds r.records (length l) r.outcome (drops-length xs 0 l (omega (arith, ltb-false (length xs / 2) (length l) enough))))) behind)
    where
      l : List SmallBuffer
      l = small m

      ds : List Record
      ds = drops xs 0 l

      r : PoolHandsBack.Reply
      r = PoolCalls.answer m.pool closes (drop (2 * length l) xs) log

      done : Reply
      done =
          record {
            manager = cond (is 17 r.outcome) m closed_manager;
            outcome = r.outcome;
            records = ds ++ r.records;
            taken = length l + r.taken;
          }

      behind : Reads s (map of_record ds ++ entry close_line r.records r.outcome) done
      behind fair plain long =
          let before = map of_record ds in
          let line = entry close_line r.records r.outcome in
          let asides = drops_asides xs 0 l in
          let still = rests m.pool s (goes h) in
          asides_then s ds asides still line (Layered done.manager.pool)
          (reach_to (λ z q. rw long q)
          (entry-reads m.pool s h (formed-pool m w) (drop (2 * length l) xs) log room r.records r.outcome refl refl
          (fair_second s before line s (asides-read s ds asides still) fair) (every_first credible before line plain).1 long))

  pub close-reads : (xs : List ℕ) (log : ℕ) → LayerReads m closes s (close m xs log)
  unfolding close
  close-reads xs log =
      let K = LayerReads m closes s in
      tested K (eqb m.pool.state closed) _ _ (refusal-read m s closes PoolClosed refl refl h) (λ _.
      tested K (not (well_formed m)) _ _ (refusal-read m s closes NotWellFormed refl refl h) (λ w.
      tested K (short_log log) _ _ (refusal-read m s closes ShortLog refl refl h) (λ room.
      served-reads xs log (not-false (well_formed m) w) room)))
