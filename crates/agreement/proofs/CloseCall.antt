-- A close: refused with 4 where the log is short, or done; then its result ends the run.
use mathlib.Core.Path.{◌≡◌, refl, ap, sym, subst}
use mathlib.Core.Bool.{Bool, true, false, cond, not, false≢true}
use mathlib.Core.List.{List, [], ◌∷◌, map}
use Prim.Native.Nat.{ℕ}
use lib.Dec.{ltb, eqb}
use Rattle.words.specs.declared.Record.{Record}
use Rattle.tables.specs.Bounds.{LOG}
use Rattle.tables.specs.Values.{Tables, closed, at_entry, closed_pool}
use Rattle.tables.specs.Outcomes.{numbers}
use Rattle.tables.specs.Steps.{Ending, on, ends, Went}
use Rattle.tables.specs.WellFormed.{well_formed}
use Rattle.tables.specs.HandsBack.{refused}
use Rattle.tables.specs.Close.{close_steps, failures, close_finished, close}
use Rattle.tables.specs.Calls.{closes}
use Rattle.tables.specs.declared.Pool.{Pool}
use Rattle.tables.specs.declared.Outcome.TheVariants.{Closed, PoolClosed, NotWellFormed, ShortLog}
use Rattle.trace.specs.Kinds.{of_record, close_line}
use Rattle.spare_answers.proofs.Calls.{closed-records}
use Rattle.judge_rules.specs.Rules.{Judge}
use Rattle.judge_rules.specs.Verdict.{told, answered}
use Rattle.judge_rules.specs.Verdict as Verdict
use Rattle.judge_rules.specs.declared.Run.{Run}
use Rattle.replay_lines.specs.Traced.{result_of}
use Rattle.agreement.specs.Judges.{Reach, Fair, addresses, ReachedBy, Reached}
use Rattle.agreement.proofs.Reading.{reach_to}
use Rattle.agreement.proofs.Judges.{all_read}
use Rattle.agreement.proofs.Close.{judges-close_steps}
use Rattle.agreement.proofs.Entries.{fair-records, entry-reached}
use Rattle.agreement.proofs.Standing.{Stands, Standing, ended, calling, step_call, credible-call, inside_calling, agrees_calling, refused-read}
use Rattle.agreement.proofs.Calls.{Read, entry-tables, state-open, formed, done-read}

module _ (s : Judge) (over : s.run.over ≡ false) where
  closed-read : (y : Judge) (n : ℕ) → y.run ≡ (calling closes s).run → Reach y (result_of (numbers (Closed n)) ∷ []) (Standing closed_pool)
  unfolding answered
  closed-read y n same =
      done-read closes s y same over n 0 (Verdict.closed (told y)) (Standing closed_pool) refl
      (ended (record { pool = refl; opens = ap (λ (r : Run). r.opened) same; waiting = refl; over = refl }))

  result_accepted : (p : Pool) (rs : List Record) (t : Tables) (e : Ending (Unit {0})) →
      Reached (λ _ t y. y.run ≡ (calling closes s).run) (λ _ _ _. ⊥) (calling closes s) (map of_record rs) t e →
      ReachedBy (close_finished p rs e).outcome (calling closes s) (map of_record (close_finished p rs e).records)
      (λ y. Reach y (result_of (numbers (close_finished p rs e).outcome) ∷ []) (Standing (close_finished p rs e).pool))
  unfolding close_finished
  result_accepted p rs t (on u) r =
      all_read (Closed (failures rs)) refl (λ _. reach_to (λ y q. closed-read y (failures rs) q) r)
  result_accepted p rs t (ends o) r = record { breaks = r.breaks; reaches = λ x. absurd (r.reaches x).holds }

module _ (p : Pool) (s : Judge) (h : Stands p s) where
  served : (xs : List ℕ) (w : Went (Unit {0})) → w ≡ close_steps xs 0 h.tables → Read closes p s (close_finished p w.records w.ending)
  served xs w e fair =
      let z = calling closes s in
      let r = close_finished p w.records w.ending in
      let read = step_call closes s h.opens h.waiting in
      let f = fair-records s z close_line read (map of_record r.records) (result_of (numbers r.outcome)) fair in
      let same = closed-records p w.records w.ending in
      entry-reached s z close_line read (credible-call closes) r.outcome (map of_record r.records) (result_of (numbers r.outcome)) (Standing r.pool)
      (result_accepted s h.over p w.records w.tables w.ending (reached w e (subst (λ rs. Fair (addresses s.mapped) (map of_record rs)) same f)))
    where
      reached : (w : Went (Unit {0})) → w ≡ close_steps xs 0 h.tables → Fair (addresses s.mapped) (map of_record w.records) →
          Reached (λ _ t y. y.run ≡ (calling closes s).run) (λ _ _ _. ⊥) (calling closes s) (map of_record w.records) w.tables w.ending
      reached w e f =
          subst (λ w. Fair (addresses s.mapped) (map of_record w.records) →
          Reached (λ _ t y. y.run ≡ (calling closes s).run) (λ _ _ _. ⊥) (calling closes s) (map of_record w.records) w.tables w.ending) (sym e)
          (λ f. (judges-close_steps (calling closes s).run (inside_calling closes s h.over) refl h.lost h.tables h.kept {E = λ _ _ _. ⊥}).reads xs 0 h.tables (calling closes s)
          (refl, agrees_calling closes h.agrees) f) f

  pub close-read : (xs : List ℕ) (log : ℕ) → Read closes p s (close p xs log)
  unfolding close
  close-read xs log =
      go (eqb p.state closed) (not (well_formed p)) (ltb log LOG) (ap (λ x. eqb x closed) (state-open p s h)) (ap not (formed p s h))
    where
      w : Went (Unit {0})
      w = close_steps xs 0 (at_entry p)

      go : (a b d : Bool) → a ≡ false → b ≡ false →
          Read closes p s (cond a (refused p PoolClosed) (cond b (refused p NotWellFormed) (cond d (refused p ShortLog) (close_finished p w.records w.ending))))
      go true b d x y = absurd (false≢true (sym x))
      go false true d x y = absurd (false≢true (sym y))
      go false false true x y = λ _. refused-read closes p s ShortLog refl refl h
      go false false false x y = served xs w (ap (close_steps xs 0) (entry-tables p s h))
