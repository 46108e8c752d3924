-- Each call, from what stands before it to what stands after it: the judge accepts the call's line, its records and its result.
use mathlib.Core.Path.{◌≡◌, refl, ap, sym, ◌∙◌, subst}
use mathlib.Core.Bool.{Bool, true, false, cond, ◌||◌, not, false≢true}
use mathlib.Core.List.{[], ◌∷◌, map}
use Prim.Native.Nat.{ℕ}
use lib.Dec.{ltb, leb, eqb}
use Rattle.lists.proofs.Tests.{neither}
use Rattle.lists.proofs.Every.{and-true}
use Rattle.tables.specs.Bounds.{IDS, LOG}
use Rattle.tables.specs.Values.{Tables, opened, closed, stopped, pool_of, at_entry}
use Rattle.tables.specs.Outcomes.{numbers, is}
use Rattle.tables.specs.Steps.{Went}
use Rattle.tables.specs.WellFormed.{well_formed}
use Rattle.tables.specs.HandsBack.{Reply, refused, outcome_of, pool_after, finished, admitted}
use Rattle.tables.specs.Calls.{Call}
use Rattle.tables.specs.declared.Pool.{Pool}
use Rattle.tables.specs.declared.Outcome.{Outcome}
use Rattle.tables.specs.declared.Outcome.TheVariants.{PoolClosed, PoolStopped, NotWellFormed, ShortLog, IdsSpent}
use Rattle.trace.specs.Kinds.{of_record, result_line}
use Rattle.keeping.specs.Sound.{Left}
use Rattle.keeping.proofs.Kept.{left_by_lem}
use Rattle.keeping.proofs.WellFormedLeaves.{read_back, well_formed_lem}
use Rattle.judge_rules.specs.Rules.{Judge}
use Rattle.judge_rules.specs.Verdict as Verdict
use Rattle.judge_rules.specs.declared.Run.{Run}
use Rattle.replay_lines.specs.Traced.{line_of, result_of}
use Rattle.agreement.specs.Runs.{entry}
use Rattle.agreement.specs.Agrees.{Inside, Ended}
use Rattle.agreement.specs.Judges.{next, Reach, Fair, addresses, excused, ReachedBy}
use Rattle.agreement.proofs.Entries.{step-result, credible-result, fair-records, entry-reached}
use Rattle.agreement.proofs.Standing.{
  Stands,
  Standing,
  stands,
  call_of,
  calling,
  step_call,
  credible-call,
  agrees-run,
  inside_calling,
  result-read,
  refused-read,
}

-- What is to be shown of a call that answers `r`.
abbrev pub Read : Call → Pool → Judge → Reply → Type 0
Read c p s r = Fair (addresses s.mapped) (entry (line_of c) r) → ReachedBy r.outcome s (entry (line_of c) r) (Standing r.pool)

module _ (p : Pool) (s : Judge) (h : Stands p s) where
  pub state-open : p.state ≡ opened
  unfolding pool_of
  state-open = ap (λ (q : Pool). q.state) h.pool

  pub formed : well_formed p ≡ true
  formed = ap well_formed h.pool ∙ well_formed_lem h.lost h.tables h.kept

  pub entry-tables : at_entry p ≡ h.tables
  entry-tables = ap at_entry h.pool ∙ read_back h.lost opened h.tables h.kept.sound

  -- 4 and 5 leave an open pool as it is; 1, 2 and 3 don't occur
  pub admitted-read : (c : Call) (log : ℕ) (r : Reply) → Read c p s r → Read c p s (admitted p log r)
  unfolding admitted
  admitted-read c log r f =
      go (eqb p.state closed) (eqb p.state stopped) (not (well_formed p)) (ltb log LOG) (leb IDS p.counter)
      (ap (λ x. eqb x closed) state-open) (ap (λ x. eqb x stopped) state-open) (ap not formed)
    where
      go : (a b d e g : Bool) → a ≡ false → b ≡ false → d ≡ false →
          Read c p s (cond a (refused p PoolClosed) (cond b (refused p PoolStopped) (cond d (refused p NotWellFormed) (cond e (refused p ShortLog) (cond g (refused p IdsSpent) r)))))
      go true b d e g x y z = absurd (false≢true (sym x))
      go false true d e g x y z = absurd (false≢true (sym y))
      go false false true e g x y z = absurd (false≢true (sym z))
      go false false false true g x y z = λ _. refused-read c p s ShortLog refl refl h
      go false false false false true x y z = λ _. refused-read c p s IdsSpent refl refl h
      go false false false false false x y z = f

-- A result with answer 0, of a judge that is inside the call `c`.
module _ (c : Call) (s y : Judge) (same : y.run ≡ (calling c s).run) (over : s.run.over ≡ false) where
  call-is : y.run.asked.call ≡ call_of c
  call-is = ap (λ (r : Run). r.asked.call) same

  inside_here : Inside y.run
  inside_here = subst Inside (sym same) (inside_calling c s over)

  pub done-read : (a b : ℕ) (z : Judge) (R : Judge → Type 0) → Verdict.answered (call_of c) (Verdict.told y) a b ≡ Verdict.on z → R z → Reach y (result_line a b 0 ∷ []) R
  done-read a b z R e r =
      record {
        state = z;
        reads =
            ap (λ x. next x (λ v. Verdict.on v))
            (step-result a b 0 y inside_here ∙ (ap (λ k. Verdict.answered k (Verdict.told y) a b) call-is ∙ e));
        credible = and-true _ true (credible-result a b 0 refl) refl;
        holds = r;
      }

-- An early end that is not excused: its number is not 0, and the pool is kept.
pub ended-read : (c : Call) (p : Pool) (s y : Judge) (o : Outcome) (lost : ℕ → ℕ) (t : Tables) → s.run.over ≡ false → Left lost o t → Ended (calling c s).run o t y → excused o ≡ false →
    Reach y (result_of (numbers o) ∷ []) (Standing (pool_after p t o))
ended-read c p s y o lost t over left e x =
    let n = neither (is 0 o) (is 14 o) e.0 in
    let q = neither (is 15 o) (is 17 o) x in
    let stopped-not : (is 14 o || is 15 o) ≡ false = rw (n.1, q.0) in
    let after : pool_after p t o ≡ pool_of opened t = rw (q.1, n.1, q.0) in
    let run : y.run ≡ (calling c s).run = e.1.runs in
    result-read o y n.0 q.0 (inside_here c s y run over) (Standing (pool_after p t o)) (stands (record {
      tables = t;
      lost = lost;
      pool = after;
      kept = (left_by_lem lost o t left).kept q.1 stopped-not;
      opens = ap (λ (r : Run). r.opened) run;
      waiting = refl;
      over = ap (λ (r : Run). r.over) run ∙ over;
      agrees = agrees-run _ (ap (λ (r : Run). r.page) run) (ap (λ (r : Run). r.va) run) e.1;
    }))

-- A call that went: its line leads into it, then its records and its result are read.
pub finished-read : (c : Call) (p : Pool) (s : Judge) → Stands p s → (w : Went Outcome) →
    (Fair (addresses (calling c s).mapped) (map of_record w.records) →
    ReachedBy (outcome_of w.ending) (calling c s) (map of_record w.records)
    (λ y. Reach y (result_of (numbers (outcome_of w.ending)) ∷ []) (Standing (pool_after p w.tables (outcome_of w.ending))))) →
    Read c p s (finished p w)
unfolding finished
finished-read c p s h w reads fair =
    let entered = step_call c s h.opens h.waiting in
    let records = map of_record w.records in
    let result = result_of (numbers (outcome_of w.ending)) in
    entry-reached s (calling c s) (line_of c) entered (credible-call c) (outcome_of w.ending) records result (Standing (pool_after p w.tables (outcome_of w.ending)))
    (reads (fair-records s (calling c s) (line_of c) entered records result fair))
