-- An opening that succeeds: the judge, which has read nothing, agrees with empty tables, and after its result with the pool's.
use mathlib.Core.Path.{◌≡◌, refl, ap, sym, ◌∙◌, subst}
use mathlib.Core.Bool.{Bool, true, false, cond, false≢true}
use mathlib.Core.List.{List, [], ◌∷◌, map}
use Prim.Native.Nat.{ℕ, ◌<◌}
use native.Mathlib.Omega.{arith}
use borrow.Author.Tests.{eqb-true, ne_eqb}
use lib.Dec.{ltb, eqb}
use lib.ListN.{length}
use Rattle.lists.proofs.Tests.{neither}
use Rattle.lists.proofs.Every.{and-true}
use Rattle.tables.specs.Bounds.{LOG}
use Rattle.tables.specs.Values.{Tables, opened, pool_of, no_tables, closed_pool}
use Rattle.tables.specs.Outcomes.{numbers, is}
use Rattle.tables.specs.Steps.{Ending, on, ends}
use Rattle.tables.specs.HandsBack.{refused, outcome_of}
use Rattle.tables.specs.Open.{page_size, open_steps, bad_configuration, pool_opened, open_finished, open_pool}
use Rattle.tables.specs.declared.Outcome.{Outcome}
use Rattle.tables.specs.declared.Outcome.TheVariants.{ShortLog, BadConfiguration}
use Rattle.trace.specs.Kinds.{of_record, open_line}
use Rattle.trace.specs.declared.Line.{Line}
use Rattle.trace.specs.declared.Reading.TheVariants.{Good}
use Rattle.keeping.specs.Sound.{none}
use Rattle.keeping.specs.Open.{Configured}
use Rattle.keeping.proofs.Open.{configured, OpenedKept}
use Rattle.judge_rules.specs.Said.{said}
use Rattle.judge_rules.specs.Rules.{Judge, R0}
use Rattle.judge_rules.specs.Verdict as Verdict
use Rattle.judge_rules.specs.declared.Run.{Run}
use Rattle.judge_rules.specs.declared.Call.TheVariants.{Open}
use Rattle.replay_lines.specs.Traced.{result_of}
use Rattle.agreement.specs.Runs as Runs
use Rattle.agreement.specs.Runs.{Opening, entry}
use Rattle.agreement.specs.Premises.{credible}
use Rattle.agreement.specs.Agrees.{Inside, Serving, Agreeing, Ends}
use Rattle.agreement.specs.Judges.{next, Reach, Fair, excused, Reached}
use Rattle.agreement.proofs.Reading.{reach_to}
use Rattle.agreement.proofs.Entries.{step-result, credible-result, fair-records, reach-entry}
use Rattle.agreement.proofs.Standing.{Standing, stands, agrees-run}
use Rattle.agreement.proofs.Open.{judges-open_steps}

-- answer 0 is none of the others
zero_else : (o : Outcome) (n : ℕ) → is 0 o ≡ true → (0 ≡ n → ⊥) → is n o ≡ false
zero_else o n e d = let z : (numbers o).number ≡ 0 = eqb-true (numbers o).number 0 e in ap (λ x. eqb x n) z ∙ ne_eqb 0 n d

module _ (page va initial : ℕ) (positive : 0 < page) where
  abbrev line : Line
  line = open_line page va initial

  abbrev begun : Judge
  begun = Verdict.called Open Verdict.start line

  step-open : Verdict.step Verdict.start (Good line) ≡ Verdict.on begun
  unfolding said Verdict.judged Verdict.taken Verdict.ruled R0
  step-open = let some : page ≡ 0 → ⊥ = λ e. omega arith in rw (ne_eqb page 0 some)

  credible-open : credible line ≡ true
  unfolding credible said
  credible-open = refl

  serving : Serving begun.run
  serving = record { inside = record { opened = refl; waiting = refl; over = refl }; keeps = λ z. refl }

  agrees-begun : Agreeing begun.run none [] (no_tables page va) begun
  agrees-begun =
      record {
        runs = refl;
        page = refl;
        va = refl;
        reservations = record { sums = λ w. refl };
        held = λ w. refl;
        aligned = tt;
        mapped = λ x e. refl;
        active = tt;
        owned = tt;
        buffers = record { sums = λ w. refl };
        last = refl;
      }

  -- the result of an opening that succeeds
  opened-read : (o : Outcome) (t : Tables) (y : Judge) → is 0 o ≡ true → OpenedKept t → Agreeing begun.run none [] t y →
      Reach y (result_of (numbers o) ∷ []) (Standing (pool_opened t o))
  unfolding Verdict.answered
  opened-read o t y e k g =
      let z : (numbers o).number ≡ 0 = eqb-true (numbers o).number 0 e in
      let inside : Inside y.run = subst Inside (sym g.runs) serving.inside in
      let call : y.run.asked.call ≡ Open = ap (λ (r : Run). r.asked.call) g.runs in
      let rooted : eqb (length t.roots) 0 ≡ false = ne_eqb (length t.roots) 0 (λ q. omega (arith, k.rooted)) in
      let short : is 17 o ≡ false = zero_else o 17 e (λ q. omega arith) in
      let pool : pool_opened t o ≡ pool_of opened t = rw (short, rooted, e) in
      record {
        state = Verdict.told y;
        reads =
            ap (λ x. next x (λ v. Verdict.on v))
            (step-result (numbers o).first (numbers o).second (numbers o).number y inside
            ∙ (ap (λ m. cond (eqb m 0) (Verdict.answered y.run.asked.call (Verdict.told y) (numbers o).first (numbers o).second) (Verdict.on (Verdict.told y))) z
            ∙ ap (λ c. Verdict.answered c (Verdict.told y) (numbers o).first (numbers o).second) call));
        credible = and-true _ true (credible-result (numbers o).first (numbers o).second (numbers o).number (zero_else o 15 e (λ q. omega arith))) refl;
        holds = stands (record {
          tables = t;
          lost = none;
          pool = pool;
          kept = k.kept;
          opens = ap (λ (r : Run). r.opened) g.runs;
          waiting = refl;
          over = ap (λ (r : Run). r.over) g.runs;
          agrees = agrees-run _ (ap (λ (r : Run). r.page) g.runs) (ap (λ (r : Run). r.va) g.runs) g;
        });
      }

  result_accepted : (ls : List Line) (t : Tables) (e : Ending Outcome) → is 0 (outcome_of e) ≡ true →
      Reached (λ o t y. OpenedKept t × Agreeing begun.run none [] t y) (Ends begun.run none) begun ls t e →
      Reach begun ls (λ y. Reach y (result_of (numbers (outcome_of e)) ∷ []) (Standing (pool_opened t (outcome_of e))))
  result_accepted ls t (on o) e r = reach_to (λ y q. opened-read o t y e q.0 q.1) r
  result_accepted ls t (ends o) e r =
      let x : excused o ≡ false = rw (zero_else o 15 e (λ q. omega arith), zero_else o 17 e (λ q. omega arith)) in
      absurd (false≢true (sym (neither (is 0 o) (is 14 o) (r.reaches x).holds.1.0).0 ∙ e))

opening-read : (page va initial stream : ℕ) (xs : List ℕ) → Configured page va initial →
    let r = open_finished (open_steps initial stream xs 0 (no_tables page va)) in
    is 0 r.outcome ≡ true → Fair [] (entry (open_line page va initial) r) → Reach Verdict.start (entry (open_line page va initial) r) (Standing r.pool)
unfolding open_finished
opening-read page va initial stream xs c e fair =
    let z = begun page va initial c.positive in
    let w = open_steps initial stream xs 0 (no_tables page va) in
    let read = step-open page va initial c.positive in
    let ls = map of_record w.records in
    let res = result_of (numbers (outcome_of w.ending)) in
    let f = fair-records Verdict.start z (open_line page va initial) read ls res fair in
    let plain = credible-open page va initial c.positive in
    reach-entry Verdict.start z (open_line page va initial) read plain ls res (Standing (pool_opened w.tables (outcome_of w.ending)))
    (result_accepted page va initial c.positive ls w.tables w.ending e
    ((judges-open_steps (serving page va initial c.positive) page va initial stream c).reads xs 0 (no_tables page va) z (refl, agrees-begun page va initial c.positive) f))

pub open-read : (o : Opening) → let r = Runs.opened o in let l = open_line (page_size o.granularity o.override) o.va o.initial in
    is 0 r.outcome ≡ true → Fair [] (entry l r) → Reach Verdict.start (entry l r) (Standing r.pool)
unfolding open_pool
open-read o = go (ltb o.log LOG) (bad_configuration o.granularity o.override o.va o.initial) refl
  where
    page : ℕ
    page = page_size o.granularity o.override

    go : (a b : Bool) → bad_configuration o.granularity o.override o.va o.initial ≡ b →
        let r = cond a (refused closed_pool ShortLog) (cond b (refused closed_pool BadConfiguration) (open_finished (open_steps o.initial o.stream o.answers 0 (no_tables page o.va)))) in
        is 0 r.outcome ≡ true → Fair [] (entry (open_line page o.va o.initial) r) → Reach Verdict.start (entry (open_line page o.va o.initial) r) (Standing r.pool)
    go true b q e fair = absurd (false≢true e)
    go false true q e fair = absurd (false≢true e)
    go false false q e fair = opening-read page o.va o.initial o.stream o.answers (configured o.granularity o.override o.va o.initial q) e fair
