-- An entry of a trace, a call's line, its records and its result: what each of the two outer lines does to the judge.
use mathlib.Core.Path.{◌≡◌, refl, ap}
use mathlib.Core.Bool.{true, false, cond, not}
use mathlib.Core.List.{List, [], ◌∷◌, ◌++◌}
use Prim.Native.Nat.{ℕ}
use lib.Dec.{eqb}
use Rattle.lists.proofs.Every.{and-true}
use Rattle.tables.specs.declared.Outcome.{Outcome}
use Rattle.trace.specs.Kinds.{malloc_line, free_line, close_line, result_line}
use Rattle.trace.specs.declared.Line.{Line}
use Rattle.trace.specs.declared.Reading.TheVariants.{Good}
use Rattle.judge_rules.specs.Said.{said}
use Rattle.judge_rules.specs.Rules.{Judge, R0}
use Rattle.judge_rules.specs.Verdict as Verdict
use Rattle.judge_rules.specs.declared.Run.{Run}
use Rattle.judge_rules.specs.declared.Call.TheVariants.{Malloc, Free, Close}
use Rattle.agreement.specs.Premises.{credible}
use Rattle.agreement.specs.Agrees.{Inside}
use Rattle.agreement.specs.Judges.{read, Reach, Fair, addresses, ReachedBy}
use Rattle.agreement.proofs.Reading.{breaks-first, breaks_second, reach_then, fair-first, fair_second}

-- a call line that is no open's, between calls
abbrev Between : Run → Type 0
Between run = (run.opened ≡ true) × (run.waiting ≡ false)

pub step-malloc : (n k : ℕ) (s : Judge) → Between s.run → Verdict.step s (Good (malloc_line n k)) ≡ Verdict.on (Verdict.called Malloc s (malloc_line n k))
unfolding said Verdict.judged Verdict.taken Verdict.ruled R0
step-malloc n k s b = rw (b.0, b.1)

pub step-free : (a : ℕ) (s : Judge) → Between s.run → Verdict.step s (Good (free_line a)) ≡ Verdict.on (Verdict.called Free s (free_line a))
unfolding said Verdict.judged Verdict.taken Verdict.ruled R0
step-free a s b = rw (b.0, b.1)

pub step-close : (s : Judge) → Between s.run → Verdict.step s (Good close_line) ≡ Verdict.on (Verdict.called Close s close_line)
unfolding said Verdict.judged Verdict.taken Verdict.ruled R0
step-close s b = rw (b.0, b.1)

-- a result inside a call
pub step-result : (a b m : ℕ) (s : Judge) → Inside s.run →
    Verdict.step s (Good (result_line a b m)) ≡ cond (eqb m 0) (Verdict.answered s.run.asked.call (Verdict.told s) a b) (Verdict.on (Verdict.told s))
unfolding said Verdict.judged Verdict.taken Verdict.ruled R0
step-result a b m s i = rw (i.opened, i.waiting, i.over)

-- it is credible, unless it is 15
pub credible-result : (a b m : ℕ) → eqb m 15 ≡ false → credible (result_line a b m) ≡ true
unfolding credible said
credible-result a b m e = cc (ap not e)

-- an answer 0, 0, 1 after a close with result 0
pub step-over : (s : Judge) → s.run.opened ≡ true → s.run.waiting ≡ true → s.run.over ≡ true →
    Verdict.step s (Good (result_line 0 0 1)) ≡ Verdict.on (Verdict.told s)
unfolding said Verdict.judged Verdict.taken Verdict.ruled R0
step-over s o w v = rw (o, w, v)

-- The whole entry, where the call's line leads to the state `z`.
module _ (s z : Judge) (call : Line) (e : Verdict.step s (Good call) ≡ Verdict.on z) where
  starts : read s (call ∷ []) ≡ Verdict.on z
  starts = rw e

  pub fair-records : (records : List Line) (result : Line) → Fair (addresses s.mapped) (call ∷ (records ++ (result ∷ []))) → Fair (addresses z.mapped) records
  fair-records records result f =
      fair-first (addresses z.mapped) records (result ∷ []) (fair_second s (call ∷ []) (records ++ (result ∷ [])) z starts f)

  module _ (plain : credible call ≡ true) where
    pub reach-entry : (records : List Line) (result : Line) (R : Judge → Type 0) → Reach z records (λ y. Reach y (result ∷ []) R) →
        Reach s (call ∷ (records ++ (result ∷ []))) R
    reach-entry records result R r =
        let one : Reach s (call ∷ []) (λ _. Unit {0}) = record { state = z; reads = starts; credible = and-true (credible call) true plain refl; holds = tt } in
        reach_then one (reach_then r r.holds)

    -- the same, of a call that answers `o`: where a record is rejected, the entry is
    pub entry-reached : (o : Outcome) (records : List Line) (result : Line) (R : Judge → Type 0) → ReachedBy o z records (λ y. Reach y (result ∷ []) R) →
        ReachedBy o s (call ∷ (records ++ (result ∷ []))) R
    entry-reached o records result R r =
        record {
          breaks = λ q. breaks_second s (call ∷ []) (records ++ (result ∷ [])) z starts (breaks-first z records (result ∷ []) (r.breaks q));
          reaches = λ x. reach-entry records result R (r.reaches x);
        }
