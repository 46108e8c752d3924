-- A triple over steps and the judge that reads their records: from tables and a judge's state of which `P` holds, the judge accepts every record of the
-- step, and then `Q` holds of what both have become, or `E` where the step ends the call. In a call that ends in 15 the judge rejects a record for
-- the same answer. Nothing is said of a call that ends in 17: it enters no trace.
use Rattle.std.specs.Prelude.{◌≡◌, ◌⊎◌, Bool, true, false, ◌||◌, List, [], ◌∷◌, map, ℕ}
use Rattle.lists.specs.Tests.{every}
use Rattle.tables.specs.Values.{Tables}
use Rattle.tables.specs.Outcomes.{is}
use Rattle.tables.specs.Steps.{Ending, on, ends, Step}
use Rattle.tables.specs.declared.Outcome.{Outcome}
use Rattle.trace.specs.Kinds.{of_record}
use Rattle.trace.specs.declared.Line.{Line}
use Rattle.trace.specs.declared.Reading.TheVariants.{Good}
use Rattle.judge_rules.specs.Rules.{Judge, Page}
use Rattle.judge_rules.specs.Verdict as Verdict
use Rattle.agreement.specs.Premises.{reliable, credible, few_mapped}

-- the judge reads one line after the other
abbrev pub next : Verdict.Step → (Judge → Verdict.Step) → Verdict.Step
next (Verdict.on s) f = f s
next (Verdict.broken rule) f = Verdict.broken rule
next (Verdict.beyond which) f = Verdict.beyond which

abbrev pub read : Judge → List Line → Verdict.Step
read s [] = Verdict.on s
read s (l ∷ ls) = next (Verdict.step s (Good l)) (λ z. read z ls)

-- the judge accepts these lines, none is an answer 15, and `R` holds of the state after them
pub record Reach (s : Judge) (lines : List Line) (R : Judge → Type 0) : Type 0 where
  pub state : Judge
  pub reads : read s lines ≡ Verdict.on state
  pub credible : every credible lines ≡ true
  pub holds : R state

-- The judge rejects one of these lines since its answer can't be true: a base by rule 1, or a handle by rule 2.
abbrev pub Breaks : Judge → List Line → Type 0
Breaks s lines = (read s lines ≡ Verdict.broken 1) ⊎ (read s lines ≡ Verdict.broken 2)

-- the premises on the lines that come, where pages are mapped at `m`
pub record Fair (m : List ℕ) (lines : List Line) : Type 0 where
  pub driver : every reliable lines ≡ true
  pub mapped : few_mapped m lines ≡ true

abbrev pub addresses : List Page → List ℕ
addresses = map (λ g. g.at)

abbrev pub excused : Outcome → Bool
excused o = is 15 o || is 17 o

-- What the judge makes of the lines of a call, or a part of one, that ends in `o`: an answer that the pool can't believe, nor can the judge.
pub record ReachedBy (o : Outcome) (s : Judge) (lines : List Line) (R : Judge → Type 0) : Type 0 where
  pub breaks : is 15 o ≡ true → Breaks s lines
  pub reaches : excused o ≡ false → Reach s lines R

abbrev pub Reached : {A : Type 0} → (A → Tables → Judge → Type 0) → (Outcome → Tables → Judge → Type 0) → Judge → List Line → Tables → Ending A → Type 0
Reached Q E s ls t (on a) = Reach s ls (Q a t)
Reached Q E s ls t (ends o) = ReachedBy o s ls (E o t)

pub record Judges {A : Type 0} (P : Tables → Judge → Type 0) (m : Step A) (Q : A → Tables → Judge → Type 0) (E : Outcome → Tables → Judge → Type 0) : Type 0 where
  pub reads : (xs : List ℕ) (k : ℕ) (t : Tables) (s : Judge) → P t s → Fair (addresses s.mapped) (map of_record (m xs k t).records) →
      Reached Q E s (map of_record (m xs k t).records) (m xs k t).tables (m xs k t).ending
