-- No result is 15 just where every base and every handle in the lines can be true. One way, an accepted trace breaks no rule. The other way, of a call that
-- answers 15 the judge rejects a record, by R1 or by R2.
use mathlib.Core.Path.{◌≡◌, refl, sym, ◌∙◌}
use mathlib.Core.Logic.{◌⊎◌, inl, inr, ⊎_elim}
use mathlib.Core.Bool.{Bool, true, false, cond, ◌&&◌, ◌||◌, not, false≢true}
use mathlib.Core.List.{List, [], ◌∷◌, map}
use mathlib.Core.Option.{Option, none, some}
use Prim.Native.Nat.{ℕ, ◌+◌}
use native.Mathlib.Omega.{arith}
use lib.Dec.{eqb}
use Rattle.lists.specs.Tests.{every}
use Rattle.lists.proofs.Tests.{both}
use Rattle.lists.proofs.Every.{and-true}
use Rattle.words.specs.declared.Word.{Word}
use Rattle.words.specs.declared.Word.TheVariants.{
  Reserve,
  Create,
  Map,
  Access,
  Unmap,
  Release,
  Record as RecordEvent,
  Asked as AskedFor,
  Wait,
  Sync,
  Giveback,
}
use Rattle.tables.specs.Outcomes.{is}
use Rattle.trace.specs.declared.Line.{Line}
use Rattle.trace.specs.declared.Reading.TheVariants.{Good}
use Rattle.judge_rules.specs.Said.{said}
use Rattle.judge_rules.specs.Rules.{R0, R1, R2}
use Rattle.judge_rules.specs.Verdict as Verdict
use Rattle.judge_rules.specs.SoFar.{call}
use Rattle.judge_rules.specs.Exactly.{known, Test, rule_of_result, rule_of, size_of, Fault, breaks, passes, fault_of}
use Rattle.judge_rules.specs.declared.Call.{Call}
use Rattle.judge_rules.specs.declared.Call.TheVariants.{Open, Malloc, Free, Close}
use Rattle.judge_rules.specs.declared.Said.{Said}
use Rattle.judge_rules.specs.declared.Said.TheVariants.{Record, Call as Calls, Result, Aside, Unknown}
use Rattle.judge_rules.specs.declared.Verdict.TheVariants.{Accepted}
use Rattle.judge_rules.proofs.Known.{came, step_is}
use Rattle.agreement.specs.Runs.{Lent, Opening, opened, trace_of}
use Rattle.agreement.specs.Premises.{reliable, credible, few_mapped, Premises}
use Rattle.agreement.specs.TrueAnswers.{believable, all_believable, Believed}
use Rattle.agreement.specs.Judges.{next, read, Breaks}
use Rattle.agreement.proofs.Run.{trace_unbroken}
use Rattle.agreement.proofs.Accepted.{accepted}

-- What R1 and R2 say of a line; the other tests are left out.
abbrev answer_test : Test → Bool
answer_test t = cond (eqb t.number 1 || eqb t.number 2) t.passed true

passes-answer : (t : Test) → t.passed ≡ true → answer_test t ≡ true
passes-answer t p = rw p (go (eqb t.number 1 || eqb t.number 2))
  where
    go : (b : Bool) → cond b true true ≡ true
    go true = refl
    go false = refl

fails-answer : (t : Test) (k : ℕ) → (k ≡ 1) ⊎ (k ≡ 2) → t.passed ≡ false → t.number ≡ k → answer_test t ≡ false
fails-answer t k (inl e) p n = rw (n ∙ e, p) refl
fails-answer t k (inr e) p n = rw (n ∙ e, p) refl

-- What is wrong with a line, by its tests' results: R0, the rule of its word, and the size.
abbrev wrong : Bool → Bool → Bool → ℕ → ℕ → Option Fault
wrong a r z n w = cond (not a) (some (breaks 0)) (cond (not r) (some (breaks n)) (cond (not z) (some (passes w)) none))

wrong-none : (a r z : Bool) (n w : ℕ) → wrong a r z n w ≡ none → r ≡ true
wrong-none true true z n w e = refl
wrong-none true false z n w e = let y : ◌≡◌ {A = ℕ} 0 1 = cc in absurd (omega arith)
wrong-none false r z n w e = let y : ◌≡◌ {A = ℕ} 0 1 = cc in absurd (omega arith)

wrong-breaks : (a r z : Bool) (n w k : ℕ) → (k ≡ 1) ⊎ (k ≡ 2) → wrong a r z n w ≡ some (breaks k) → (r ≡ false) × (n ≡ k)
wrong-breaks true false z n w k is e = (refl, (cc))
wrong-breaks true true true n w k is e = let y : ◌≡◌ {A = ℕ} 0 1 = cc in absurd (omega arith)
wrong-breaks true true false n w k is e = let y : ◌≡◌ {A = ℕ} 0 1 = cc in absurd (omega arith)
wrong-breaks false r z n w k is e = let y : 0 ≡ k = cc in absurd (⊎_elim (λ q. omega arith) (λ q. omega arith) is)

module _ (h : List Line) (l : Line) where
  -- A close's record is held against no live buffer, but R1 and R2 look at none.
  believable_done : (w : Word) → said l.kind ≡ Record w → eqb l.third 0 ≡ true → believable h l ≡ answer_test (rule_of (Record w) h l)
  unfolding R1 R2
  believable_done Reserve e q = rw (e, q) refl
  believable_done Create e q = rw (e, q) refl
  believable_done Map e q = rw (e, q) refl
  believable_done Access e q = rw (e, q) refl
  believable_done Unmap e q = rw (e, q) refl
  believable_done Release e q = rw (e, q) refl
  believable_done RecordEvent e q = rw (e, q) refl
  believable_done AskedFor e q = rw (e, q) refl
  believable_done Wait e q = rw (e, q) refl
  believable_done Sync e q = rw (e, q) refl
  believable_done Giveback e q = rw (e, q) refl

  -- a result has another rule, or none
  result-untested : (c : Call) → answer_test (rule_of_result c (known h) l) ≡ true
  result-untested Open = refl
  result-untested Malloc = refl
  result-untested Free = refl
  result-untested Close = refl

  believable-is : (w : Said) → said l.kind ≡ w → believable h l ≡ answer_test (rule_of w h l)
  believable-is (Record w) e = go (eqb l.third 0) refl
    where
      go : (b : Bool) → eqb l.third 0 ≡ b → believable h l ≡ answer_test (rule_of (Record w) h l)
      go true q = believable_done w e q
      go false q = rw (e, q) refl
  believable-is (Calls c) e = rw e refl
  believable-is Result e = go (eqb l.third 0) refl
    where
      go : (b : Bool) → eqb l.third 0 ≡ b → believable h l ≡ answer_test (rule_of Result h l)
      go true q = rw (e, q) (sym (result-untested (call h).call))
      go false q = rw (e, q) refl
  believable-is Aside e = rw e refl
  believable-is Unknown e = rw e refl

  -- A line with nothing wrong is believable,
  faultless-believable : fault_of h l ≡ none → believable h l ≡ true
  faultless-believable e =
      let w = said l.kind in
      let t = rule_of w h l in
      believable-is w refl ∙ passes-answer t (wrong-none (R0 w (known h).run l) t.passed (size_of w h l).passed t.number (size_of w h l).number e)

  -- and one that breaks R1 or R2 is not.
  broken_unbelievable : (k : ℕ) → (k ≡ 1) ⊎ (k ≡ 2) → fault_of h l ≡ some (breaks k) → believable h l ≡ false
  broken_unbelievable k is e =
      let w = said l.kind in
      let t = rule_of w h l in
      let q = wrong-breaks (R0 w (known h).run l) t.passed (size_of w h l).passed t.number (size_of w h l).number k is e in
      believable-is w refl ∙ fails-answer t k is q.0 q.1

-- So an accepted trace is believable throughout,
accepted-believable : (ls : List Line) (n : ℕ) (h : List Line) → Verdict.verdict_from n (known h) (map Good ls) ≡ Accepted → all_believable h ls ≡ true
accepted-believable [] n h e = refl
accepted-believable (l ∷ ls) n h e = go (fault_of h l) refl (accepted-believable ls (n + 1) (l ∷ h)) (rw (step_is h l) at e)
  where
    go : (o : Option Fault) → fault_of h l ≡ o → (Verdict.verdict_from (n + 1) (known (l ∷ h)) (map Good ls) ≡ Accepted → all_believable (l ∷ h) ls ≡ true) →
        Verdict.onward (n + 1) (came o (known (l ∷ h))) (λ z. Verdict.verdict_from (n + 1) z (map Good ls)) ≡ Accepted →
        (believable h l && all_believable (l ∷ h) ls) ≡ true
    go none q more e = and-true (believable h l) (all_believable (l ∷ h) ls) (faultless-believable h l q) (more e)
    go (some (breaks k)) q more e = let z : ◌≡◌ {A = ℕ} 0 1 = cc in absurd (omega arith)
    go (some (passes k)) q more e = let z : ◌≡◌ {A = ℕ} 0 1 = cc in absurd (omega arith)

-- and where every line is believable, no line is rejected by R1 or R2.
believable-reads : (ls : List Line) (h : List Line) (k : ℕ) → (k ≡ 1) ⊎ (k ≡ 2) → all_believable h ls ≡ true → read (known h) ls ≡ Verdict.broken k → ⊥
believable-reads [] h k is b e = let z : ◌≡◌ {A = ℕ} 0 1 = cc in omega arith
believable-reads (l ∷ ls) h k is b e =
    let t = both (believable h l) (all_believable (l ∷ h) ls) b in
    go (fault_of h l) refl t.0 (believable-reads ls (l ∷ h) k is t.1) (rw (step_is h l) at e)
  where
    go : (o : Option Fault) → fault_of h l ≡ o → believable h l ≡ true → (read (known (l ∷ h)) ls ≡ Verdict.broken k → ⊥) →
        next (came o (known (l ∷ h))) (λ z. read z ls) ≡ Verdict.broken k → ⊥
    go none q t more e = more e
    go (some (breaks j)) q t more e = let rule : j ≡ k = cc in false≢true (sym (broken_unbelievable h l k is (rw rule at q)) ∙ t)
    go (some (passes j)) q t more e = let z : ◌≡◌ {A = ℕ} 0 1 = cc in omega arith

believable_unbroken : (ls : List Line) → all_believable [] ls ≡ true → Breaks Verdict.start ls → ⊥
believable_unbroken ls b (inl e) = believable-reads ls [] 1 (inl refl) b e
believable_unbroken ls b (inr e) = believable-reads ls [] 2 (inr refl) b e

both_or-none : (a b : Bool) → (a ≡ true → b ≡ true) → (b ≡ true → a ≡ true) → a ≡ b
both_or-none true b f g = sym (f refl)
both_or-none false true f g = g refl
both_or-none false false f g = refl

module _ (o : Opening) (cs : List Lent) (opens : is 0 (opened o).outcome ≡ true) where
  -- Where no result is 15, every base and every handle can be true;
  pub credible-true : Premises (trace_of o cs) → all_believable [] (trace_of o cs) ≡ true
  unfolding Verdict.verdict
  credible-true h = accepted-believable (trace_of o cs) 0 [] (accepted o cs opens h)

  -- and where they can be true, no result is 15.
  pub true-credible : Believed (trace_of o cs) → every credible (trace_of o cs) ≡ true
  true-credible h =
      (trace_unbroken o cs opens (record { driver = h.driver; mapped = h.mapped }) (believable_unbroken (trace_of o cs) h.answers)).credible

  pub credible_just-true : every reliable (trace_of o cs) ≡ true → few_mapped [] (trace_of o cs) ≡ true → every credible (trace_of o cs) ≡ all_believable [] (trace_of o cs)
  credible_just-true d m =
      both_or-none (every credible (trace_of o cs)) (all_believable [] (trace_of o cs)) (λ e. credible-true (record { driver = d; credible = e; mapped = m }))
      (λ e. true-credible (record { driver = d; answers = e; mapped = m }))

  -- So the premises are the same with either,
  pub premises-believed : Premises (trace_of o cs) → Believed (trace_of o cs)
  premises-believed h = record { driver = h.driver; answers = credible-true h; mapped = h.mapped }

  pub believed-premises : Believed (trace_of o cs) → Premises (trace_of o cs)
  believed-premises h = record { driver = h.driver; credible = true-credible h; mapped = h.mapped }

  -- and a trace whose bases and handles can be true is accepted.
  pub accepted-believed : Believed (trace_of o cs) → Verdict.verdict (map Good (trace_of o cs)) ≡ Accepted
  accepted-believed h = accepted o cs opens (believed-premises h)
