-- A run: the opening, then call after call, the judge accepts what enters the trace, and what stands after one call stands before the next.
use mathlib.Core.Path.{◌≡◌, refl, sym, ◌∙◌, subst}
use mathlib.Core.Bool.{Bool, true, false, cond, false≢true}
use mathlib.Core.List.{List, [], ◌∷◌, ◌++◌, map}
use Prim.Native.Nat.{ℕ}
use borrow.Author.Tests.{not-true}
use Rattle.lists.specs.Tests.{every}
use Rattle.lists.proofs.Tests.{both}
use Rattle.tables.specs.Values.{pool_of, closed_pool}
use Rattle.tables.specs.Outcomes.{numbers, is}
use Rattle.tables.specs.HandsBack.{Reply, refused, admitted}
use Rattle.tables.specs.Open.{page_size}
use Rattle.tables.specs.Malloc.{malloc_by}
use Rattle.tables.specs.Free.{free}
use Rattle.tables.specs.Close.{close}
use Rattle.tables.specs.Calls.{Call, mallocs, frees, closes, answer}
use Rattle.tables.specs.declared.Pool.{Pool}
use Rattle.tables.specs.declared.Outcome.{Outcome}
use Rattle.tables.specs.declared.Outcome.TheVariants.{PoolClosed}
use Rattle.answering.proofs.Unchanged.{call-unchanged}
use Rattle.trace.specs.Kinds.{of_record, open_line}
use Rattle.trace.specs.declared.Line.{Line}
use Rattle.judge_rules.specs.Said.{said}
use Rattle.judge_rules.specs.Rules.{Judge}
use Rattle.judge_rules.specs.Verdict as Verdict
use Rattle.replay_lines.specs.Traced.{line_of, result_of}
use Rattle.agreement.specs.Runs.{Lent, Opening, opened, entry, trace_from, trace_of}
use Rattle.agreement.specs.Premises.{credible}
use Rattle.agreement.specs.Judges.{read, Reach, Breaks, Fair, addresses, ReachedBy}
use Rattle.agreement.proofs.Reading.{breaks-first, breaks_second, reach_then, fair-first, fair_second, every_first}
use Rattle.agreement.proofs.Standing.{Standing, stands, ended, over-read}
use Rattle.agreement.proofs.Calls.{Read}
use Rattle.agreement.proofs.MallocCall.{malloc-read}
use Rattle.agreement.proofs.FreeCall.{free-read}
use Rattle.agreement.proofs.CloseCall.{close-read}
use Rattle.agreement.proofs.OpenCall.{open-read}

-- A closed pool answers 1.
closed-answers : (c : Call) (xs : List ℕ) (log : ℕ) → answer closed_pool c xs log ≡ refused closed_pool PoolClosed
unfolding malloc_by free close admitted pool_of
closed-answers (mallocs n k) xs log = refl
closed-answers (frees a) xs log = refl
closed-answers closes xs log = refl

-- the result line of a credible answer isn't 15's
credible-answer : (o : Outcome) → credible (result_of (numbers o)) ≡ true → is 15 o ≡ false
unfolding credible said
credible-answer o e = not-true (is 15 o) e

pub credible-entry : (call : Line) (r : Reply) → every credible (entry call r) ≡ true → is 15 r.outcome ≡ false
credible-entry call r e =
    let b = both (credible call) _ e in
    let q = every_first credible (map of_record r.records) (result_of (numbers r.outcome) ∷ []) b.1 in
    credible-answer r.outcome (both (credible (result_of (numbers r.outcome))) true q.1).0

-- what is between calls at the end
abbrev pub Rests : Judge → Type 0
Rests s = (s.run.opened ≡ true) × (s.run.waiting ≡ false)

rests : (p : Pool) (s : Judge) → Standing p s → Rests s
rests p s (stands h) = (h.opens, h.waiting)
rests p s (ended h) = (h.opens, h.waiting)

-- One call that enters the trace.
call-read : (c : Call) (p : Pool) (s : Judge) (xs : List ℕ) (log : ℕ) → Standing p s → Read c p s (answer p c xs log)
call-read (mallocs n k) p s xs log (stands h) = malloc-read n k p s h xs log
call-read (frees a) p s xs log (stands h) = free-read p s h a xs log
call-read closes p s xs log (stands h) = close-read p s h xs log
call-read c p s xs log (ended h) =
    let e : answer p c xs log ≡ refused p PoolClosed = subst (λ p. answer p c xs log ≡ refused p PoolClosed) (sym h.pool) (closed-answers c xs log) in
    subst (Read c p s) (sym e) (λ _. over-read c p s h)

-- A premise `C` on the lines to come that rules out a call answered 15, and holds of the rest once some are read.
module _ (C : Judge → List Line → Type 0) (rest-keeps : (s : Judge) (ls rs : List Line) (z : Judge) → read s ls ≡ Verdict.on z → C s (ls ++ rs) → C z rs)
    (rules-out : (s : Judge) (call : Line) (r : Reply) (rs : List Line) → is 15 r.outcome ≡ true → Breaks s (entry call r) → C s (entry call r ++ rs) → ⊥) where
  runs : (cs : List Lent) (p : Pool) (s : Judge) → Standing p s → Fair (addresses s.mapped) (trace_from p cs) → C s (trace_from p cs) → Reach s (trace_from p cs) Rests
  runs [] p s h fair c = record { state = s; reads = refl; credible = refl; holds = rests p s h }
  runs (x ∷ cs) p s h fair c =
      go (is 17 (answer p x.call x.answers x.log).outcome) refl fair c (runs cs (answer p x.call x.answers x.log).pool)
    where
      r : Reply
      r = answer p x.call x.answers x.log

      ls : List Line
      ls = entry (line_of x.call) r

      rest : List Line
      rest = trace_from r.pool cs

      reads-call : Fair (addresses s.mapped) (ls ++ rest) → C s (ls ++ rest) → is 17 r.outcome ≡ false → Reach s ls (Standing r.pool)
      reads-call f d e = credibly (is 15 r.outcome) refl
        where
          one : ReachedBy r.outcome s ls (Standing r.pool)
          one = call-read x.call p s x.answers x.log h (fair-first (addresses s.mapped) ls rest f)

          credibly : (b : Bool) → is 15 r.outcome ≡ b → Reach s ls (Standing r.pool)
          credibly true q = absurd (rules-out s (line_of x.call) r rest q (one.breaks q) d)
          credibly false q = one.reaches (rw (q, e))

      go : (b : Bool) → is 17 r.outcome ≡ b → Fair (addresses s.mapped) (cond b rest (ls ++ rest)) → C s (cond b rest (ls ++ rest)) →
          ((z : Judge) → Standing r.pool z → Fair (addresses z.mapped) rest → C z rest → Reach z rest Rests) → Reach s (cond b rest (ls ++ rest)) Rests
      go true e f d more = more s (subst (λ q. Standing q s) (sym ((call-unchanged p x.call x.answers x.log).short e)) h) f d
      go false e f d more =
          let one = reads-call f d e in
          reach_then one (more one.state one.holds (fair_second s ls rest one.state one.reads f) (rest-keeps s ls rest one.state one.reads d))

  reads_trace : (o : Opening) (cs : List Lent) → is 0 (opened o).outcome ≡ true → Fair [] (trace_of o cs) → C Verdict.start (trace_of o cs) →
      Reach Verdict.start (trace_of o cs) Rests
  reads_trace o cs e fair c =
      let first = entry (open_line (page_size o.granularity o.override) o.va o.initial) (opened o) in
      let rest = trace_from (opened o).pool cs in
      let one = open-read o e (fair-first [] first rest fair) in
      reach_then one
      (runs cs (opened o).pool one.state one.holds (fair_second Verdict.start first rest one.state one.reads fair)
      (rest-keeps Verdict.start first rest one.state one.reads c))

module _ (o : Opening) (cs : List Lent) (opens : is 0 (opened o).outcome ≡ true) (fair : Fair [] (trace_of o cs)) where
  -- No result is 15.
  pub trace-read : every credible (trace_of o cs) ≡ true → Reach Verdict.start (trace_of o cs) Rests
  trace-read =
      reads_trace (λ _ ls. every credible ls ≡ true) (λ s ls rs z e c. (every_first credible ls rs c).1)
      (λ s call r rs e b c. false≢true (sym (credible-entry call r (every_first credible (entry call r) rs c).0) ∙ e)) o cs opens fair

  -- The judge rejects no line for an answer that can't be true.
  pub trace_unbroken : (Breaks Verdict.start (trace_of o cs) → ⊥) → Reach Verdict.start (trace_of o cs) Rests
  trace_unbroken =
      reads_trace (λ s ls. Breaks s ls → ⊥) (λ s ls rs z e c b. c (breaks_second s ls rs z e b))
      (λ s call r rs e b c. c (breaks-first s (entry call r) rs b)) o cs opens fair
