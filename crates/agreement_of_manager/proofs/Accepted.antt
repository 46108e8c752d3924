-- Every trace of the layer is accepted: the opening is the pool's, each call leads the judge from one state that stands to the next, and a small buffer's
-- lines leave it where it is. So no two live buffers of the pool beneath ever share a page, and each keeps its pages.
use mathlib.Core.Path.{◌≡◌, refl, sym, subst}
use mathlib.Core.Bool.{Bool, true, false, cond}
use mathlib.Core.List.{List, [], ◌∷◌, ◌++◌, map}
use Prim.Native.Nat.{ℕ}
use lib.ListN.{take}
use Rattle.lists.specs.Tests.{every}
use Rattle.tables.specs.Outcomes.{is}
use Rattle.tables.specs.Open.{page_size}
use Rattle.tables.specs.Calls.{Call, mallocs, frees, closes}
use Rattle.trace.specs.Kinds.{open_line}
use Rattle.trace.specs.declared.Line.{Line}
use Rattle.trace.specs.declared.Reading.TheVariants.{Good}
use Rattle.judge_rules.specs.Rules.{Judge}
use Rattle.judge_rules.specs.Verdict as Verdict
use Rattle.judge_rules.specs.Meaning.{SoundAfter, newest_first}
use Rattle.judge_rules.specs.declared.Verdict.TheVariants.{Accepted}
use Rattle.judge_rules.proofs.Accepted.{accepted_means}
use Rattle.agreement.specs.Runs as Runs
use Rattle.agreement.specs.Runs.{Opening}
use Rattle.agreement.specs.Premises.{Premises, credible}
use Rattle.agreement.specs.Judges.{Reach, Fair, addresses}
use Rattle.agreement.proofs.Reading.{reach_to, reach_then, every_first, fair-first, fair_second}
use Rattle.agreement.proofs.OpenCall.{open-read}
use Rattle.agreement.proofs.Run.{Rests}
use Rattle.agreement.proofs.Accepted.{verdict-read}
use Rattle.manager_rules.specs.HandsBack.{Reply}
use Rattle.manager_rules.specs.Open.{open_manager}
use Rattle.manager_rules.specs.Calls.{answer}
use Rattle.manager_rules.specs.Runs.{Lent}
use Rattle.manager_rules.specs.declared.Manager.{Manager}
use Rattle.agreement_of_manager.specs.LayerRuns.{opened, entry, lines_of, trace_from, trace_of}
use Rattle.agreement_of_manager.proofs.Layered.{Layered, goes, over, layered, rests, LayerReads, closed-read}
use Rattle.agreement_of_manager.proofs.Calls.{malloc-reads, free-reads}
use Rattle.agreement_of_manager.proofs.Close.{close-reads}
use Rattle.agreement_of_manager.proofs.Short.{short-stays}

-- one call that enters the trace
call-reads : (m : Manager) (c : Call) (s : Judge) (xs : List ℕ) (log : ℕ) → Layered m.pool s → LayerReads m c s (answer m c xs log)
call-reads m (mallocs n k) s xs log (goes h) = malloc-reads m s h n k xs log
call-reads m (frees a) s xs log (goes h) = free-reads m s h a xs log
call-reads m closes s xs log (goes h) = close-reads m s h xs log
call-reads m c s xs log (over h) = closed-read m s c xs log h

-- call after call
runs : (cs : List Lent) (m : Manager) (s : Judge) → Layered m.pool s → Fair (addresses s.mapped) (trace_from m cs) →
    every credible (trace_from m cs) ≡ true → Reach s (trace_from m cs) Rests
runs [] m s h fair plain = record { state = s; reads = refl; credible = refl; holds = rests m.pool s h }
runs (x ∷ cs) m s h fair plain = go (is 17 r.outcome) refl fair plain (runs cs r.manager)
  where
    r : Reply
    r = answer m x.call x.answers x.log

    ls : List Line
    ls = lines_of m x.call r

    rest : List Line
    rest = trace_from r.manager cs

    go : (b : Bool) → is 17 r.outcome ≡ b → Fair (addresses s.mapped) (cond b rest (ls ++ rest)) → every credible (cond b rest (ls ++ rest)) ≡ true →
        ((z : Judge) → Layered r.manager.pool z → Fair (addresses z.mapped) rest → every credible rest ≡ true → Reach z rest Rests) →
        Reach s (cond b rest (ls ++ rest)) Rests
    go true e f c more = more s (subst (λ (q : Manager). Layered q.pool s) (sym (short-stays m x.call x.answers x.log e)) h) f c
    go false e f c more =
        let parts = every_first credible ls rest c in
        let one = call-reads m x.call s x.answers x.log h (fair-first (addresses s.mapped) ls rest f) parts.0 e in
        reach_then one (more one.state one.holds (fair_second s ls rest one.state one.reads f) parts.1)

module _ (o : Opening) where
  abbrev first : List Line
  first = entry (open_line (page_size o.granularity o.override) o.va o.initial) (opened o).records (opened o).outcome

  -- the opening is the pool's own
  opening-reads : is 0 (opened o).outcome ≡ true → Fair [] first → Reach Verdict.start first (Layered (opened o).manager.pool)
  unfolding open_manager
  opening-reads e fair = reach_to (λ z q. layered (Runs.opened o).pool z q) (open-read o e fair)

  reads_trace : (cs : List Lent) → is 0 (opened o).outcome ≡ true → Fair [] (trace_of o cs) → every credible (trace_of o cs) ≡ true →
      Reach Verdict.start (trace_of o cs) Rests
  reads_trace cs e fair plain =
      let rest = trace_from (opened o).manager cs in
      let one = opening-reads e (fair-first [] first rest fair) in
      reach_then one
      (runs cs (opened o).manager one.state one.holds (fair_second Verdict.start first rest one.state one.reads fair)
      (every_first credible first rest plain).1)

pub accepted : (o : Opening) (cs : List Lent) → is 0 (opened o).outcome ≡ true → Premises (trace_of o cs) → Verdict.verdict (map Good (trace_of o cs)) ≡ Accepted
unfolding Verdict.verdict
accepted o cs e h =
    let r = reads_trace o cs e (record { driver = h.driver; mapped = h.mapped }) h.credible in
    verdict-read 0 Verdict.start (trace_of o cs) r.state r.reads r.holds

-- No two live buffers of the pool ever share a page, and each keeps its pages: after every number of lines.
pub buffers-apart : (o : Opening) (cs : List Lent) → is 0 (opened o).outcome ≡ true → Premises (trace_of o cs) → (n : ℕ) →
    SoundAfter (newest_first [] (take n (map Good (trace_of o cs))))
buffers-apart o cs e h n = accepted_means (map Good (trace_of o cs)) (accepted o cs e h) n
