-- Every trace of the pool is accepted: the opening and each call lead the judge from one state that agrees with the pool to the next, and at the end no
-- line is missing. So in every run no two live buffers share a page, and each keeps its pages.
use mathlib.Core.Path.{◌≡◌}
use mathlib.Core.Bool.{true}
use mathlib.Core.List.{List, [], ◌∷◌, map}
use Prim.Native.Nat.{ℕ, ◌+◌}
use lib.ListN.{take}
use Rattle.tables.specs.Outcomes.{is}
use Rattle.trace.specs.declared.Line.{Line}
use Rattle.trace.specs.declared.Reading.TheVariants.{Good}
use Rattle.judge_rules.specs.Rules.{Judge}
use Rattle.judge_rules.specs.Verdict as Verdict
use Rattle.judge_rules.specs.Meaning.{SoundAfter, newest_first}
use Rattle.judge_rules.specs.declared.Verdict.TheVariants.{Accepted}
use Rattle.judge_rules.proofs.Steps.{on-on}
use Rattle.judge_rules.proofs.Accepted.{accepted_means}
use Rattle.agreement.specs.Runs.{Lent, Opening, opened, trace_of}
use Rattle.agreement.specs.Premises.{Premises}
use Rattle.agreement.specs.Judges.{read}
use Rattle.agreement.proofs.Reading.{went_on}
use Rattle.agreement.proofs.Run.{Rests, trace-read}

-- lines that are read to a state between calls are accepted
pub verdict-read : (n : ℕ) (s : Judge) (ls : List Line) (z : Judge) → read s ls ≡ Verdict.on z → Rests z → Verdict.verdict_from n s (map Good ls) ≡ Accepted
unfolding Verdict.at_end
verdict-read n s [] z e r = rw (on-on s z e, r.0, r.1)
verdict-read n s (l ∷ ls) z e r =
    let w = went_on (Verdict.step s (Good l)) (λ y. read y ls) z e in
    rw w.1.0 (verdict-read (n + 1) w.0 ls z w.1.1 r)

pub accepted : (o : Opening) (cs : List Lent) → is 0 (opened o).outcome ≡ true → Premises (trace_of o cs) → Verdict.verdict (map Good (trace_of o cs)) ≡ Accepted
unfolding Verdict.verdict
accepted o cs e h =
    let r = trace-read o cs e (record { driver = h.driver; mapped = h.mapped }) h.credible in
    verdict-read 0 Verdict.start (trace_of o cs) r.state r.reads r.holds

-- No two live buffers ever share a page, and each keeps its pages: after every number of lines.
pub buffers-apart : (o : Opening) (cs : List Lent) → is 0 (opened o).outcome ≡ true → Premises (trace_of o cs) → (n : ℕ) →
    SoundAfter (newest_first [] (take n (map Good (trace_of o cs))))
buffers-apart o cs e h n = accepted_means (map Good (trace_of o cs)) (accepted o cs e h) n
