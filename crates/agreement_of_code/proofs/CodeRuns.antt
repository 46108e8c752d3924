-- What is read out of the logs of a run of the code is the trace of the rules' run on the same arguments and answers. So it is accepted, and its buffers are apart.
use mathlib.Core.Path.{◌≡◌, refl, ap, sym, ◌∙◌, subst}
use mathlib.Core.Bool.{true, cond}
use mathlib.Core.List.{List, [], ◌∷◌, ◌++◌, map}
use Prim.Native.Nat.{ℕ, ◌/◌}
use lib.ListN.{length, take}
use Rattle.tables.specs.Outcomes.{numbers, is}
use Rattle.tables.specs.HandsBack.{Reply}
use Rattle.tables.specs.Open.{page_size}
use Rattle.tables.specs.Calls.{answer}
use Rattle.trace.specs.Kinds.{of_record, open_line}
use Rattle.trace.specs.declared.Line.{Line}
use Rattle.trace.specs.declared.Reading.TheVariants.{Good}
use Rattle.replay_lines.specs.Traced.{line_of, result_of}
use Rattle.replay_lines.proofs.Records.{records-written}
use Rattle.calls.specs.Promises.{called, Replies}
use Rattle.calls.specs.declared.Pool.{Pool}
use Rattle.calls.specs.declared.Called.{Called}
use Rattle.judge_rules.specs.Verdict.{verdict}
use Rattle.judge_rules.specs.Meaning.{SoundAfter, newest_first}
use Rattle.judge_rules.specs.declared.Verdict.TheVariants.{Accepted}
use Rattle.judge_rules.proofs.Accepted.{accepted_means}
use Rattle.agreement.specs.Runs.{Lent, Opening, opened, entry, trace_from, trace_of}
use Rattle.agreement.specs.Premises.{Premises}
use Rattle.agreement.proofs.Accepted.{accepted}
use Rattle.agreement_of_code.specs.CodeRuns.{Start, Turn, Goes, Ran, read_out, read_from, read_trace}

-- the same arguments and answers, and as much room in the log
abbrev opening_of : Start → Opening
opening_of o =
    record {
      granularity = o.granularity;
      override = o.override;
      va = o.va;
      initial = o.initial;
      stream = o.stream;
      answers = o.answers;
      log = length o.log / 4;
    }

abbrev lent_of : Turn → Lent
lent_of t = record { call = t.call; answers = t.answers; log = length t.log / 4 }

-- a call that keeps its promise left its records in the log
out-is : (l : Line) (w : Reply) (r : Called) (log logged : List ℕ) → Replies w r log logged → read_out l r logged ≡ entry l w
out-is l w r log logged h =
    ap (λ c. read_out l c logged) h.answer
    ∙ (ap (λ x. read_out l (called w) x) h.cells ∙ ap (λ rs. l ∷ (map of_record rs ++ (result_of (numbers w.outcome) ∷ []))) (records-written log w.records))

from_is : (p : Pool) (ts : List Turn) → Goes p ts → read_from ts ≡ trace_from p.value (map lent_of ts)
from_is p [] g = refl
from_is p (t ∷ ts) g =
    let w = answer p.value t.call t.answers (length t.log / 4) in
    let rest : read_from ts ≡ trace_from w.pool (map lent_of ts) = from_is t.called.pool ts g.1 ∙ ap (λ c. trace_from c.pool.value (map lent_of ts)) g.0.answer in
    λ i. cond (is 17 (g.0.answer i).outcome) (rest i) (out-is (line_of t.call) w t.called t.log t.logged g.0 i ++ rest i)

trace-is : (o : Start) (ts : List Turn) → Ran o ts → read_trace o ts ≡ trace_of (opening_of o) (map lent_of ts)
trace-is o ts g =
    let l = open_line (page_size o.granularity o.override) o.va o.initial in
    let rest : read_from ts ≡ trace_from (opened (opening_of o)).pool (map lent_of ts) =
    from_is o.called.pool ts g.goes ∙ ap (λ c. trace_from c.pool.value (map lent_of ts)) g.started.answer
    in
    λ i. out-is l (opened (opening_of o)) o.called o.log o.logged g.started i ++ rest i

opens : (o : Start) (ts : List Turn) → Ran o ts → is 0 o.called.outcome ≡ true → is 0 (opened (opening_of o)).outcome ≡ true
opens o ts g e = ap (λ c. is 0 c.outcome) (sym g.started.answer) ∙ e

-- Every trace of the code, under the premises, is accepted,
pub code_accepted : (o : Start) (ts : List Turn) → Ran o ts → is 0 o.called.outcome ≡ true → Premises (read_trace o ts) → verdict (map Good (read_trace o ts)) ≡ Accepted
code_accepted o ts g e h =
    let same = trace-is o ts g in
    ap (λ t. verdict (map Good t)) same ∙ accepted (opening_of o) (map lent_of ts) (opens o ts g e) (subst Premises same h)

-- and so no two live buffers of the code ever share a page, and each keeps its pages.
pub code_apart : (o : Start) (ts : List Turn) → Ran o ts → is 0 o.called.outcome ≡ true → Premises (read_trace o ts) → (n : ℕ) →
    SoundAfter (newest_first [] (take n (map Good (read_trace o ts))))
code_apart o ts g e h n = accepted_means (map Good (read_trace o ts)) (code_accepted o ts g e h) n
