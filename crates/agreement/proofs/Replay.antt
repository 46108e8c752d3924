-- What replay prints is accepted: where its output is made of well-formed lines, it ended by neither `bad` nor `short`, so that it is the trace of the calls
-- that it ran, each on the answers lent to it.
use mathlib.Core.Path.{◌≡◌, refl, sym, ap, ◌∙◌, subst}
use mathlib.Core.Bool.{Bool, true, false, cond, false≢true}
use mathlib.Core.List.{List, [], ◌∷◌, ◌++◌, map}
use Prim.Native.Nat.{ℕ, ◌+◌}
use native.Mathlib.Omega.{arith}
use lib.ListN.{take}
use Rattle.lists.specs.Walks.{joined}
use Rattle.lists.proofs.Walks.{joined-append}
use Rattle.words.specs.declared.Record.{Record}
use Rattle.tables.specs.Bounds.{LOG}
use Rattle.tables.specs.Values.{closed_pool}
use Rattle.tables.specs.Outcomes.{numbers, is}
use Rattle.tables.specs.HandsBack.{Reply}
use Rattle.tables.specs.Open.{open_pool}
use Rattle.tables.specs.Calls.{answer}
use Rattle.tables.specs.declared.Pool.{Pool}
use Rattle.trace.specs.Form.{ascii, printed, bad_line, short_line}
use Rattle.trace.specs.Kinds.{of_record, open_line}
use Rattle.trace.specs.Lines.{lines_of}
use Rattle.trace.specs.declared.Line.{Line}
use Rattle.trace.specs.declared.Reading.{Reading}
use Rattle.trace.specs.declared.Reading.TheVariants.{Good, Malformed}
use Rattle.trace.proofs.Theorems.{bad-is_malformed, short-is_malformed}
use Rattle.replay_answers.specs.Lending.{is_driver, is_passed_over, Passed, passed}
use Rattle.replay_lines.specs.Records.{printed_all}
use Rattle.replay_lines.specs.Traced.{is_open, call_of, line_of, call_line, result_of}
use Rattle.replay_rules.specs.Replay as Replay
use Rattle.replay_rules.specs.Replay.{Waiting, waits, lends, traced, ran, replay_from, replay_lines, replayed_showing, replayed}
use Rattle.replay_rules.proofs.Passed.{lent}
use Rattle.judge_rules.specs.Verdict.{verdict}
use Rattle.judge_rules.specs.Meaning.{SoundAfter, newest_first}
use Rattle.judge_rules.specs.declared.Verdict.TheVariants.{Accepted}
use Rattle.judge_rules.proofs.Accepted.{accepted_means}
use Rattle.agreement.specs.Runs.{Lent, opened, entry, trace_from, trace_of}
use Rattle.agreement.specs.Premises.{Premises}
use Rattle.agreement.specs.Replays.{opening_by, opening_in, opening_of}
use Rattle.agreement.proofs.Accepted.{accepted}
use Rattle.agreement.proofs.Texts.{Begins, begins, not_good}

-- `bad` and `short` are no lines of a trace
bad-ends : {A : Type 0} (n : ℕ) (lines : List Line) → lines_of (bad_line n) ≡ map Good lines → A
unfolding bad_line
bad-ends n lines = not_good (ascii "bad") n 0 0 lines (refl, (refl, (refl, tt))) (bad-is_malformed n)

short-ends : {A : Type 0} (n : ℕ) (lines : List Line) → lines_of (short_line n) ≡ map Good lines → A
unfolding short_line
short-ends n lines = not_good (ascii "short") n 0 0 lines (refl, (refl, (refl, (refl, (refl, tt))))) (short-is_malformed n)

abbrev lent_to : Waiting → Lent
lent_to w = record { call = call_of w.call; answers = w.answers; log = LOG }

call_line_lem : (l : Line) → is_open l ≡ false → call_line l ≡ line_of (call_of l)
unfolding call_line
call_line_lem l e = rw e refl

call-answer : (p : Pool) (w : Waiting) → is_open w.call ≡ false → Replay.answered p w ≡ answer p (call_of w.call) w.answers LOG
unfolding Replay.answered
call-answer p w e = rw e refl

open-line : (l : Line) → is_open l ≡ true → call_line l ≡ open_line l.first l.second l.third
unfolding call_line
open-line l e = rw e refl

open-answer : (p : Pool) (w : Waiting) → is_open w.call ≡ true → Replay.answered p w ≡ opened (opening_by w.call w.answers)
unfolding Replay.answered
open-answer p w e = rw e refl

-- what is printed of a call is the text of its entry
printed-records : (rs : List Record) → printed_all rs ≡ joined printed (map of_record rs)
printed-records [] = refl
printed-records (r ∷ rs) = ap (λ (t : List ℕ). printed (of_record r) ++ t) (printed-records rs)

entry-text : (w : Waiting) (r : Reply) → traced (λ q. []) w r ≡ joined printed (entry (call_line w.call) r)
unfolding traced
entry-text w r =
    ap (λ (t : List ℕ). printed (call_line w.call) ++ (t ++ (printed (result_of (numbers r.outcome)) ++ []))) (printed-records r.records)
    ∙ ap (λ (t : List ℕ). printed (call_line w.call) ++ t) (sym (joined-append printed (map of_record r.records) (result_of (numbers r.outcome) ∷ [])))

-- A call that was run: it wasn't answered 17, and the lines are its entry and those of what follows.
record Ran (p : Pool) (w : Waiting) (rest : Pool → List ℕ) (lines : List Line) : Type 0 where
  enters : is 17 (Replay.answered p w).outcome ≡ false
  follows : Begins (entry (call_line w.call) (Replay.answered p w)) (rest (Replay.answered p w).pool) lines

was-ran : (p : Pool) (w : Waiting) (rest : Pool → List ℕ) (lines : List Line) → lines_of (ran (λ q. []) p w rest) ≡ map Good lines → Ran p w rest lines
unfolding ran
was-ran p w rest lines e = go (is 17 r.outcome) refl e
  where
    r : Reply
    r = Replay.answered p w

    go : (b : Bool) → is 17 r.outcome ≡ b → lines_of (cond b (short_line w.number) (traced (λ q. []) w r ++ rest r.pool)) ≡ map Good lines → Ran p w rest lines
    go true t d = short-ends w.number lines d
    go false t d = record { enters = t; follows = begins (entry (call_line w.call) r) (rest r.pool) lines (rw (entry-text w r) at d) }

-- The lines are a trace, of some calls.
pub record Traces (trace : List Lent → List Line) (lines : List Line) : Type 0 where
  pub calls : List Lent
  pub is : lines ≡ trace calls

-- what is printed behind a call is the trace of the calls behind it
abbrev Onward : (Pool → List ℕ) → Type 0
Onward rest = (q : Pool) (more : List Line) → lines_of (rest q) ≡ map Good more → Traces (trace_from q) more

call_traces : (p : Pool) (w : Waiting) (rest : Pool → List ℕ) (lines : List Line) → is_open w.call ≡ false →
    lines_of (ran (λ q. []) p w rest) ≡ map Good lines → Onward rest → Traces (trace_from p) lines
call_traces p w rest lines o e onward =
    let r = Replay.answered p w in
    let t = was-ran p w rest lines e in
    let b = t.follows in
    let m = onward r.pool b.more b.says in
    record {
      calls = lent_to w ∷ m.calls;
      is = b.is ∙ rw (← call-answer p w o, ← call_line_lem w.call o, t.enters) (ap (λ (ls : List Line). entry (call_line w.call) r ++ ls) m.is);
    }

open_traces : (p : Pool) (w : Waiting) (rest : Pool → List ℕ) (lines : List Line) → is_open w.call ≡ true →
    lines_of (ran (λ q. []) p w rest) ≡ map Good lines → Onward rest → Traces (trace_of (opening_by w.call w.answers)) lines
open_traces p w rest lines o e onward =
    let r = Replay.answered p w in
    let b = (was-ran p w rest lines e).follows in
    let m = onward r.pool b.more b.says in
    record {
      calls = m.calls;
      is = b.is ∙ rw (← open-answer p w o, ← open-line w.call o) (ap (λ (ls : List Line). entry (call_line w.call) r ++ ls) m.is);
    }

-- nothing is printed behind the last call
no_more : Onward (λ q. [])
unfolding lines_of
no_more q [] e = record { calls = []; is = refl }
no_more q (l ∷ ls) e = absurd (let z : ◌≡◌ {A = ℕ} 0 1 = cc in omega arith)

-- While a call waits: what is known of it and what follows it, on whatever answers, is known on those that are lent to it before the next call line.
waiting_traces : (D : List ℕ → Type 0) (p : Pool) (w : Waiting) (n : ℕ) (rs : List Reading) (lines : List Line) →
    ((xs : List ℕ) (rest : Pool → List ℕ) → lines_of (ran (λ q. []) p (lent w xs) rest) ≡ map Good lines → Onward rest → D xs) →
    lines_of (replay_from (λ q. []) p w n rs) ≡ map Good lines → D (passed w.answers n rs).answers
waiting_traces D p w n [] lines known e = known w.answers (λ q. []) e no_more
waiting_traces D p w n (Malformed ∷ rs) lines known e = bad-ends n lines e
waiting_traces D p w n (Good l ∷ rs) lines known e =
    go (is_driver l) (is_passed_over l) (is_open l) _ _ _ _ refl e
    (waiting_traces D p (lends w l) (n + 1) rs lines known)
    (waiting_traces D p w (n + 1) rs lines known)
    (λ o q more. waiting_traces (λ xs. Traces (trace_from q) more) q (waits n l) (n + 1) rs more (λ xs rest. call_traces q (lent (waits n l) xs) rest more o))
  where
    later : Pool → List ℕ
    later q = replay_from (λ z. []) q (waits n l) (n + 1) rs

    go : (a b c : Bool) (t u : List ℕ) (x y : Passed) → is_open l ≡ c →
        lines_of (cond a t (cond b u (cond c (bad_line n) (ran (λ q. []) p w later)))) ≡ map Good lines →
        (lines_of t ≡ map Good lines → D x.answers) → (lines_of u ≡ map Good lines → D y.answers) → (is_open l ≡ false → Onward later) →
        D (cond a x (cond b y (record { answers = w.answers; number = n; rest = Good l ∷ rs }))).answers
    go true b c t u x y o d driver result call = driver d
    go false true c t u x y o d driver result call = result d
    go false false true t u x y o d driver result call = bad-ends n lines d
    go false false false t u x y o d driver result call = known w.answers later d (call o)

lines_trace : (rs : List Reading) (lines : List Line) → lines_of (replay_lines (λ q. []) closed_pool rs) ≡ map Good lines →
    is 0 (opened (opening_in rs)).outcome ≡ true → Traces (trace_of (opening_in rs)) lines
unfolding open_pool
lines_trace [] lines e s = absurd (false≢true s)
lines_trace (Malformed ∷ rs) lines e s = bad-ends 1 lines e
lines_trace (Good l ∷ rs) lines e s = go (is_open l) refl e
  where
    go : (b : Bool) → is_open l ≡ b → lines_of (cond b (replay_from (λ q. []) closed_pool (waits 1 l) 2 rs) (bad_line 1)) ≡ map Good lines → Traces (trace_of (opening_in (Good l ∷ rs))) lines
    go true o d = waiting_traces (λ xs. Traces (trace_of (opening_by l xs)) lines) closed_pool (waits 1 l) 2 rs lines (λ xs rest. open_traces closed_pool (lent (waits 1 l) xs) rest lines o) d
    go false o d = bad-ends 1 lines d

-- Well-formed lines that replay prints are a trace of the pool: of the opening that the input asks for, where it succeeds, and of some calls.
pub replay_traces : (input : List ℕ) (lines : List Line) → lines_of (replayed input) ≡ map Good lines →
    is 0 (opened (opening_of input)).outcome ≡ true → Traces (trace_of (opening_of input)) lines
unfolding replayed_showing
replay_traces input lines e s = lines_trace (lines_of input) lines e s

-- Whatever the input: where replay prints well-formed lines, its opening succeeds and the premises hold of what it prints, the judge accepts that.
pub replay_accepted : (input : List ℕ) (lines : List Line) → lines_of (replayed input) ≡ map Good lines →
    is 0 (opened (opening_of input)).outcome ≡ true → Premises lines → verdict (lines_of (replayed input)) ≡ Accepted
replay_accepted input lines e s h =
    let o = opening_of input in
    let t = replay_traces input lines e s in
    ap verdict e ∙ ap (λ (ls : List Line). verdict (map Good ls)) t.is ∙ accepted o t.calls s (subst Premises t.is h)

-- So no two live buffers that its output tells of ever share a page, and each keeps its pages.
pub replay-apart : (input : List ℕ) (lines : List Line) → lines_of (replayed input) ≡ map Good lines →
    is 0 (opened (opening_of input)).outcome ≡ true → Premises lines → (n : ℕ) → SoundAfter (newest_first [] (take n (lines_of (replayed input))))
replay-apart input lines e s h n = accepted_means (lines_of (replayed input)) (replay_accepted input lines e s h) n
