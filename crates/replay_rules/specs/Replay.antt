-- docs/RULES.md 7: what replay prints for an input, as a whole.
use Rattle.std.specs.Prelude.{cond, List, [], ◌∷◌, ◌++◌, ℕ, ◌+◌}
use Rattle.tables.specs.Bounds.{LOG}
use Rattle.tables.specs.Values.{closed_pool}
use Rattle.tables.specs.Outcomes.{numbers, is}
use Rattle.tables.specs.HandsBack.{Reply}
use Rattle.tables.specs.Open.{open_pool}
use Rattle.tables.specs.Calls.{answer}
use Rattle.tables.specs.declared.Pool.{Pool}
use Rattle.trace.specs.Form.{printed, bad_line, short_line}
use Rattle.trace.specs.Lines.{lines_of}
use Rattle.trace.specs.declared.Line.{Line}
use Rattle.trace.specs.declared.Reading.{Reading}
use Rattle.trace.specs.declared.Reading.TheVariants.{Good, Malformed}
use Rattle.replay_answers.specs.Lending.{is_driver, is_passed_over, answer_in}
use Rattle.replay_lines.specs.Records.{printed_all}
use Rattle.replay_lines.specs.Traced.{is_open, call_of, call_line, result_of}

-- A call that waits for its answers: the number of its line, the line, and the answers lent so far.
pub record Waiting : Type 0 where
  pub number : ℕ
  pub call : Line
  pub answers : List ℕ

abbrev pub waits : ℕ → Line → Waiting
waits n l = record { number = n; call = l; answers = [] }

abbrev pub lends : Waiting → Line → Waiting
lends w l = record { number = w.number; call = w.call; answers = w.answers ++ answer_in l }

-- What a call answers (docs/RULES.md 7.3): an open has no override and initial stream 0; the log has room.
unfoldable pub answered : Pool → Waiting → Reply
answered p w =
    let l = w.call in
    cond (is_open l) (open_pool l.first 0 l.second l.third 0 w.answers LOG) (answer p (call_of l) w.answers LOG)

-- The call, its records, its result; then what `show` shows of the pool.
unfoldable pub traced : (Pool → List ℕ) → Waiting → Reply → List ℕ
traced show w r =
    printed (call_line w.call) ++ (printed_all r.records ++ (printed (result_of (numbers r.outcome)) ++ show r.pool))

-- What is printed for a call and then; `short` ends the run where the call is answered 17 (docs/RULES.md 7.5).
unfoldable pub ran : (Pool → List ℕ) → Pool → Waiting → (Pool → List ℕ) → List ℕ
ran show p w rest =
    let r = answered p w in
    cond (is 17 r.outcome) (short_line w.number) (traced show w r ++ rest r.pool)

-- What is printed for the lines from number `n` on, while a call waits (docs/RULES.md 7.1 to 7.3). A line's form is tested before that call is run.
abbrev pub replay_from : (Pool → List ℕ) → Pool → Waiting → ℕ → List Reading → List ℕ
replay_from show p w n [] = ran show p w (λ q. [])
replay_from show p w n (Malformed ∷ ls) = bad_line n
replay_from show p w n (Good l ∷ ls) =
    cond (is_driver l) (replay_from show p (lends w l) (n + 1) ls)
    (cond (is_passed_over l) (replay_from show p w (n + 1) ls)
    (cond (is_open l) (bad_line n) (ran show p w (λ q. replay_from show q (waits n l) (n + 1) ls))))

-- the first line must be an open
abbrev pub replay_lines : (Pool → List ℕ) → Pool → List Reading → List ℕ
replay_lines show p [] = []
replay_lines show p (Malformed ∷ ls) = bad_line 1
replay_lines show p (Good l ∷ ls) = cond (is_open l) (replay_from show p (waits 1 l) 2 ls) (bad_line 1)

-- What is printed for an input, with what `show` shows of the pool after each result.
unfoldable pub replayed_showing : (Pool → List ℕ) → List ℕ → List ℕ
replayed_showing show input = replay_lines show closed_pool (lines_of input)

-- What replay prints for an input.
abbrev pub replayed : List ℕ → List ℕ
replayed = replayed_showing (λ p. [])
