-- What a call that was due leaves in the buffer is what the definition prints for it. A full log holds all records of the call, so no more
-- answers were taken than are kept, and the others change nothing.
use mathlib.Core.Path.{◌≡◌, sym, ap, ◌∙◌}
use mathlib.Core.Bool.{true, false}
use mathlib.Core.List.{List, ◌++◌, append_assoc, append-nil}
use Prim.Native.Nat.{ℕ, ◌+◌, ◌*◌, ◌≤◌}
use native.Mathlib.Omega.{arith}
use lib.ListN.{length, take, drop, length-append}
use Rattle.words.specs.Log.{cells, written}
use Rattle.words.specs.declared.Record.{Record}
use Rattle.words.proofs.Log.{length-cells}
use Rattle.tables.specs.Bounds.{LOG}
use Rattle.tables.specs.Outcomes.{is}
use Rattle.tables.specs.HandsBack.{Reply}
use Rattle.tables.specs.declared.Pool as tables
use Rattle.trace.specs.Form.{short_line}
use Rattle.trace.specs.Put.{Put}
use Rattle.trace.specs.declared.Line.{Line}
use Rattle.trace.proofs.Put.{put_front, put-length}
use Rattle.replay_answers.specs.Promises.{KEPT}
use Rattle.calls.specs.Promises.{called}
use Rattle.calls.specs.declared.Pool.{Pool}
use Rattle.calls.specs.declared.Called.{Called}
use Rattle.replay_lines.specs.Traced.{call_text}
use Rattle.replay_lines.proofs.Records.{records-written}
use Rattle.replay_rules.specs.Replay.{Waiting, answered, traced, ran}
use Rattle.replay_rules.proofs.Answered.{answered-spare}
use Rattle.replay_chunks.specs.Promises.{waiting_for, Runs, RunsDue}

-- a log keeps its length, so the records fit
few-records : (log log' : List ℕ) (rs : List Record) → length log ≡ 4 * LOG → length log' ≡ length log → log' ≡ written log 0 rs → length rs ≤ LOG
unfolding written
few-records log log' rs e f g =
    let left = drop (4 * (0 + length rs)) log in
    let n : length (written log 0 rs) ≡ 4 * LOG = ap length (sym g) ∙ f ∙ e in
    let m : length (written log 0 rs) ≡ 4 * length rs + length left = length-append (cells rs) left ∙ ap (λ (k : ℕ). k + length left) (length-cells rs) in
    omega arith

-- the lines of a reply, its records read from the log
text_of : (show : tables.Pool → List ℕ) (w : Waiting) (r : Reply) (log rest : List ℕ)
    → call_text w.call r.outcome (length r.records) (written log 0 r.records) ++ (show r.pool ++ rest) ≡ traced show w r ++ rest
unfolding call_text traced
text_of show w r log rest = rw (records-written log r.records) (simp append_assoc)

module _ {p : Pool} {l : Line} {kept log : List ℕ} {c : Called} {log' : List ℕ} (r : Runs p l kept log c log') (size : length log ≡ 4 * LOG) (same_size : length log' ≡ length log) where
  -- what the call would answer with all answers
  abbrev full : ℕ → List ℕ → Reply
  full n xs = answered p.value (waiting_for n l xs)

  answered-all : (n : ℕ) (xs : List ℕ) → kept ≡ take (2 * KEPT) xs → full n kept ≡ full n xs
  answered-all n xs e =
      ap (full n) e
      ∙ answered-spare p.value (waiting_for n l xs) xs
      (rw e at (few-records log log' (full n kept).records size same_size (r.replies n).cells))

  called-all : (n : ℕ) (xs : List ℕ) → kept ≡ take (2 * KEPT) xs → c ≡ called (full n xs)
  called-all n xs e = (r.replies n).answer ∙ ap called (answered-all n xs e)

  cells-all : (n : ℕ) (xs : List ℕ) → kept ≡ take (2 * KEPT) xs → log' ≡ written log 0 (full n xs).records
  cells-all n xs e = (r.replies n).cells ∙ ap (λ (w : Reply). written log 0 w.records) (answered-all n xs e)

  pub few-called : c.records ≤ LOG
  few-called = omega (arith, ap (λ (x : Called). x.records) (r.replies 0).answer, few-records log log' (full 0 kept).records size same_size (r.replies 0).cells)

  module _ (n : ℕ) {before out : List ℕ} {f : ℕ} where
    -- 17
    pub due-short : is 17 c.outcome ≡ true → Put before out 0 f (short_line n) → RunsDue p l n kept out (record { pool = c.pool; filled = f; shown = false })
    unfolding ran
    due-short e w =
        record {
          filled = omega (arith, put-length w, w.fits, w.next);
          same = λ xs k show rest.
              let s : is 17 (full n xs).outcome ≡ true = ap (λ (x : Called). is 17 x.outcome) (sym (called-all n xs k)) ∙ e in
              append-nil (take f out) ∙ put_front w ∙ rw s;
        }

    pub due-printed : is 17 c.outcome ≡ false → Put before out 0 f (call_text l c.outcome c.records log')
        → RunsDue p l n kept out (record { pool = c.pool; filled = f; shown = true })
    unfolding ran
    due-printed e w =
        record {
          filled = omega (arith, put-length w, w.fits, w.next);
          same = λ xs k show rest.
              let a = full n xs in
              let s : is 17 a.outcome ≡ false = ap (λ (x : Called). is 17 x.outcome) (sym (called-all n xs k)) ∙ e in
              ap (λ (t : List ℕ). t ++ (show c.pool.value ++ rest c.pool.value)) (put_front w)
              ∙ ap (λ (x : Called). call_text l x.outcome x.records log' ++ (show x.pool.value ++ rest x.pool.value)) (called-all n xs k)
              ∙ ap (λ (t : List ℕ). call_text l a.outcome (length a.records) t ++ (show a.pool ++ rest a.pool)) (cells-all n xs k)
              ∙ text_of show (waiting_for n l xs) a log (rest a.pool)
              ∙ rw s;
        }
