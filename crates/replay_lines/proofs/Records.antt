-- The records that stand in a log: those that were written to it, and one after the other those that are left.
use mathlib.Core.Path.{◌≡◌, refl, sym, ap, ◌∙◌}
use mathlib.Core.List.{List, [], ◌∷◌, ◌++◌, append_assoc, append-nil}
use Prim.Native.Nat.{ℕ, suc, ◌+◌, ◌-◌, ◌*◌, ◌≤◌, ◌<◌}
use native.Mathlib.Omega.{arith}
use lib.ListN.{length, drop, get_or}
use lib.Seq.{drop-drop, get_or-drop}
use Rattle.words.specs.Log.{cells, written}
use Rattle.words.specs.declared.Record.{Record}
use Rattle.trace.specs.Bounds.{longest_line}
use Rattle.trace.specs.Form.{printed}
use Rattle.trace.specs.Put.{Put}
use Rattle.trace.specs.declared.Line.{Line}
use Rattle.trace.proofs.Put.{put_then, put-none, put_as}
use Rattle.replay_lines.specs.Records.{printed_all, records_in, PutRecords}

records-cells : (rs : List Record) (l : List ℕ) → records_in (length rs) (cells rs ++ l) ≡ rs
records-cells [] l = refl
records-cells (r ∷ rs) l = ap (λ (ss : List Record). r ∷ ss) (records-cells rs l)

-- what a call wrote stands in the log
pub records-written : (l : List ℕ) (rs : List Record) → records_in (length rs) (written l 0 rs) ≡ rs
unfolding written
records-written l rs = records-cells rs (drop (4 * (0 + length rs)) l)

-- what is put so far, and what is left
pub record Sofar (log : List ℕ) (count : ℕ) (out₀ : List ℕ) (at : ℕ) (out : List ℕ) (i next : ℕ) : Type 0 where
  pub done : List ℕ
  pub puts : Put out₀ out at next done
  pub rest : printed_all (records_in count log) ≡ done ++ printed_all (records_in (count - i) (drop (4 * i) log))
  pub within : i ≤ count
  pub below : next ≤ at + longest_line * i

pub at_first : (log : List ℕ) (count : ℕ) (out : List ℕ) (at : ℕ) → at ≤ length out → Sofar log count out at out 0 at
at_first log count out at h =
    let z : count - 0 ≡ count = omega arith in
    record { done = []; puts = put-none out at at h refl; rest = rw z; within = omega arith; below = omega arith }

module _ {log : List ℕ} {count : ℕ} {out₀ : List ℕ} {at : ℕ} {out : List ℕ} {i next : ℕ} (s : Sofar log count out₀ at out i next) where
  next-record : i < count → records_in (count - i) (drop (4 * i) log)
      ≡ record { kind = get_or log (4 * i) 0; first = get_or log (4 * i + 1) 0; second = get_or log (4 * i + 2) 0; code = get_or log (4 * i + 3) 0 }
      ∷ records_in (count - (i + 1)) (drop (4 * (i + 1)) log)
  next-record h =
      let n : count - i ≡ suc (count - (i + 1)) = omega arith in
      let z : 4 * i + 0 ≡ 4 * i = omega arith in
      let m : 4 * i + 4 ≡ 4 * (i + 1) = omega arith in
      let d : drop 4 (drop (4 * i) log) ≡ drop (4 * (i + 1)) log = drop-drop 4 (4 * i) log ∙ ap (λ (k : ℕ). drop k log) m in
      rw n (rw (d, get_or-drop (4 * i) log 0 0, z, get_or-drop (4 * i) log 1 0, get_or-drop (4 * i) log 2 0, get_or-drop (4 * i) log 3 0))

  pub one_more : {out' : List ℕ} {next' : ℕ} (l : Line) → i < count
      → l ≡ record { kind = get_or log (4 * i) 0; first = get_or log (4 * i + 1) 0; second = get_or log (4 * i + 2) 0; third = get_or log (4 * i + 3) 0 }
      → Put out out' next next' (printed l)
      → next' ≤ next + longest_line
      → Sofar log count out₀ at out' (i + 1) next'
  one_more l h e p n =
      let left = printed_all (records_in (count - (i + 1)) (drop (4 * (i + 1)) log)) in
      record {
        done = s.done ++ printed l;
        puts = put_then s.puts p;
        rest = s.rest ∙ ap (λ (rs : List Record). s.done ++ printed_all rs) (next-record h)
            ∙ ap (λ (k : Line). s.done ++ (printed k ++ left)) (sym e)
            ∙ sym (append_assoc s.done (printed l) left);
        within = omega arith;
        below = omega (arith, s.below, n);
      }

  pub all-put : i ≡ count → PutRecords log count out₀ out at next
  all-put h =
      let z : count - i ≡ 0 = omega arith in
      record {
        puts = put_as (sym (s.rest ∙ rw z (append-nil s.done))) s.puts;
        next = omega (arith, s.below);
      }
