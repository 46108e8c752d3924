-- A close writes the pool's records, moves them up, and writes those of the small buffers before them: so they stand in the log as if written in that order.
use mathlib.Core.Path.{◌≡◌, ap, sym, ◌∙◌}
use mathlib.Core.List.{List, ◌++◌, append_assoc}
use Prim.Native.Nat.{ℕ, ◌+◌, ◌-◌, ◌*◌, ◌≤◌}
use native.Mathlib.Omega.{arith}
use lib.ListN.{length, take, drop, length-append}
use lib.Seq.{take_at, drop_at, drop-drop}
use Rattle.words.specs.Log.{cells, written}
use Rattle.words.specs.declared.Record.{Record}
use Rattle.words.proofs.Log.{length-cells, cells-append}

-- what is written from the first cell on
pub written-first : (l : List ℕ) (rs : List Record) → written l 0 rs ≡ cells rs ++ drop (4 * length rs) l
unfolding written
written-first l rs = let e : 0 + length rs ≡ length rs = omega arith in rw e

module _ (l : List ℕ) (rs : List Record) where
  pub take-written : take (4 * length rs) (written l 0 rs) ≡ cells rs
  take-written = rw (written-first l rs) (take_at (cells rs) (drop (4 * length rs) l) (4 * length rs) (length-cells rs))

  -- behind the records the log is as it was
  pub drop-written : (k : ℕ) → drop (4 * (length rs + k)) (written l 0 rs) ≡ drop (4 * (length rs + k)) l
  drop-written k =
      let e : 4 * length rs + 4 * k ≡ 4 * (length rs + k) = omega arith in
      ap (λ n. drop n (written l 0 rs)) (sym e) ∙ sym (drop-drop (4 * k) (4 * length rs) (written l 0 rs)) ∙ ap (drop (4 * k)) at_seam
      ∙ drop-drop (4 * k) (4 * length rs) l ∙ ap (λ n. drop n l) e
    where
      at_seam : drop (4 * length rs) (written l 0 rs) ≡ drop (4 * length rs) l
      at_seam = rw (written-first l rs) (drop_at (cells rs) (drop (4 * length rs) l) (4 * length rs) (length-cells rs))

pub written-before : (l₀ l₁ l₂ l₃ : List ℕ) (ds rs : List Record) (k : ℕ) →
    l₁ ≡ written l₀ 0 rs →
    drop (4 * k) l₂ ≡ take (4 * length rs) l₁ ++ drop (4 * (length rs + k)) l₁ →
    l₃ ≡ written l₂ 0 ds → length ds ≡ k → l₃ ≡ written l₀ 0 (ds ++ rs)
written-before l₀ l₁ l₂ l₃ ds rs k first moved last count =
    last ∙ written-first l₂ ds ∙ ap (λ q. cells ds ++ q) rest ∙ sym (append_assoc (cells ds) (cells rs) (drop (4 * length (ds ++ rs)) l₀))
    ∙ ap (λ q. q ++ drop (4 * length (ds ++ rs)) l₀) (sym (cells-append ds rs)) ∙ sym (written-first l₀ (ds ++ rs))
  where
    size : 4 * (length rs + k) ≡ 4 * length (ds ++ rs)
    size = simp length-append (omega arith)

    rest : drop (4 * length ds) l₂ ≡ cells rs ++ drop (4 * length (ds ++ rs)) l₀
    rest = ap (λ n. drop (4 * n) l₂) count ∙ moved
        ∙ ap (λ z. take (4 * length rs) z ++ drop (4 * (length rs + k)) z) first
        ∙ ap (λ q. q ++ drop (4 * (length rs + k)) (written l₀ 0 rs)) (take-written l₀ rs)
        ∙ ap (λ q. cells rs ++ q) (drop-written l₀ rs k ∙ ap (λ n. drop n l₀) size)

-- What is written from the first cell on covers fewer records there.
pub written_over : (l : List ℕ) (rs ds : List Record) → length rs ≤ length ds → written (written l 0 rs) 0 ds ≡ written l 0 ds
written_over l rs ds h =
    let e : length rs + (length ds - length rs) ≡ length ds = omega arith in
    written-first (written l 0 rs) ds ∙ ap (λ q. cells ds ++ q) (rw e at (drop-written l rs (length ds - length rs))) ∙ sym (written-first l ds)
