-- Laws of `Filled`, what a table's cells and count are below the entry points.
use mathlib.Core.Path.{◌≡◌, ap, sym, ◌∙◌}
use mathlib.Core.List.{List}
use Prim.Native.Nat.{ℕ, ◌≤◌}
use native.Mathlib.Omega.{arith}
use lib.ListN.{length, take, length-take}
use lib.Seq.{take-append_seam}
use Rattle.lists.specs.Cells.{packed, Filled}
use Rattle.lists.proofs.Cells.{length-packed}

-- the cells of a table that holds `l` give it back
pub take-packed : {A : Type 0} (n : ℕ) (z : A) (l : List A) → take (length l) (packed n z l) ≡ l
take-packed n z l = take-append_seam l _

pub filled-packed : {A : Type 0} (n : ℕ) (z : A) (l : List A) → length l ≤ n → Filled n z (packed n z l) (length l)
filled-packed n z l h = record { most = h; whole = ap (packed n z) (sym (take-packed n z l)) }

module _ {A : Type 0} {n : ℕ} {z : A} {cells : List A} {count : ℕ} (f : Filled n z cells count) where
  shorter : length (take count cells) ≤ n
  shorter = simp length-take (omega (arith, f.most))

  -- there are all the cells, and the count is the list's length
  pub filled-length : length cells ≡ n
  filled-length = ap length f.whole ∙ length-packed n z (take count cells) shorter

  pub filled-count : count ≡ length (take count cells)
  filled-count = simp length-take (omega (arith, f.most, filled-length))
