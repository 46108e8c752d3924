-- A table and its list: packing is undone by reading, a kept table is its list packed, the packing of a list is kept, and a cell in use is the list's
-- element.
use mathlib.Core.Path.{◌≡◌, refl}
use mathlib.Core.List.{List}
use Prim.Native.Nat.{ℕ, ◌≤◌, ◌<◌}
use lib.ListN.{length, get_or}
use lib.Seq.{get_or-take}
use Rattle.lists.proofs.Filled.{take-packed, filled-packed, filled-count}
use Rattle.cells.specs.Table.{entries, pack, Kept}
use Rattle.cells.specs.declared.Table.{Table}

module _ {A : Type 0} where
  pub entries_pack : (n : ℕ) (z : A) (l : List A) → entries (pack {n = n} z l) ≡ l
  unfolding entries pack
  entries_pack n z l = take-packed n z l

  pub packed_count : (n : ℕ) (z : A) (l : List A) → (pack {n = n} z l).count ≡ length l
  unfolding pack
  packed_count n z l = refl

  module _ {n : ℕ} (z : A) where
    pub kept : (l : List A) → length l ≤ n → Kept z (pack {n = n} z l)
    unfolding pack
    kept l h = filled-packed n z l h

    module _ (t : Table A n) where
      pub whole : Kept z t → t ≡ pack z (entries t)
      unfolding entries pack
      whole k = λ i. record { cells = k.whole i; count = filled-count k i }

      pub count_is : Kept z t → t.count ≡ length (entries t)
      unfolding entries
      count_is k = filled-count k

      pub cell_is : (i : ℕ) → i < t.count → get_or (entries t) i z ≡ get_or t.cells i z
      unfolding entries
      cell_is i h = get_or-take t.count t.cells i z h
