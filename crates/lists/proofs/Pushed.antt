-- A table's cells past its count: what a store into the first of them leaves, and what a loop that clears them leaves.
use mathlib.Core.Path.{◌≡◌, refl, ap, sym, ◌∙◌}
use mathlib.Core.List.{List, [], ◌∷◌, ◌++◌, append-nil, append_assoc}
use Prim.Native.Nat.{ℕ, ◌+◌, ◌-◌, ◌≤◌, ◌<◌}
use native.Mathlib.Omega.{arith}
use native.Mathlib.Numerals.{add-one}
use lib.ListN.{length, set, take, length-append, length-take, replicate-append-replicate}
use lib.Seq.{take-suc-set, take_all}
use Rattle.lists.specs.Places.{insert_at}
use Rattle.lists.specs.Cells.{packed, Filled}
use Rattle.lists.proofs.Places.{insert_at_seam}
use Rattle.lists.proofs.Cells.{inserted}
use Rattle.lists.proofs.Filled.{filled-length, filled-count}

module _ {A : Type 0} where
  pub length_push : (l : List A) (a : A) → length (l ++ a ∷ []) ≡ length l + 1
  length_push l a = length-append l (a ∷ []) ∙ omega arith

  insert_at-end : (l : List A) (a : A) → insert_at (length l) a l ≡ l ++ a ∷ []
  insert_at-end l a = rw append-nil at (insert_at_seam l a [])

  pub pushed : (n : ℕ) (z : A) {cells : List A} {count : ℕ} → Filled n z cells count → count < n → (a : A) →
      set cells count a ≡ packed n z (take count cells ++ a ∷ [])
  pushed n z {cells} {count} f room a =
      let l = take count cells in
      let e : count ≡ length l = filled-count f in
      let put : insert_at count a l ≡ l ++ a ∷ [] = ap (λ i. insert_at i a l) e ∙ insert_at-end l a in
      inserted n z l f.whole e cells count a (filled-length f) room (omega arith) refl ∙ ap (packed n z) put

  -- A loop from the count on that stores `z`: `out` is what it leaves of the cells. The first `i` are those of a table of `i` cells.
  packed-next : (i : ℕ) (z : A) (l : List A) → length l ≤ i → packed (i + 1) z l ≡ packed i z l ++ z ∷ []
  packed-next i z l h =
      let e : (i + 1) - length l ≡ (i - length l) + 1 = omega arith in
      rw (append_assoc, e, ← replicate-append-replicate (i - length l) 1 z)
