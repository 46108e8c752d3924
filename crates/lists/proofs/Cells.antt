-- Laws of a table's cells: what a loop that shifts, a store and a swap leave of `packed`, and what is left of the list at each turn of a loop.
use mathlib.Core.Path.{◌≡◌, ap, ◌∙◌}
use mathlib.Core.List.{List, [], ◌∷◌, ◌++◌, append_assoc}
use Prim.Native.Nat.{ℕ, suc, ◌+◌, ◌-◌, ◌≤◌, ◌<◌}
use native.Mathlib.Omega.{arith}
use native.Mathlib.Numerals.{add-one}
use lib.ListN.{length, get_or, set, take, drop, replicate, length-append, length-replicate, length-take, length-set, drop_of_length-le, get_or-append}
use lib.Seq.{drop-cons, get_or-take, set-append_left, set_split}
use Rattle.lists.specs.Places.{insert_at, remove_at, swap_out}
use Rattle.lists.specs.Cells.{packed}
use Rattle.lists.proofs.Places.{length-insert_at, length-remove_at, insert_at-append, insert_at_seam, remove_at-append, remove_at_seam, set-insert_at}
use Rattle.lists.proofs.Swap.{swap_out-is, length-swap_out}

module _ {ℓ} {A : Type ℓ} where
  pub length-packed : (n : ℕ) (z : A) (l : List A) → length l ≤ n → length (packed n z l) ≡ n
  length-packed n z l h = simp (length-append, length-replicate) (omega arith)

  -- a store into a cell in use
  pub packed-set : (n : ℕ) (z : A) (l : List A) (i : ℕ) (a : A) → i < length l → set (packed n z l) i a ≡ packed n z (set l i a)
  packed-set n z l i a h = rw (set-append_left, length-set)

  packed-insert_at : (n : ℕ) (z a : A) (l : List A) (i : ℕ) → length l < n → i ≤ length l →
      insert_at i a (remove_at (length l) (packed n z l)) ≡ packed n z (insert_at i a l)
  packed-insert_at n z a l i h k =
      let e : n - length l ≡ suc (n - suc (length l)) = omega arith in
      rw (e, remove_at_seam, length-insert_at, insert_at-append)

  packed-remove_at : (n : ℕ) (z : A) (l : List A) (i : ℕ) → length l ≤ n → i < length l →
      insert_at (length l - 1) z (remove_at i (packed n z l)) ≡ packed n z (remove_at i l)
  packed-remove_at n z l i k h =
      let e : length l - 1 ≡ length (remove_at i l) = omega (arith, length-remove_at i l h) in
      let f : n - length (remove_at i l) ≡ suc (n - length l) = omega (arith, length-remove_at i l h) in
      rw (remove_at-append, e, insert_at_seam, f)

  packed-swap_out : (n : ℕ) (z : A) (l : List A) (i : ℕ) (d : A) → length l ≤ n → i < length l →
      set (set (packed n z l) i (get_or (packed n z l) (length l - 1) d)) (length l - 1) z ≡ packed n z (swap_out i l)
  packed-swap_out n z l i d h k =
      let r = replicate (n - length l) z in
      let at : length l - 1 < length l = omega arith in
      let v = get_or l (length l - 1) d in
      let m = set l i v in
      let len : length m ≡ length l = length-set l i v in
      let fits : length l - 1 < length m = omega arith in
      let one : set (l ++ r) i v ≡ m ++ r = set-append_left l r i v k in
      let two : set (m ++ r) (length l - 1) z ≡ set m (length l - 1) z ++ r = set-append_left m r (length l - 1) z fits in
      let none : drop (suc (length l - 1)) m ≡ [] = drop_of_length-le m {i = suc (length l - 1)} (omega arith) in
      let cut : set m (length l - 1) z ≡ take (length l - 1) m ++ z ∷ [] =
      set_split m (length l - 1) z fits ∙ ap (λ q. take (length l - 1) m ++ z ∷ q) none in
      let more : n - length (swap_out i l) ≡ suc (n - length l) = omega (arith, length-swap_out i l) in
      rw (get_or-append l r d (length l - 1), one, two, cut, append_assoc, more, swap_out-is i l d (omega arith))

  -- The ends of functions over a table whose `cells` and `count` hold the list `l`: `out` is what their loop leaves of the cells.
  module _ (n : ℕ) (z : A) {cells : List A} {count : ℕ} (l : List A) (w : cells ≡ packed n z l) (e : count ≡ length l) where
    pub inserted : (out : List A) (at : ℕ) (a : A) → length out ≡ n → count < n → at ≤ count →
        remove_at at out ≡ remove_at count cells → set out at a ≡ packed n z (insert_at at a l)
    inserted out at a len room below r =
        set-insert_at out at a (omega arith) ∙ rw (r, e, w) (packed-insert_at n z a l at (omega arith) (omega arith))

    pub removed : (out : List A) (at : ℕ) → length out ≡ n → count ≤ n → at < count →
        remove_at (count - 1) out ≡ remove_at at cells → set out (count - 1) z ≡ packed n z (remove_at at l)
    removed out at len room below r =
        set-insert_at out (count - 1) z (omega arith) ∙ rw (r, e, w) (packed-remove_at n z l at (omega arith) (omega arith))

    pub swapped : (i : ℕ) → count ≤ n → i < count → set (set cells i (get_or cells (count - 1) z)) (count - 1) z ≡ packed n z (swap_out i l)
    swapped i h k = rw (e, w) (packed-swap_out n z l i z (omega arith) (omega arith))

  -- A loop over the first `n` cells: what is left of the list at a turn, and at the end.
  module _ (n : ℕ) (cells : List A) where
    pub turn : (i : ℕ) (d : A) → i < n → n ≤ length cells → drop i (take n cells) ≡ get_or cells i d ∷ drop (i + 1) (take n cells)
    turn i d h k =
        let e : i < length (take n cells) = simp length-take (omega arith) in
        rw (drop-cons (take n cells) i d, get_or-take n cells i d, add-one)

    pub ends : (i : ℕ) → n ≤ i → drop i (take n cells) ≡ []
    ends i h = drop_of_length-le (take n cells) {i = i} (simp length-take (omega arith))

  -- the same over all the cells
  pub turn-all : (cells : List A) (i : ℕ) (d : A) → i < length cells → drop i cells ≡ get_or cells i d ∷ drop (i + 1) cells
  turn-all cells i d h = rw (drop-cons cells i d, add-one)
