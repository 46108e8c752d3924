-- Laws of `swap_out`.
use mathlib.Core.Path.{◌≡◌, refl, ◌∙◌}
use mathlib.Core.List.{List, [], ◌∷◌}
use Prim.Native.Nat.{ℕ, zero, suc, ◌+◌, ◌-◌, ◌<◌}
use native.Mathlib.Omega.{arith}
use native.Mathlib.Nat.{le_of_suc-le-suc}
use native.Mathlib.Decide.{ℕ_discrete}
use lib.ListN.{length, get_or, set, take, length-set}
use lib.Seq.{length-take-le, get_or-set_same, get_or-set_other}
use Rattle.lists.specs.Places.{last, swap_out}
use Rattle.lists.specs.Tests.{All}
use Rattle.lists.specs.Walks.{sum}
use Rattle.lists.proofs.Tests.{all-at, all_set, all_take}

module _ {ℓ} {A : Type ℓ} where
  last-get_or : (x : A) (l : List A) (d : A) → last x l ≡ get_or (x ∷ l) (length l) d
  last-get_or x [] d = refl
  last-get_or x (y ∷ l) d = last-get_or y l d

  -- as the code does it: the last element is stored at the place, and the list is one shorter
  pub swap_out-is : (i : ℕ) (l : List A) (d : A) → 0 < length l → swap_out i l ≡ take (length l - 1) (set l i (get_or l (length l - 1) d))
  swap_out-is i [] d h = absurd (omega arith)
  swap_out-is i (x ∷ l) d h =
      let e : suc (length l) - 1 ≡ length l = omega arith in
      rw (length-set, e, last-get_or x l d)

  pub length-swap_out : (i : ℕ) (l : List A) → length (swap_out i l) ≡ length l - 1
  length-swap_out i [] = omega arith
  length-swap_out i (x ∷ l) =
      let m = set (x ∷ l) i (last x l) in
      let e : length m ≡ suc (length l) = length-set (x ∷ l) i (last x l) in
      length-take-le (length m - 1) m (omega arith) ∙ omega arith

  sum-set : (f : A → ℕ) (l : List A) (i : ℕ) (v d : A) → i < length l → sum f (set l i v) + f (get_or l i d) ≡ sum f l + f v
  sum-set f [] i v d h = absurd (omega arith)
  sum-set f (x ∷ l) zero v d h = omega arith
  sum-set f (x ∷ l) (suc i) v d h = omega (arith, sum-set f l i v d (le_of_suc-le-suc h))

  sum-unlast : (f : A → ℕ) (l : List A) (n : ℕ) (d : A) → length l ≡ suc n → sum f (take n l) + f (get_or l n d) ≡ sum f l
  sum-unlast f [] n d h = absurd (omega arith)
  sum-unlast f (x ∷ []) zero d h = omega arith
  sum-unlast f (x ∷ []) (suc n) d h = absurd (omega arith)
  sum-unlast f (x ∷ y ∷ l) zero d h = absurd (omega arith)
  sum-unlast f (x ∷ y ∷ l) (suc n) d h = omega (arith, sum-unlast f (y ∷ l) n d (omega arith))

  still-last : (l : List A) (i n : ℕ) (d : A) → i < length l → n < length l → get_or (set l i (get_or l n d)) n d ≡ get_or l n d
  still-last l i n d h k =
      elim (ℕ_discrete n i) [ yes p ↦ rw p (get_or-set_same l i (get_or l i d) d h) | no q ↦ get_or-set_other l i n (get_or l n d) d q ]

  -- what is counted of each element: the one taken out counts no more
  pub sum-swap_out : (f : A → ℕ) (l : List A) (i : ℕ) (d : A) → i < length l → f (get_or l i d) + sum f (swap_out i l) ≡ sum f l
  sum-swap_out f l i d h =
      let n = length l - 1 in
      let m = set l i (get_or l n d) in
      let k : length m ≡ suc n = length-set l i (get_or l n d) ∙ omega arith in
      let a = sum-set f l i (get_or l n d) d h in
      let b : sum f (take n m) + f (get_or l n d) ≡ sum f m = rw (still-last l i n d h (omega arith)) at (sum-unlast f m n d k) in
      rw (swap_out-is i l d (omega arith)) (omega arith)

  pub all-swap_out : (P : A → Type 0) (l : List A) (i : ℕ) (d : A) → All P l → i < length l → All P (swap_out i l)
  all-swap_out P l i d a h =
      rw (swap_out-is i l d (omega arith))
      (all_take P _ (length l - 1) (all_set P l i (get_or l (length l - 1) d) (all-at P l (length l - 1) d a (omega arith)) a))
