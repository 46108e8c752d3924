-- Marks by remainder: a number whose place has no mark is none of those that left one; one that is found among them is twice.
use mathlib.Core.Path.{◌≡◌, refl, sym, ◌∙◌}
use mathlib.Core.Bool.{Bool, true, false, not, and-false, false≢true}
use mathlib.Core.List.{List, [], ◌∷◌}
use Prim.Native.Nat.{ℕ, zero, suc, ◌+◌, ◌≤◌, ◌<◌, ◌%◌}
use borrow.Author.Tests.{ne_eqb, eqb-true, eqb-false}
use lib.Dec.{eqb}
use lib.ListN.{length, drop, get_or, set, drop_of_length-le}
use lib.Seq.{get_or-set_same, get_or-set_other}
use Rattle.lists.specs.Tests.{All, every, distinct}
use Rattle.lists.proofs.Tests.{all_implies}
use Rattle.lists.proofs.Cells.{turn-all}

-- each number of the list has left its mark
abbrev pub Marked : List Bool → List ℕ → Type 0
Marked m l = All (λ y. get_or m (y % 1021) false ≡ true) l

pub marked-none : (m : List Bool) (l : List ℕ) (i : ℕ) → length l ≤ i → (distinct (drop i l) ≡ true) × Marked m (drop i l)
marked-none m l i h = rw (drop_of_length-le l {i = i} h) (refl, tt)

pub unmarked-apart : (m : List Bool) (x : ℕ) (l : List ℕ) → get_or m (x % 1021) false ≡ false → Marked m l → every (λ y. not (eqb x y)) l ≡ true
unmarked-apart m x [] e a = refl
unmarked-apart m x (y ∷ l) e a = rw (ne_eqb x y other) (unmarked-apart m x l e a.1)
  where
    other : x ≡ y → ⊥
    other q =
        let h : get_or m (y % 1021) false ≡ false = rw q at e in
        false≢true (sym h ∙ a.0)

module _ (m : List Bool) (k : ℕ) (h : k < length m) where
  mark-kept : (j : ℕ) → get_or m j false ≡ true → get_or (set m k true) j false ≡ true
  mark-kept j w = go (eqb j k) refl
    where
      go : (b : Bool) → eqb j k ≡ b → get_or (set m k true) j false ≡ true
      go true e = rw (eqb-true j k e) (get_or-set_same m k true false h)
      go false e = get_or-set_other m k j true false (eqb-false j k e) ∙ w

  marks-kept : (l : List ℕ) → Marked m l → Marked (set m k true) l
  marks-kept l a = all_implies (λ y. get_or m (y % 1021) false ≡ true) (λ y. get_or (set m k true) (y % 1021) false ≡ true) (λ y w. mark-kept (y % 1021) w) l a

-- one number more, from the end on
pub marked_more : (m : List Bool) (l : List ℕ) (i : ℕ) → i < length l → get_or l i 0 % 1021 < length m →
    every (λ y. not (eqb (get_or l i 0) y)) (drop (i + 1) l) ≡ true → (distinct (drop (i + 1) l) ≡ true) × Marked m (drop (i + 1) l) →
    (distinct (drop i l) ≡ true) × Marked (set m (get_or l i 0 % 1021) true) (drop i l)
marked_more m l i s h e a =
    let x = get_or l i 0 in
    rw (turn-all l i 0 s) (rw (e, a.0), (get_or-set_same m (x % 1021) true false h, marks-kept m (x % 1021) h (drop (i + 1) l) a.1))

-- a number that is twice among the last ones is twice
among-last : (i : ℕ) (l : List ℕ) → distinct (drop i l) ≡ false → distinct l ≡ false
among-last zero l e = e
among-last (suc i) [] e = e
among-last (suc i) (x ∷ l) e = rw (among-last i l e) (and-false (every (λ y. not (eqb x y)) l))

pub found-again : (l : List ℕ) (i : ℕ) → i < length l → every (λ y. not (eqb (get_or l i 0) y)) (drop (i + 1) l) ≡ false → distinct l ≡ false
found-again l i s e = among-last i l (rw (turn-all l i 0 s, e))
