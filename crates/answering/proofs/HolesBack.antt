-- A range that is put back among the holes: the low part of a hole gives the holes as they were, and the low part of a new root makes its rest the whole
-- range again.
use mathlib.Core.Path.{◌≡◌, refl, ◌∙◌, sym}
use mathlib.Core.Logic.{inl, inr, ⊎_elim}
use mathlib.Core.Bool.{Bool, true, false, cond}
use mathlib.Core.List.{List, [], ◌∷◌}
use Prim.Native.Nat.{ℕ, ◌+◌, ◌-◌, ◌≤◌, ◌<◌, min, max}
use native.Mathlib.Omega.{arith}
use borrow.Author.Tests.{eq-eqb, ne_eqb, lt-ltb, le-ltb}
use lib.Dec.{ltb, eqb}
use Rattle.lists.specs.Tests.{All, Member}
use Rattle.lists.proofs.Tests.{cases_lt, cases_eq}
use Rattle.lists.proofs.Members.{member_above}
use Rattle.tables.specs.Values.{hole}
use Rattle.tables.specs.InsertHole.{from, upto, glue, insert_range, insert_hole, Apart}
use Rattle.tables.specs.TakeRange.{cut_hole}
use Rattle.tables.specs.declared.Hole.{Hole}
use Rattle.keeping.specs.Cover.{within, cover_holes}
use Rattle.keeping.proofs.Counting.{once-clear}
use Rattle.keeping.proofs.Holes.{hole-none, apart-rises}

-- the first hole starts above `e`
abbrev Above : ℕ → List Hole → Type 0
Above e [] = Unit {0}
Above e (h ∷ l) = e < from h

above-below : (c b : ℕ) (l : List Hole) → c ≤ b → Above b l → Above c l
above-below c b [] p a = tt
above-below c b (h ∷ l) p a = omega (arith, a)

above_apart : (b m : ℕ) (l : List Hole) → Apart b m l → Above b l
above_apart b m [] w = tt
above_apart b m (h ∷ l) w = w.0

-- holes that do not touch stay two
glue_above : (h : Hole) (l : List Hole) → Above (upto h) l → glue h l ≡ h ∷ l
glue_above h [] a = refl
glue_above h (k ∷ l) a =
    let ne : upto h ≡ from k → ⊥ = λ e. omega (arith, a) in
    rw (ne_eqb (upto h) (from k) ne)

glue_touch : (a n c : ℕ) (l : List Hole) → glue (hole a n) (hole (a + n) c ∷ l) ≡ hole a (n + c) ∷ l
glue_touch a n c l = rw (eq-eqb (a + n) (a + n) refl)

-- in front of all
insert-first : (a n : ℕ) (l : List Hole) → Above a l → insert_range a n l ≡ glue (hole a n) l
insert-first a n [] w = refl
insert-first a n (h ∷ l) w = rw (lt-ltb a (from h) w)

insert-past : (a n : ℕ) (h : Hole) (l : List Hole) → from h ≤ a → insert_range a n (h ∷ l) ≡ glue h (insert_range a n l)
insert-past a n h l p = rw (le-ltb a (from h) p)

above-glue : (e : ℕ) (h : Hole) (l : List Hole) → e < from h → Above e (glue h l)
above-glue e h [] p = p
above-glue e h (k ∷ l) p = go (eqb (upto h) (from k))
  where
    go : (b : Bool) → Above e (cond b (hole (from h) (h.size + k.size) ∷ l) (h ∷ k ∷ l))
    go true = p
    go false = p

above_insert : (e a n : ℕ) (l : List Hole) → e < a → Above e l → Above e (insert_range a n l)
above_insert e a n [] p w = p
above_insert e a n (h ∷ l) p w = go (ltb a (from h))
  where
    go : (b : Bool) → Above e (cond b (glue (hole a n) (h ∷ l)) (glue h (insert_range a n l)))
    go true = above-glue e (hole a n) (h ∷ l) p
    go false = above-glue e h (insert_range a n l) w

insert-some : (a n : ℕ) (l : List Hole) → 0 < n → insert_hole a n l ≡ insert_range a n l
unfolding insert_hole
insert-some a n l p =
    let ne : n ≡ 0 → ⊥ = λ e. omega arith in
    rw (ne_eqb n 0 ne)

-- The low part of a hole is taken and put back.
module _ (n m : ℕ) (some : 0 < n) where
  range_back : (b : ℕ) (h : Hole) (l : List Hole) → Apart b m l → Member h l → n ≤ h.size → insert_range (from h) n (cut_hole n (from h) l) ≡ l
  unfolding cut_hole
  range_back b h [] w x3 q = elim x3 [ ]
  range_back b h (k ∷ l) w (inl e) q = rw (← e, eq-eqb (from h) (from h) refl) (go (rw (← e) at w))
    where
      go : Apart b m (h ∷ l) → insert_range (from h) n (cond (eqb h.size n) l (hole (from h + n) (h.size - n) ∷ l)) ≡ h ∷ l
      go v =
          let past : Above (upto h) l = above_apart (upto h) m l v.1.1 in
          ⊎_elim
          (λ d. rw (eq-eqb h.size n d, ← d) (insert-first (from h) h.size l (above-below (from h) (upto h) l (omega arith) past) ∙ glue_above h l past))
          (λ d.
          let low : from h < from h + n = omega arith in
          let whole : n + (h.size - n) ≡ h.size = omega arith in
          rw (ne_eqb h.size n d, lt-ltb (from h) (from h + n) low, eq-eqb (from h + n) (from h + n) refl, whole))
          (cases_eq h.size n)
  range_back b h (k ∷ l) w (inr i) q =
      let p = member_above from (upto k) h l (apart-rises (upto k) m l w.1.1) i in
      let ne : from k ≡ from h → ⊥ = λ e. omega arith in
      rw (ne_eqb (from k) (from h) ne)
      (insert-past (from h) n k (cut_hole n (from h) l) (omega arith) ∙
      rw (range_back (upto k) h l w.1.1 i q) (glue_above k l (above_apart (upto k) m l w.1.1)))

  pub hole-back : (b : ℕ) (h : Hole) (l : List Hole) → Apart b m l → Member h l → n ≤ h.size → insert_hole (from h) n (cut_hole n (from h) l) ≡ l
  hole-back b h l w i q = insert-some (from h) n (cut_hole n (from h) l) some ∙ range_back b h l w i q

-- A range in front of the hole that starts where it ends, whatever that is one hole with.
insert_glued : (b n c : ℕ) (l : List Hole) → 0 < n → insert_range b n (glue (hole (b + n) c) l) ≡ glue (hole b (n + c)) l
insert_glued b n c [] p = rw (lt-ltb b (b + n) (omega arith)) (glue_touch b n c [])
insert_glued b n c (k ∷ l) p =
    let up : b + (n + c) ≡ b + n + c = omega arith in
    let size : n + (c + k.size) ≡ n + c + k.size = omega arith in
    rw up (go (eqb (b + n + c) (from k)) size)
  where
    go : (t : Bool) → n + (c + k.size) ≡ n + c + k.size →
        insert_range b n (cond t (hole (b + n) (c + k.size) ∷ l) (hole (b + n) c ∷ k ∷ l)) ≡ cond t (hole b (n + c + k.size) ∷ l) (hole b (n + c) ∷ k ∷ l)
    go true e = rw (lt-ltb b (b + n) (omega arith), ← e) (glue_touch b n (c + k.size) l)
    go false e = rw (lt-ltb b (b + n) (omega arith)) (glue_touch b n c (k ∷ l))

-- The low part of a new root is put back, where no hole has an address of the root.
module _ (b n va m : ℕ) (some : 0 < n) where
  abbrev Clear : Hole → Type 0
  Clear h = min (b + va) (upto h) ≤ max b (from h)

  range_joins : n < va → (e : ℕ) (l : List Hole) → Apart e m l → All Clear l → insert_range b n (insert_range (b + n) (va - n) l) ≡ insert_range b va l
  range_joins p e [] w c =
      let whole : n + (va - n) ≡ va = omega arith in
      rw (lt-ltb b (b + n) (omega arith), eq-eqb (b + n) (b + n) refl, whole)
  range_joins p e (k ∷ l) w c = ⊎_elim before (after (range_joins p (upto k) l w.1.1 c.1)) (cases_lt b (from k))
    where
      before : b < from k → insert_range b n (insert_range (b + n) (va - n) (k ∷ l)) ≡ insert_range b va (k ∷ l)
      before q =
          let whole : n + (va - n) ≡ va = omega arith in
          rw (insert-first (b + n) (va - n) (k ∷ l) (omega (arith, c.0, w.1.0)), insert-first b va (k ∷ l) q, insert_glued b n (va - n) (k ∷ l) some, whole)

      after : insert_range b n (insert_range (b + n) (va - n) l) ≡ insert_range b va l → from k ≤ b →
          insert_range b n (insert_range (b + n) (va - n) (k ∷ l)) ≡ insert_range b va (k ∷ l)
      after joins q =
          let x = insert_range (b + n) (va - n) l in
          let low : upto k < b + n = omega (arith, c.0, w.1.0) in
          let past = above_insert (upto k) (b + n) (va - n) l low (above_apart (upto k) m l w.1.1) in
          rw (insert-past (b + n) (va - n) k l (omega arith), glue_above k x past, insert-past b n k x q, insert-past b va k l q, joins)

  pub root-back : n ≤ va → (e : ℕ) (l : List Hole) → Apart e m l → ((x : ℕ) → within b va x + cover_holes l x ≤ 1) →
      insert_hole b n (insert_hole (b + n) (va - n) l) ≡ insert_hole b va l
  root-back p e l w once =
      ⊎_elim
      (λ q. insert-some b n _ some ∙ rw (insert-some (b + n) (va - n) l (omega arith)) (range_joins q e l w clear) ∙ sym (insert-some b va l (omega arith)))
      (λ q.
      let none : va - n ≡ 0 = omega arith in
      let same : va ≡ n = omega arith in
      rw (hole-none (b + n) (va - n) l none, same))
      (cases_lt n va)
    where
      clear : All Clear l
      clear = once-clear from (λ h. h.size) b va l once
