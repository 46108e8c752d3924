-- Insert hole, and taking the low part of a hole: what the holes cover then, that they stay in order and of whole pages, and how many they are.
use mathlib.Core.Path.{◌≡◌, refl, ap}
use mathlib.Core.Logic.{◌⊎◌, inl, inr, ⊎_elim}
use mathlib.Core.Bool.{Bool, true, false, cond}
use mathlib.Core.List.{List, [], ◌∷◌}
use mathlib.Core.Option.{some}
use Prim.Native.Nat.{ℕ, suc, ◌+◌, ◌-◌, ◌≤◌, ◌<◌, min, max}
use native.Mathlib.Omega.{arith}
use lib.Dec.{ltb, leb, eqb}
use lib.ListN.{length}
use borrow.Author.Tests.{eq-eqb, ne_eqb, eqb-true, eqb-false, lt-ltb, le-ltb, leb-true}
use Rattle.lists.specs.Tests.{All, Member, filter}
use Rattle.lists.specs.Order.{Rises}
use Rattle.lists.proofs.Tests.{cases_lt, cases_eq}
use Rattle.lists.proofs.Order.{rises-below}
use Rattle.lists.proofs.Members.{member_above, member_filter, member-least}
use Rattle.tables.specs.Values.{hole}
use Rattle.tables.specs.InsertHole.{from, upto, glue, insert_range, insert_hole, Apart}
use Rattle.tables.specs.TakeRange.{smallest_hole, cut_hole}
use Rattle.tables.specs.declared.Hole.{Hole}
use Rattle.tables.proofs.Apart.{apart_below}
use Rattle.keeping.specs.Cover.{within, cover_holes}
use Rattle.keeping.specs.Sound.{Whole, WholeRange}
use Rattle.keeping.proofs.Cover.{within_join, within_cut, within_in, within_out}
use Rattle.keeping.proofs.Counting.{once-clear}
use Rattle.keeping.proofs.Whole.{whole-add, whole_upper}

-- the range from `a` of size `n` and `h` have no address in common
abbrev Clear : ℕ → ℕ → Hole → Type 0
Clear a n h = min (a + n) (upto h) ≤ max a (from h)

cover-glue : (h : Hole) (l : List Hole) (x : ℕ) → cover_holes (glue h l) x ≡ within (from h) h.size x + cover_holes l x
cover-glue h [] x = refl
cover-glue h (k ∷ l) x =
    ⊎_elim
    (λ e. rw (eq-eqb (upto h) (from k) e) (omega (arith, within_join (from h) h.size k.size x, ap (λ s. within s k.size x) e)))
    (λ e. rw (ne_eqb (upto h) (from k) e))
    (cases_eq (upto h) (from k))

-- An inserted range adds itself to what is covered, whatever the list.
cover_insert : (a n : ℕ) (l : List Hole) (x : ℕ) → cover_holes (insert_range a n l) x ≡ within a n x + cover_holes l x
cover_insert a n [] x = refl
cover_insert a n (h ∷ l) x =
    ⊎_elim
    (λ p. rw (lt-ltb a (from h) p) (cover-glue (hole a n) (h ∷ l) x))
    (λ p. rw (le-ltb a (from h) p) (omega (arith, cover-glue h (insert_range a n l) x, cover_insert a n l x)))
    (cases_lt a (from h))

-- as `Apart`, where the first may touch the bound
abbrev Ahead : ℕ → ℕ → List Hole → Type 0
Ahead b m [] = b ≤ m
Ahead b m (h ∷ l) = (b ≤ from h) × ((0 < h.size) × Apart (upto h) m l)

ahead-glue : (b m : ℕ) (h : Hole) (l : List Hole) → b ≤ from h → 0 < h.size → Ahead (upto h) m l → Ahead b m (glue h l)
ahead-glue b m h [] p q w = (p, (q, w))
ahead-glue b m h (k ∷ l) p q w =
    ⊎_elim
    (λ e.
    let f : from h + (h.size + k.size) ≡ upto k = omega arith in
    rw (eq-eqb (upto h) (from k) e) (p, (omega arith, rw f w.1.1)))
    (λ e. rw (ne_eqb (upto h) (from k) e) (p, (q, (omega arith, w.1))))
    (cases_eq (upto h) (from k))

ahead_insert : (a n b m : ℕ) (l : List Hole) → Ahead b m l → b ≤ a → 0 < n → a + n ≤ m → All (Clear a n) l → Ahead b m (insert_range a n l)
ahead_insert a n b m [] w p q r c = (p, (q, r))
ahead_insert a n b m (h ∷ l) w p q r c =
    ⊎_elim
    (λ s. rw (lt-ltb a (from h) s) (ahead-glue b m (hole a n) (h ∷ l) p q (omega arith, w.1)))
    (λ s. rw (le-ltb a (from h) s)
    (ahead-glue b m h (insert_range a n l) w.0 w.1.0 (ahead_insert a n (upto h) m l (weaken (upto h) m l w.1.1) (omega arith) q r c.1)))
    (cases_lt a (from h))
  where
    weaken : (b m : ℕ) (l : List Hole) → Apart b m l → Ahead b m l
    weaken b m [] w = w
    weaken b m (h ∷ l) w = (omega arith, w.1)

-- A range that is clear of a list keeps it in order, disjoint, and with no two touching.
apart_insert : (a n b m : ℕ) (l : List Hole) → Apart b m l → b < a → 0 < n → a + n ≤ m → All (Clear a n) l → Apart b m (insert_range a n l)
apart_insert a n b m l w p q r c = back (insert_range a n l) (ahead_insert a n (suc b) m l (forth l w) p q r c)
  where
    forth : (l : List Hole) → Apart b m l → Ahead (suc b) m l
    forth [] w = omega arith
    forth (h ∷ l) w = w

    back : (l : List Hole) → Ahead (suc b) m l → Apart b m l
    back [] w = omega arith
    back (h ∷ l) w = w

-- Insert hole, the whole rule: what it covers, that the list stays in order, and by how much it grows.
pub cover-hole : (a n : ℕ) (l : List Hole) (x : ℕ) → cover_holes (insert_hole a n l) x ≡ within a n x + cover_holes l x
unfolding insert_hole within
cover-hole a n l x =
    ⊎_elim
    (λ e. rw (eq-eqb n 0 e) (omega (arith, within_out a n x (cases e))))
    (λ e. rw (ne_eqb n 0 e) (cover_insert a n l x))
    (cases_eq n 0)
  where
    cases : n ≡ 0 → (x < a) ⊎ (a + n ≤ x)
    cases e = ⊎_elim (λ p. inl p) (λ p. inr (omega arith)) (cases_lt x a)

pub apart-hole : (a n b m : ℕ) (l : List Hole) → Apart b m l → b < a → a + n ≤ m → ((x : ℕ) → within a n x + cover_holes l x ≤ 1) → Apart b m (insert_hole a n l)
unfolding insert_hole
apart-hole a n b m l w p r c =
    ⊎_elim
    (λ e. rw (eq-eqb n 0 e) w)
    (λ e. rw (ne_eqb n 0 e) (apart_insert a n b m l w p (omega arith) r (once-clear from (λ h. h.size) a n l c)))
    (cases_eq n 0)

-- size 0 is ignored
pub hole-none : (a n : ℕ) (l : List Hole) → n ≡ 0 → insert_hole a n l ≡ l
unfolding insert_hole
hole-none a n l e = rw (eq-eqb n 0 e)

-- whole pages
module _ (p : ℕ) where
  abbrev pub AllWhole : List Hole → Type 0
  AllWhole l = All (λ h. WholeRange p h.start.0 h.size) l

  all-glue : (h : Hole) (l : List Hole) → WholeRange p (from h) h.size → AllWhole l → AllWhole (glue h l)
  all-glue h [] w a = (w, tt)
  all-glue h (k ∷ l) w a = go (eqb (upto h) (from k))
    where
      go : (b : Bool) → AllWhole (cond b (hole (from h) (h.size + k.size) ∷ l) (h ∷ k ∷ l))
      go true = (record { start = w.start; size = whole-add w.size a.0.size }, a.1)
      go false = (w, a)

  all_insert : (a n : ℕ) (l : List Hole) → WholeRange p a n → AllWhole l → AllWhole (insert_range a n l)
  all_insert a n [] w c = (w, tt)
  all_insert a n (h ∷ l) w c = go (ltb a (from h)) (all_insert a n l w c.1)
    where
      go : (b : Bool) → AllWhole (insert_range a n l) → AllWhole (cond b (glue (hole a n) (h ∷ l)) (glue h (insert_range a n l)))
      go true i = all-glue (hole a n) (h ∷ l) w c
      go false i = all-glue h (insert_range a n l) c.0 i

  pub all-hole : (a n : ℕ) (l : List Hole) → WholeRange p a n → AllWhole l → AllWhole (insert_hole a n l)
  unfolding insert_hole
  all-hole a n l w c = go (eqb n 0)
    where
      go : (b : Bool) → AllWhole (cond b l (insert_range a n l))
      go true = c
      go false = all_insert a n l w c

-- how many holes there are
length-glue : (h : Hole) (l : List Hole) → length (glue h l) ≤ suc (length l)
length-glue h [] = omega arith
length-glue h (k ∷ l) = go (eqb (upto h) (from k))
  where
    go : (b : Bool) → length (cond b (hole (from h) (h.size + k.size) ∷ l) (h ∷ k ∷ l)) ≤ suc (suc (length l))
    go true = omega arith
    go false = omega arith

length_insert : (a n : ℕ) (l : List Hole) → length (insert_range a n l) ≤ suc (length l)
length_insert a n [] = omega arith
length_insert a n (h ∷ l) = go (ltb a (from h)) (length_insert a n l)
  where
    go : (b : Bool) → length (insert_range a n l) ≤ suc (length l) →
        length (cond b (glue (hole a n) (h ∷ l)) (glue h (insert_range a n l))) ≤ suc (suc (length l))
    go true i = length-glue (hole a n) (h ∷ l)
    go false i = omega (arith, length-glue h (insert_range a n l))

pub length-hole : (a n : ℕ) (l : List Hole) → length (insert_hole a n l) ≤ suc (length l)
unfolding insert_hole
length-hole a n l = go (eqb n 0)
  where
    go : (b : Bool) → length (cond b l (insert_range a n l)) ≤ suc (length l)
    go true = omega arith
    go false = length_insert a n l

-- a hole starts at `s`
abbrev pub Starts : ℕ → List Hole → Type 0
Starts s [] = ⊥
Starts s (h ∷ l) = (from h ≡ s) ⊎ Starts s l

starts_above : (b m s : ℕ) (l : List Hole) → Apart b m l → Starts s l → b < s
starts_above b m s (h ∷ l) w (inl e) = omega arith
starts_above b m s (h ∷ l) w (inr i) = omega (arith, starts_above (upto h) m s l w.1.1 i)
starts_above b m s [] w x'' = elim x'' [ ]

starts-glue : (s : ℕ) (h : Hole) (l : List Hole) → (upto h ≡ s → ⊥) → Starts s l → Starts s (glue h l)
starts-glue s h (k ∷ l) ne i =
    ⊎_elim
    (λ e. rw (eq-eqb (upto h) (from k) e) (⊎_elim (λ q. absurd (ne (omega arith))) (λ j. inr j) i))
    (λ e. rw (ne_eqb (upto h) (from k) e) (inr i))
    (cases_eq (upto h) (from k))
starts-glue s h [] ne i = elim i [ ]

glue-starts : (h : Hole) (l : List Hole) → Starts (from h) (glue h l)
glue-starts h [] = inl refl
glue-starts h (k ∷ l) = go (eqb (upto h) (from k))
  where
    go : (b : Bool) → Starts (from h) (cond b (hole (from h) (h.size + k.size) ∷ l) (h ∷ k ∷ l))
    go true = inl refl
    go false = inl refl

starts_insert : (a n : ℕ) (l : List Hole) → All (λ h. upto h ≡ a → ⊥) l → Starts a (insert_range a n l)
starts_insert a n [] c = inl refl
starts_insert a n (h ∷ l) c = go (ltb a (from h)) (starts_insert a n l c.1)
  where
    go : (b : Bool) → Starts a (insert_range a n l) → Starts a (cond b (glue (hole a n) (h ∷ l)) (glue h (insert_range a n l)))
    go true i = glue-starts (hole a n) (h ∷ l)
    go false i = starts-glue a h (insert_range a n l) c.0 i

-- A range starts a hole of its own where no hole ends at its start.
pub starts-hole : (a n : ℕ) (l : List Hole) → 0 < n → All (λ h. upto h ≡ a → ⊥) l → Starts a (insert_hole a n l)
unfolding insert_hole
starts-hole a n l p c = rw (ne_eqb n 0 (λ e. omega arith)) (starts_insert a n l c)

-- No hole ends just above an address that none covers.
pub ends_nowhere : (x b m : ℕ) (l : List Hole) → Apart b m l → cover_holes l x ≡ 0 → All (λ h. upto h ≡ x + 1 → ⊥) l
ends_nowhere x b m [] w c = tt
ends_nowhere x b m (h ∷ l) w c = (
  λ e. omega (arith, within_in (from h) h.size x (omega arith) (omega arith)),
  ends_nowhere x (upto h) m l w.1.1 (omega arith),
)

length_touch : (a n b m : ℕ) (l : List Hole) → 0 < n → Apart b m l → All (Clear a n) l → Starts (a + n) l → length (insert_range a n l) ≤ length l
length_touch a n b m [] p w c i = elim i [ ]
length_touch a n b m (h ∷ l) p w c i =
    ⊎_elim
    (λ s. rw (lt-ltb a (from h) s, eq-eqb (a + n) (from h) (first s i)) (omega arith))
    (λ s. rw (le-ltb a (from h) s) (omega (arith, length-glue h (insert_range a n l), later s (length_touch a n (upto h) m l p w.1.1 c.1) i)))
    (cases_lt a (from h))
  where
    first : a < from h → (from h ≡ a + n) ⊎ Starts (a + n) l → a + n ≡ from h
    first s (inl e) = omega arith
    first s (inr j) = absurd (omega (arith, starts_above (upto h) m (a + n) l w.1.1 j))

    later : from h ≤ a → (Starts (a + n) l → length (insert_range a n l) ≤ length l) → (from h ≡ a + n) ⊎ Starts (a + n) l →
        length (insert_range a n l) ≤ length l
    later s f (inl e) = absurd (omega arith)
    later s f (inr j) = f j

-- A range that ends where a hole starts becomes part of it: the holes do not grow.
pub length-hole_touch : (a n b m : ℕ) (l : List Hole) → Apart b m l → ((x : ℕ) → within a n x + cover_holes l x ≤ 1) → Starts (a + n) l →
    length (insert_hole a n l) ≤ length l
unfolding insert_hole
length-hole_touch a n b m l w c i =
    ⊎_elim
    (λ e. rw (eq-eqb n 0 e) (omega arith))
    (λ e. rw (ne_eqb n 0 e) (length_touch a n b m l (omega arith) w (once-clear from (λ h. h.size) a n l c) i))
    (cases_eq n 0)

-- The smallest sufficient hole is a hole, and suffices.
pub member-smallest_hole : (n : ℕ) (h : Hole) (l : List Hole) → smallest_hole n l ≡ some h → Member h l × (n ≤ h.size)
unfolding smallest_hole
member-smallest_hole n h l e =
    let m = member_filter (λ k. leb n k.size) h l (member-least (λ k. k.size) h (filter (λ k. leb n k.size) l) e) in
    (m.0, leb-true n h.size m.1)

-- the holes rise by their starts
pub apart-rises : (b m : ℕ) (l : List Hole) → Apart b m l → Rises from b l
apart-rises b m [] w = tt
apart-rises b m (h ∷ l) w = (w.0, rises-below from (from h) (upto h) l (omega arith) (apart-rises (upto h) m l w.1.1))

-- the cut hole covers what it covered, less its low part
pub cover-cut_hole : (n b m : ℕ) (h : Hole) (l : List Hole) (x : ℕ) → Apart b m l → Member h l → n ≤ h.size →
    cover_holes (cut_hole n (from h) l) x + within (from h) n x ≡ cover_holes l x
unfolding cut_hole
cover-cut_hole n b m h [] x w x5 p = elim x5 [ ]
cover-cut_hole n b m h (k ∷ l) x w (inl e) p = rw (← e, eq-eqb (from h) (from h) refl) (go (eqb h.size n) refl)
  where
    go : (t : Bool) → eqb h.size n ≡ t →
        cover_holes (cond t l (hole (from h + n) (h.size - n) ∷ l)) x + within (from h) n x ≡ within (from h) h.size x + cover_holes l x
    go true q = omega (arith, ap (λ s. within (from h) s x) (eqb-true h.size n q))
    go false q = omega (arith, within_cut (from h) h.size n x p)
cover-cut_hole n b m h (k ∷ l) x w (inr i) p =
    let apart : from k ≡ from h → ⊥ = λ e. omega (arith, member_above from (upto k) h l (apart-rises (upto k) m l w.1.1) i) in
    rw (ne_eqb (from k) (from h) apart) (omega (arith, cover-cut_hole n (upto k) m h l x w.1.1 i p))

pub apart-cut_hole : (n b m : ℕ) (h : Hole) (l : List Hole) → Apart b m l → Member h l → n ≤ h.size → Apart b m (cut_hole n (from h) l)
unfolding cut_hole
apart-cut_hole n b m h [] w x3 p = elim x3 [ ]
apart-cut_hole n b m h (k ∷ l) w (inl e) p = rw (← e, eq-eqb (from h) (from h) refl) (go (rw (← e) at w) (eqb h.size n) refl)
  where
    go : Apart b m (h ∷ l) → (t : Bool) → eqb h.size n ≡ t → Apart b m (cond t l (hole (from h + n) (h.size - n) ∷ l))
    go v true q = apart_below b (upto h) m l (omega arith) v.1.1
    go v false q =
        let ne : h.size ≡ n → ⊥ = eqb-false h.size n q in
        let up : from h + n + (h.size - n) ≡ upto h = omega arith in
        (omega arith, (omega arith, rw up v.1.1))
apart-cut_hole n b m h (k ∷ l) w (inr i) p =
    let apart : from k ≡ from h → ⊥ = λ e. omega (arith, member_above from (upto k) h l (apart-rises (upto k) m l w.1.1) i) in
    rw (ne_eqb (from k) (from h) apart) (w.0, (w.1.0, apart-cut_hole n (upto k) m h l w.1.1 i p))

pub all-cut_hole : (p n b m : ℕ) (h : Hole) (l : List Hole) → Apart b m l → Member h l → n ≤ h.size → Whole p n → AllWhole p l → AllWhole p (cut_hole n (from h) l)
unfolding cut_hole
all-cut_hole p n b m h [] w x5 q v c = elim x5 [ ]
all-cut_hole p n b m h (k ∷ l) w (inl e) q v c = rw (← e, eq-eqb (from h) (from h) refl) (go (rw (← e) at c) (eqb h.size n) refl)
  where
    go : AllWhole p (h ∷ l) → (t : Bool) → eqb h.size n ≡ t → AllWhole p (cond t l (hole (from h + n) (h.size - n) ∷ l))
    go d true r = d.1
    go d false r = (whole_upper n d.0 v.aligned (omega (arith, eqb-false h.size n r)), d.1)
all-cut_hole p n b m h (k ∷ l) w (inr i) q v c =
    let apart : from k ≡ from h → ⊥ = λ e. omega (arith, member_above from (upto k) h l (apart-rises (upto k) m l w.1.1) i) in
    rw (ne_eqb (from k) (from h) apart) (c.0, all-cut_hole p n (upto k) m h l w.1.1 i q v c.1)

pub length-cut_hole : (n a : ℕ) (l : List Hole) → length (cut_hole n a l) ≤ length l
unfolding cut_hole
length-cut_hole n a [] = omega arith
length-cut_hole n a (h ∷ l) = go (eqb (from h) a) (eqb h.size n) (length-cut_hole n a l)
  where
    go : (s t : Bool) → length (cut_hole n a l) ≤ length l →
        length (cond s (cond t l (hole (a + n) (h.size - n) ∷ l)) (h ∷ cut_hole n a l)) ≤ suc (length l)
    go true true i = omega arith
    go true false i = omega arith
    go false t i = omega arith
