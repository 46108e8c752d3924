-- What counts say of a list: a key that counts 0 is no element's, no key stands in it twice where each counts at most once, no two of its ranges have an
-- address in common where each address is covered at most once, and two rising lists in which every number counts the same are the same.
use mathlib.Core.Path.{◌≡◌, refl, ap, sym, ◌∙◌}
use mathlib.Core.Logic.{◌⊎◌, inl, inr, ⊎_elim}
use mathlib.Core.Bool.{Bool, true, false, not, false≢true}
use mathlib.Core.List.{List, [], ◌∷◌}
use Prim.Native.Nat.{ℕ, ◌+◌, ◌≤◌, ◌<◌, min, max}
use native.Mathlib.Omega.{arith}
use borrow.Author.Tests.{eqb-false}
use lib.Dec.{eqb}
use Rattle.lists.specs.Tests.{All, Pairs, any, filter}
use Rattle.lists.specs.Order.{Ascends, Rises}
use Rattle.lists.specs.Walks.{sum}
use Rattle.lists.proofs.Tests.{any_none, cases_lt, cases_eq, all_implies}
use Rattle.lists.proofs.Pairs.{pairs_implies, pairs-both, pairs-all, ascends-pairs, rises-pairs}
use Rattle.lists.proofs.Walks.{sum-filter, sum-none}
use Rattle.lists.proofs.Filters.{all-passed}
use Rattle.keeping.specs.Cover.{within, equal, keys_at}
use Rattle.keeping.specs.Sound.{WholeRange}
use Rattle.keeping.proofs.Cover.{within_in, within_out, within_le, equal-same, equal-other, equal_le}

module _ {A : Type 0} (key : A → ℕ) where
  pub none-counted : (x : ℕ) (l : List A) → keys_at key l x ≡ 0 → All (λ a. key a ≡ x → ⊥) l
  none-counted x [] e = tt
  none-counted x (a ∷ l) e = (λ q. omega (arith, equal-same x, rw q at e), none-counted x l (omega arith))

  pub once_differ : (l : List A) → ((x : ℕ) → keys_at key l x ≤ 1) → Pairs (λ a b. key a ≡ key b → ⊥) l
  once_differ [] c = tt
  once_differ (a ∷ l) c = (
    all_implies (λ b. key b ≡ key a → ⊥) (λ b. key a ≡ key b → ⊥) (λ b p e. p (sym e)) l
        (none-counted (key a) l (omega (arith, c (key a), equal-same (key a)))),
    once_differ l (λ x. omega (arith, c x)),
  )

  none-at : (x : ℕ) (l : List A) → All (λ a. x ≡ key a → ⊥) l → keys_at key l x ≡ 0
  none-at x l a =
      sum-none (λ a. equal (key a) x) l (all_implies (λ a. x ≡ key a → ⊥) (λ a. equal (key a) x ≡ 0) (λ a p. equal-other (key a) x (λ e. p (rw e))) l a)

  pub differ-once : (l : List A) → Pairs (λ a b. key a ≡ key b → ⊥) l → (x : ℕ) → keys_at key l x ≤ 1
  differ-once [] r x = omega arith
  differ-once (a ∷ l) r x = ⊎_elim same (λ e. omega (arith, equal-other (key a) x e, differ-once l r.1 x)) (cases_eq (key a) x)
    where
      same : key a ≡ x → keys_at key (a ∷ l) x ≤ 1
      same e = omega (arith, equal_le (key a) x, none-at x l (rw e at r.0))

  pub none_passes : (x : ℕ) (l : List A) → any (λ a. eqb (key a) x) l ≡ false → keys_at key l x ≡ 0
  none_passes x l e =
      sum-none (λ a. equal (key a) x) l
      (all_implies (λ a. eqb (key a) x ≡ false) _ (λ a q. equal-other (key a) x (eqb-false (key a) x q)) l (any_none (λ a. eqb (key a) x) l e))

  -- keys that rise are each there once
  pub rises-once : (b x : ℕ) (l : List A) → Rises key b l → keys_at key l x ≤ 1
  rises-once b x l r =
      differ-once l (pairs_implies (λ a b. key a < key b) (λ a b. key a ≡ key b → ⊥) (λ a b p e. omega arith) l (rises-pairs key b l r)) x

  -- a filter by key keeps none of a key that does not pass, and all of one that does
  pub count-dropped : (p : ℕ → Bool) (x : ℕ) (l : List A) → p x ≡ false → keys_at key (filter (λ a. p (key a)) l) x ≡ 0
  count-dropped p x l e =
      sum-none (λ a. equal (key a) x) (filter (λ a. p (key a)) l)
      (all_implies (λ a. p (key a) ≡ true) _ (λ a q. equal-other (key a) x (λ s. false≢true (sym e ∙ (rw s at q)))) (filter (λ a. p (key a)) l)
      (all-passed (λ a. p (key a)) l))

  pub count_kept : (p : ℕ → Bool) (x : ℕ) (l : List A) → p x ≡ true → keys_at key (filter (λ a. p (key a)) l) x ≡ keys_at key l x
  count_kept p x l e =
      omega (arith, sum-filter (λ a. equal (key a) x) (λ a. p (key a)) l, count-dropped (λ y. not (p y)) x l (rw e))

-- a number below all of a list
none_below : (x y : ℕ) (m : List ℕ) → x < y → All (λ z. y < z) m → keys_at (λ a. a) (y ∷ m) x ≡ 0
none_below x y m p a =
    none-at (λ a. a) x (y ∷ m) ((λ e. omega arith), all_implies (λ z. y < z) (λ z. x ≡ z → ⊥) (λ z q e. omega arith) m a)

-- Two rising lists in which every number counts the same are the same.
pub counts_same : (l m : List ℕ) → Pairs (λ x y. x < y) l → Pairs (λ x y. x < y) m → ((x : ℕ) → keys_at (λ a. a) l x ≡ keys_at (λ a. a) m x) → l ≡ m
counts_same [] [] r s c = refl
counts_same [] (y ∷ m) r s c = absurd (omega (arith, c y, equal-same y))
counts_same (x ∷ l) [] r s c = absurd (omega (arith, c x, equal-same x))
counts_same (x ∷ l) (y ∷ m) r s c = go (first (cases_lt x y) (cases_lt y x)) (λ f. counts_same l m r.1 s.1 f)
  where
    first : (x < y) ⊎ (y ≤ x) → (y < x) ⊎ (x ≤ y) → x ≡ y
    first (inl p) q = absurd (omega (arith, c x, equal-same x, none_below x y m p s.0))
    first (inr p) (inl q) = absurd (omega (arith, c y, equal-same y, none_below y x l q r.0))
    first (inr p) (inr q) = omega arith

    go : x ≡ y → (((z : ℕ) → keys_at (λ a. a) l z ≡ keys_at (λ a. a) m z) → l ≡ m) → x ∷ l ≡ y ∷ m
    go e f =
        let g : (z : ℕ) → equal x z ≡ equal y z = λ z. ap (λ w. equal w z) e in
        rw (e, f (λ z. omega (arith, c z, g z)))

-- two ranges, by where they start and their sizes, have no address in common
abbrev pub Parted : {A : Type 0} → (A → ℕ) → (A → ℕ) → A → A → Type 0
Parted lo size a b = min (lo a + size a) (lo b + size b) ≤ max (lo a) (lo b)

module _ {A : Type 0} (lo size : A → ℕ) where
  -- how often the ranges of a list hold an address: no two overlap just where none is held twice
  abbrev pub cover_at : List A → ℕ → ℕ
  cover_at l x = sum (λ a. within (lo a) (size a) x) l

  -- what covers no address that the list covers overlaps none of it
  pub once-clear : (a n : ℕ) (l : List A) → ((x : ℕ) → within a n x + cover_at l x ≤ 1) → All (λ b. min (a + n) (lo b + size b) ≤ max a (lo b)) l
  once-clear a n [] c = tt
  once-clear a n (b ∷ l) c = (
    ⊎_elim (λ p. absurd (overlap p)) (λ p. p) (cases_lt (max a (lo b)) (min (a + n) (lo b + size b))),
    once-clear a n l (λ x. omega (arith, c x)),
  )
    where
      overlap : max a (lo b) < min (a + n) (lo b + size b) → ⊥
      overlap p =
          let x = max a (lo b) in
          omega (arith, c x, within_in a n x (omega arith) (omega arith), within_in (lo b) (size b) x (omega arith) (omega arith))

  pub once-parted : (l : List A) → ((x : ℕ) → cover_at l x ≤ 1) → Pairs (Parted lo size) l
  once-parted [] c = tt
  once-parted (a ∷ l) c = (once-clear (lo a) (size a) l (λ x. c x), once-parted l (λ x. omega (arith, c x)))

  pub parted-once : (l : List A) → Pairs (Parted lo size) l → (x : ℕ) → cover_at l x ≤ 1
  parted-once [] r x = omega arith
  parted-once (a ∷ l) r x = go (cases_lt x (lo a)) (cases_lt x (lo a + size a)) (parted-once l r.1 x)
    where
      clear : lo a ≤ x → x < lo a + size a → (b : A) → Parted lo size a b → within (lo b) (size b) x ≡ 0
      clear p q b w = within_out (lo b) (size b) x (⊎_elim (λ r. inl r) (λ r. inr (omega arith)) (cases_lt x (lo b)))

      go : (x < lo a) ⊎ (lo a ≤ x) → (x < lo a + size a) ⊎ (lo a + size a ≤ x) → cover_at l x ≤ 1 → cover_at (a ∷ l) x ≤ 1
      go (inl p) q h = omega (arith, within_out (lo a) (size a) x (inl p))
      go (inr p) (inr q) h = omega (arith, within_out (lo a) (size a) x (inr q))
      go (inr p) (inl q) h =
          let others = all_implies (Parted lo size a) (λ b. within (lo b) (size b) x ≡ 0) (clear p q) l r.0 in
          omega (arith, within_le (lo a) (size a) x, sum-none (λ b. within (lo b) (size b) x) l others)

  -- ranges in order that are not empty and cover no address twice: each ends before the next starts
  pub ordered : (b : ℕ) (l : List A) → All (λ a. 0 < size a) l → Ascends lo b l → ((x : ℕ) → cover_at l x ≤ 1) → Pairs (λ a b. lo a + size a ≤ lo b) l
  ordered b l p s c =
      pairs_implies (λ a b. ((0 < size a) × (0 < size b)) × ((lo a ≤ lo b) × Parted lo size a b)) (λ a b. lo a + size a ≤ lo b) (λ a b q. omega arith) l
      (pairs-both (λ a b. (0 < size a) × (0 < size b)) (λ a b. (lo a ≤ lo b) × Parted lo size a b) l (pairs-all (λ a. 0 < size a) l p)
      (pairs-both (λ a b. lo a ≤ lo b) (Parted lo size) l (ascends-pairs lo b l s) (once-parted l c)))

  -- an address that is covered at most once is covered no more often than by the one range that covers it
  pub cover_le : (n x : ℕ) (l : List A) → All (λ a. within (lo a) (size a) x ≤ n) l → cover_at l x ≤ 1 → cover_at l x ≤ n
  cover_le n x [] a c = omega arith
  cover_le n x (r ∷ l) a c = omega (arith, a.0, cover_le n x l a.1 (omega arith))

  -- no range covers more than all of them
  pub all_cover : (f : ℕ → ℕ) (l : List A) → ((x : ℕ) → cover_at l x ≤ f x) → All (λ a. (x : ℕ) → within (lo a) (size a) x ≤ f x) l
  all_cover f [] h = tt
  all_cover f (a ∷ l) h = ((λ x. omega (arith, h x)), all_cover f l (λ x. omega (arith, h x)))

  -- none starts at an address that none covers
  pub none-starts : (p x : ℕ) (l : List A) → All (λ a. WholeRange p (lo a) (size a)) l → cover_at l x ≡ 0 → All (λ a. lo a ≡ x → ⊥) l
  none-starts p x [] w e = tt
  none-starts p x (a ∷ l) w e = (
    λ s. omega (arith, within_in (lo a) (size a) x (omega arith) (omega (arith, w.0.size.positive))),
    none-starts p x l w.1 (omega arith),
  )

  -- none covers an address past the end of all
  pub cover-past : (m x : ℕ) (l : List A) → All (λ a. lo a + size a ≤ m) l → m ≤ x → cover_at l x ≡ 0
  cover-past m x l a h =
      sum-none (λ a. within (lo a) (size a) x) l
      (all_implies (λ a. lo a + size a ≤ m) _ (λ a p. within_out (lo a) (size a) x (inr (omega arith))) l a)
