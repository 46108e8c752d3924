-- Laws of what the rules test: the pages of a range, the handles under them, and what a map and an unmap change.
use mathlib.Core.Path.{◌≡◌, refl, ap, sym, ◌∙◌}
use mathlib.Core.Bool.{Bool, true, false, cond, ◌&&◌, ◌||◌, not, false≢true}
use mathlib.Core.Logic.{inl, inr, ⊎_elim}
use mathlib.Core.List.{List, [], ◌∷◌, map}
use mathlib.Core.Option.{Option, none, some}
use Prim.Native.Nat.{ℕ, zero, suc, ◌+◌, ◌*◌, ◌/◌, ◌≤◌, ◌<◌}
use native.Mathlib.Omega.{arith}
use native.Mathlib.Nat.{div-zero, div-mul-le_self}
use borrow.Author.Tests.{leb-true, ltb-true, ne_eqb, le-leb, lt-ltb}
use lib.Dec.{ltb, leb, eqb}
use Rattle.lists.specs.Tests.{All, Pairs, Member, every, filter, distinct}
use Rattle.lists.proofs.Tests.{cases_eq, both, either, all_implies, all_filter}
use Rattle.lists.proofs.Every.{and-true}
use Rattle.judge_rules.specs.Ranges.{inside, clear, pages_from, pages}
use Rattle.judge_rules.specs.Meaning.{there}

pub pairs-filter {ℓ} : {A : Type ℓ} (R : A → A → Type 0) (p : A → Bool) (l : List A) → Pairs R l → Pairs R (filter p l)
pairs-filter R p [] r = tt
pairs-filter R p (x ∷ l) r = go (p x) (pairs-filter R p l r.1)
  where
    go : (b : Bool) → Pairs R (filter p l) → Pairs R (cond b (x ∷ filter p l) (filter p l))
    go true h = (all_filter (R x) p l r.0, h)
    go false h = h

pub filter_map : {A B : Type 0} (t : B → Bool) (f : A → B) (l : List A) → filter t (map f l) ≡ map f (filter (λ x. t (f x)) l)
filter_map t f [] = refl
filter_map t f (x ∷ l) = go (t (f x)) (filter_map t f l)
  where
    go : (b : Bool) → filter t (map f l) ≡ map f (filter (λ x. t (f x)) l) →
        cond b (f x ∷ filter t (map f l)) (filter t (map f l)) ≡ map f (cond b (x ∷ filter (λ x. t (f x)) l) (filter (λ x. t (f x)) l))
    go true r = ap (λ m. f x ∷ m) r
    go false r = r

pub or-true : (a b : Bool) → b ≡ true → (a || b) ≡ true
or-true true b e = refl
or-true false b e = e

-- the tests of a range
pub inside_is : (a n x : ℕ) → inside a n x ≡ true → (a ≤ x) × (x < a + n)
inside_is a n x e = let i = both (leb a x) (ltb x (a + n)) e in (leb-true a x i.0, ltb-true x (a + n) i.1)

pub is-inside : (a n x : ℕ) → a ≤ x → x < a + n → inside a n x ≡ true
is-inside a n x p q = and-true (leb a x) (ltb x (a + n)) (le-leb a x p) (lt-ltb x (a + n) q)

pub clear_apart : (a n b m x : ℕ) → clear a n b m ≡ true → a ≤ x → x < a + n → b ≤ x → x < b + m → ⊥
clear_apart a n b m x e p q r s =
    ⊎_elim
    (λ h. let k = leb-true (a + n) b h in omega arith)
    (λ h. let k = leb-true (b + m) a h in omega arith)
    (either (leb (a + n) b) (leb (b + m) a) e)

-- each page starts inside its range, above those before it
pages_up : (p a k : ℕ) → 0 < p → All (λ x. (a ≤ x) × (x < a + k * p)) (pages_from p a k)
pages_up p a zero h = tt
pages_up p a (suc k) h = ((omega arith, omega arith), all_implies _ _ (λ x r. (omega arith, omega arith)) (pages_from p (a + p) k) (pages_up p (a + p) k h))

pub pages-in : (p a n : ℕ) → All (λ x. (a ≤ x) × (x < a + n)) (pages p a n)
unfolding pages
pages-in zero a n = rw (div-zero n) tt
pages-in (suc p) a n =
    all_implies _ _ (λ x r. (r.0, omega (arith, r.1, div-mul-le_self n (suc p)))) (pages_from (suc p) a (n / suc p)) (pages_up (suc p) a (n / suc p) (omega arith))

pages_rise_lem : (p a k : ℕ) → 0 < p → Pairs (λ x y. x < y) (pages_from p a k)
pages_rise_lem p a zero h = tt
pages_rise_lem p a (suc k) h = (all_implies _ _ (λ x r. omega arith) (pages_from p (a + p) k) (pages_up p (a + p) k h), pages_rise_lem p (a + p) k h)

pub pages-apart : (p a n : ℕ) → Pairs (λ x y. x < y) (pages p a n)
unfolding pages
pages-apart zero a n = rw (div-zero n) tt
pages-apart (suc p) a n = pages_rise_lem (suc p) a (n / suc p) (omega arith)

abbrev pub is_some : {A : Type 0} → Option A → Bool
is_some none = false
is_some (some k) = true

pub some-none : {A : Type 0} (o : Option A) → is_some o ≡ false → o ≡ none
some-none none e = refl
some-none (some k) e = absurd (false≢true (sym e))

pub some_is : {A : Type 0} (x y : A) → some x ≡ some y → x ≡ y
some_is x y e = cc

pub some-not : {A : Type 0} (x : A) → some x ≡ none → ⊥
some-not x e = let z : ◌≡◌ {A = ℕ} 0 1 = cc in omega arith

-- What some pages showed they show still, where no page of them lost it.
module _ {A : Type 0} where
  pub carry : (u v : ℕ → Option A) (xs : List ℕ) (hs : List A) → All (λ x. (k : A) → u x ≡ some k → v x ≡ some k) xs → map u xs ≡ map some hs → map v xs ≡ map some hs
  carry u v [] [] a e = refl
  carry u v [] (k ∷ hs) a e = e
  carry u v (x ∷ xs) [] a e = let z : ◌≡◌ {A = ℕ} 0 1 = cc in absurd (omega arith)
  carry u v (x ∷ xs) (k ∷ hs) a e =
      let p : u x ≡ some k = cc in
      let q : map u xs ≡ map some hs = cc in
      λ i. a.0 k p i ∷ carry u v xs hs a.1 q i

  -- where every page shows something, what they show is all there
  pub gathered : (u : ℕ → Option A) (xs : List ℕ) → every (λ x. is_some (u x)) xs ≡ true → map u xs ≡ map some (there (map u xs))
  gathered u [] e = refl
  gathered u (x ∷ xs) e =
      let b = both (is_some (u x)) (every (λ x. is_some (u x)) xs) e in
      go (u x) b.0 (gathered u xs b.1)
    where
      go : (o : Option A) → is_some o ≡ true → map u xs ≡ map some (there (map u xs)) → (o ∷ map u xs) ≡ map some (there (o ∷ map u xs))
      go none e r = absurd (false≢true e)
      go (some k) e r = ap (λ l. some k ∷ l) r

  pub there-some : (hs : List A) → there (map some hs) ≡ hs
  there-some [] = refl
  there-some (k ∷ hs) = ap (λ l. k ∷ l) (there-some hs)

pub every-same : {A : Type 0} (p q : A → Bool) → ((x : A) → p x ≡ q x) → (l : List A) → every p l ≡ every q l
every-same p q f [] = refl
every-same p q f (x ∷ l) = λ i. f x i && every-same p q f l i

-- a handle that is there lies under one of the pages
pub lies_under : (u : ℕ → Option ℕ) (P : ℕ → Type 0) (k : ℕ) (xs : List ℕ) → All P xs → Member k (there (map u xs)) → ((x : ℕ) → P x → u x ≡ some k → ⊥) → ⊥
lies_under u P k [] a m f = m
lies_under u P k (x ∷ xs) a m f = go (u x) refl (λ n. lies_under u P k xs a.1 n f) m
  where
    go : (o : Option ℕ) → u x ≡ o → (Member k (there (map u xs)) → ⊥) → Member k (there (o ∷ map u xs)) → ⊥
    go none q r m = r m
    go (some j) q r (inl e) = f x a.0 (q ∙ ap some (sym e))
    go (some j) q r (inr m) = r m

-- Handles of pages of which no two have one are distinct.
module _ (u : ℕ → Option ℕ) (P : ℕ → Type 0) (one : (x y k : ℕ) → P x → P y → u x ≡ some k → u y ≡ some k → x ≡ y) where
  none-again : (x k : ℕ) → P x → u x ≡ some k → (xs : List ℕ) → All (λ y. x < y) xs → All P xs → every (λ j. not (eqb k j)) (there (map u xs)) ≡ true
  none-again x k p q [] r a = refl
  none-again x k p q (y ∷ xs) r a = go (u y) refl (none-again x k p q xs r.1 a.1)
    where
      go : (o : Option ℕ) → u y ≡ o → every (λ j. not (eqb k j)) (there (map u xs)) ≡ true → every (λ j. not (eqb k j)) (there (o ∷ map u xs)) ≡ true
      go none e ih = ih
      go (some j) e ih =
          ⊎_elim
          (λ h. let s : x ≡ y = one x y k p a.0 q (e ∙ ap some (sym h)) in absurd (omega (arith, r.0)))
          (λ h. rw (ne_eqb k j h) ih)
          (cases_eq k j)

  pub handles-distinct : (xs : List ℕ) → Pairs (λ x y. x < y) xs → All P xs → distinct (there (map u xs)) ≡ true
  handles-distinct [] r a = refl
  handles-distinct (x ∷ xs) r a = go (u x) refl (handles-distinct xs r.1 a.1)
    where
      go : (o : Option ℕ) → u x ≡ o → distinct (there (map u xs)) ≡ true → distinct (there (o ∷ map u xs)) ≡ true
      go none e ih = ih
      go (some k) e ih = and-true _ _ (none-again x k a.0 e xs r.0 a.1) ih
