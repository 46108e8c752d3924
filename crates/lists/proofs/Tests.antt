-- Laws of the tests of a list, and of what holds of every element.
use mathlib.Core.Path.{◌≡◌, refl, ◌∙◌, sym}
use mathlib.Core.Logic.{◌⊎◌, inl, inr}
use mathlib.Core.Bool.{Bool, true, false, cond, ◌&&◌, ◌||◌, false≢true}
use mathlib.Core.List.{List, [], ◌∷◌, ◌++◌, map}
use Prim.Native.Nat.{ℕ, zero, suc, ◌-◌, ◌≤◌, ◌<◌}
use native.Mathlib.Omega.{arith}
use native.Mathlib.Nat.{le_of_suc-le-suc}
use native.Mathlib.Decide.{dec_lt, ℕ_discrete}
use borrow.Author.Tests.{le-leb, lt-leb, lt-ltb, le-ltb, eq-eqb, ne_eqb}
use lib.ListN.{length, get_or, set, take, length-map, length-take}
use lib.Seq.{get_or-take}
use Rattle.lists.specs.Tests.{All, any, filter}
use Rattle.lists.specs.Places.{insert_at}

-- the length of an array of structs, which is known of the list that its elements are mapped to
pub length-mapped : {X Y : Type 0} (f : X → Y) (l : List X) (n : ℕ) → length (map f l) ≡ n → length l ≡ n
length-mapped f l n p = sym (length-map l f) ∙ p

-- the tests of the code as the tests of the definitions
pub ruleset tests = (le-leb, lt-leb, lt-ltb, le-ltb, eq-eqb, ne_eqb)

-- the two ways that a test can go
pub cases_lt : (a b : ℕ) → (a < b) ⊎ (b ≤ a)
cases_lt a b = elim (dec_lt a b) [ yes p ↦ inl p | no q ↦ inr (omega arith) ]

pub cases_eq : (a b : ℕ) → (a ≡ b) ⊎ (a ≡ b → ⊥)
cases_eq a b = elim (ℕ_discrete a b) [ yes p ↦ inl p | no q ↦ inr q ]

-- a count that is not yet none, for a walk that goes by it
pub one_more : (n : ℕ) → 0 < n → n ≡ suc (n - 1)
one_more n h = omega arith

pub both : (a b : Bool) → (a && b) ≡ true → (a ≡ true) × (b ≡ true)
both true b e = (refl, e)
both false b e = absurd (false≢true e)

pub neither : (a b : Bool) → (a || b) ≡ false → (a ≡ false) × (b ≡ false)
neither true b e = absurd (false≢true (sym e))
neither false b e = (refl, e)

pub either : (a b : Bool) → (a || b) ≡ true → (a ≡ true) ⊎ (b ≡ true)
either true b e = inl refl
either false b e = inr e

pub not-both : (a b : Bool) → (a && b) ≡ false → a ≡ true → b ≡ false
not-both true b e h = e
not-both false b e h = absurd (false≢true h)

module _ {ℓ} {A : Type ℓ} where
  pub all_implies : (P Q : A → Type 0) → ((x : A) → P x → Q x) → (l : List A) → All P l → All Q l
  all_implies P Q f [] a = tt
  all_implies P Q f (x ∷ l) a = (f x a.0, all_implies P Q f l a.1)

  pub all_both : (P Q : A → Type 0) (l : List A) → All P l → All Q l → All (λ x. P x × Q x) l
  all_both P Q [] a b = tt
  all_both P Q (x ∷ l) a b = ((a.0, b.0), all_both P Q l a.1 b.1)

  module _ (P : A → Type 0) where
    pub all-insert_at : (i : ℕ) (a : A) (l : List A) → P a → All P l → All P (insert_at i a l)
    all-insert_at zero a l p q = (p, q)
    all-insert_at (suc i) a [] p q = (p, tt)
    all-insert_at (suc i) a (x ∷ l) p q = (q.0, all-insert_at i a l p q.1)

    pub all_set : (l : List A) (i : ℕ) (v : A) → P v → All P l → All P (set l i v)
    all_set [] i v p a = a
    all_set (x ∷ l) zero v p a = (p, a.1)
    all_set (x ∷ l) (suc i) v p a = (a.0, all_set l i v p a.1)

    pub all_take : (l : List A) (n : ℕ) → All P l → All P (take n l)
    all_take [] zero a = tt
    all_take [] (suc n) a = tt
    all_take (x ∷ l) zero a = tt
    all_take (x ∷ l) (suc n) a = (a.0, all_take l n a.1)

    pub all_append : (l m : List A) → All P l → All P m → All P (l ++ m)
    all_append [] m a b = b
    all_append (x ∷ l) m a b = (a.0, all_append l m a.1 b)

    -- of two lists in one: of the first, and of the second
    pub all_first : (l m : List A) → All P (l ++ m) → All P l
    all_first [] m a = tt
    all_first (x ∷ l) m a = (a.0, all_first l m a.1)

    pub all_second : (l m : List A) → All P (l ++ m) → All P m
    all_second [] m a = a
    all_second (x ∷ l) m a = all_second l m a.1

    pub all_filter : (p : A → Bool) (l : List A) → All P l → All P (filter p l)
    all_filter p [] a = a
    all_filter p (x ∷ l) a = go (p x) (all_filter p l a.1)
      where
        go : (b : Bool) → All P (filter p l) → All P (cond b (x ∷ filter p l) (filter p l))
        go true h = (a.0, h)
        go false h = h

    -- what holds of every element of a list holds at each place, and so of each cell in use
    pub all-at : (l : List A) (i : ℕ) (d : A) → All P l → i < length l → P (get_or l i d)
    all-at [] i d a h = absurd (omega arith)
    all-at (x ∷ l) zero d a h = a.0
    all-at (x ∷ l) (suc i) d a h = all-at l i d a.1 (le_of_suc-le-suc h)

    pub all_cell : (n : ℕ) (cells : List A) (i : ℕ) (d : A) → All P (take n cells) → i < n → n ≤ length cells → P (get_or cells i d)
    all_cell n cells i d a h k = rw (get_or-take n cells i d) at (all-at (take n cells) i d a (simp length-take (omega arith)))

  pub length-filter : (p : A → Bool) (l : List A) → length (filter p l) ≤ length l
  length-filter p [] = omega arith
  length-filter p (x ∷ l) = go (p x) (length-filter p l)
    where
      go : (b : Bool) → length (filter p l) ≤ length l → length (cond b (x ∷ filter p l) (filter p l)) ≤ suc (length l)
      go true h = omega arith
      go false h = omega arith

  -- where none passes, each does not
  pub any_none : (p : A → Bool) (l : List A) → any p l ≡ false → All (λ x. p x ≡ false) l
  any_none p [] e = tt
  any_none p (x ∷ l) e =
      let q = neither (p x) (any p l) e in
      (q.0, any_none p l q.1)
