-- Laws of lists whose keys rise, in the code's terms: the element of a key stands at the first place whose key is not below it, and what is done to that
-- element alone is done at its place.
use mathlib.Core.Path.{◌≡◌, refl, ap, ◌∙◌}
use mathlib.Core.Logic.{inl, inr}
use mathlib.Core.Bool.{Bool, true, false, cond}
use mathlib.Core.List.{List, [], ◌∷◌, map}
use Prim.Native.Nat.{ℕ, zero, suc, ◌+◌, ◌≤◌, ◌<◌}
use native.Mathlib.Omega.{arith}
use native.Mathlib.Nat.{le_of_suc-le-suc}
use native.Mathlib.Numerals.{add-one}
use borrow.Author.Tests.{eq-eqb, ne_eqb, le-leb, lt-leb, leb-true, leb-false}
use lib.Dec.{leb, eqb}
use lib.ListN.{length, get_or, set}
use Rattle.lists.specs.Places.{remove_at, place}
use Rattle.lists.specs.Tests.{Member}
use Rattle.lists.specs.Order.{Rises, put, without}
use Rattle.lists.proofs.Order.{without-none}
use Rattle.lists.proofs.Members.{member_above}

module _ {A : Type 0} (key : A → ℕ) where
  pub without-past : (k b : ℕ) (l : List A) (d : A) → Rises key b l →
      (place (λ x. leb k (key x)) l < length l → key (get_or l (place (λ x. leb k (key x)) l) d) ≡ k → ⊥) → without key k l ≡ l
  without-past k b [] d r n = refl
  without-past k b (x ∷ l) d r n = go (leb k (key x)) refl (without-past k (key x) l d r.1) n
    where
      p : ℕ
      p = place (λ x. leb k (key x)) l

      go : (t : Bool) → leb k (key x) ≡ t → ((p < length l → key (get_or l p d) ≡ k → ⊥) → without key k l ≡ l) →
          (cond t 0 (suc p) < suc (length l) → key (get_or (x ∷ l) (cond t 0 (suc p)) d) ≡ k → ⊥) → without key k (x ∷ l) ≡ x ∷ l
      go true t f n =
          let above : k ≤ key x = leb-true k (key x) t in
          rw (ne_eqb (key x) k (λ q. n (omega arith) q)) (ap (λ m. x ∷ m) (without-none key k (key x) l (omega arith) r.1))
      go false t f n =
          let below : key x < k = leb-false k (key x) t in
          rw (ne_eqb (key x) k (λ q. omega arith)) (ap (λ m. x ∷ m) (f (λ h e. n (omega arith) e)))

  -- no key twice: one key is one element
  pub rises-same : (b : ℕ) (x y : A) (l : List A) → Rises key b l → Member x l → Member y l → key x ≡ key y → x ≡ y
  rises-same b x y (z ∷ l) r (inl p) (inl q) e = cc
  rises-same b x y (z ∷ l) r (inl p) (inr n) e = absurd (let a : key z < key y = member_above key (key z) y l r.1 n in omega (arith, ap key p))
  rises-same b x y (z ∷ l) r (inr m) (inl q) e = absurd (let a : key z < key x = member_above key (key z) x l r.1 m in omega (arith, ap key q))
  rises-same b x y (z ∷ l) r (inr m) (inr n) e = rises-same (key z) x y l r.1 m n e
  rises-same b x y [] r x6 _ e = elim x6 [ ]

  -- each key is above the bound
  pub rises-at : (b : ℕ) (l : List A) (i : ℕ) (d : A) → Rises key b l → i < length l → b < key (get_or l i d)
  rises-at b [] i d r h = absurd (omega arith)
  rises-at b (x ∷ l) zero d r h = r.0
  rises-at b (x ∷ l) (suc i) d r h = omega (arith, r.0, rises-at (key x) l i d r.1 (le_of_suc-le-suc h))

  -- no key is below one before it
  pub rises_to : (b : ℕ) (l : List A) (i j : ℕ) (d : A) → Rises key b l → i ≤ j → j < length l → key (get_or l i d) ≤ key (get_or l j d)
  rises_to b [] i j d r h k = absurd (omega arith)
  rises_to b (x ∷ l) zero zero d r h k = omega arith
  rises_to b (x ∷ l) zero (suc j) d r h k = omega (arith, rises-at (key x) l j d r.1 (le_of_suc-le-suc k))
  rises_to b (x ∷ l) (suc i) zero d r h k = absurd (omega arith)
  rises_to b (x ∷ l) (suc i) (suc j) d r h k = rises_to (key x) l i j d r.1 (le_of_suc-le-suc h) (le_of_suc-le-suc k)

  rises-suc : (b : ℕ) (l : List A) (i : ℕ) (d : A) → Rises key b l → suc i < length l → key (get_or l i d) < key (get_or l (suc i) d)
  rises-suc b [] i d r h = absurd (omega arith)
  rises-suc b (x ∷ l) zero d r h = rises-at (key x) l 0 d r.1 (le_of_suc-le-suc h)
  rises-suc b (x ∷ l) (suc i) d r h = rises-suc (key x) l i d r.1 (le_of_suc-le-suc h)

  -- the key at the next place is above this one's
  pub rises_next : (b : ℕ) (l : List A) (i : ℕ) (d : A) → Rises key b l → i + 1 < length l → key (get_or l i d) < key (get_or l (i + 1) d)
  rises_next b l i d r h = rw add-one (rises-suc b l i d r (omega arith))

  -- the one element of a key taken out, as the code does it: at its place
  pub without_key : (b : ℕ) (l : List A) (i : ℕ) (d : A) → Rises key b l → i < length l → without key (key (get_or l i d)) l ≡ remove_at i l
  without_key b [] i d r h = absurd (omega arith)
  without_key b (x ∷ l) zero d r h = rw (eq-eqb (key x) (key x) refl) (without-none key (key x) (key x) l (omega arith) r.1)
  without_key b (x ∷ l) (suc i) d r h =
      let above : key x < key (get_or l i d) = rises-at (key x) l i d r.1 (le_of_suc-le-suc h) in
      rw (ne_eqb (key x) (key (get_or l i d)) (λ e. omega arith)) (ap (λ m. x ∷ m) (without_key (key x) l i d r.1 (le_of_suc-le-suc h)))

  put_between : (b : ℕ) (y : A) (l : List A) (i : ℕ) (d : A) → Rises key b l → i < length l → key (get_or l i d) ≤ key y →
      (suc i < length l → key y ≤ key (get_or l (suc i) d)) → put key y (remove_at i l) ≡ set l i y
  put_between b y [] i d r h p q = absurd (omega arith)
  put_between b y (x ∷ []) zero d r h p q = refl
  put_between b y (x ∷ z ∷ l) zero d r h p q = rw (le-leb (key y) (key z) (q (omega arith)))
  put_between b y (x ∷ l) (suc i) d r h p q =
      let above : key x < key y = omega (arith, rises-at (key x) l i d r.1 (le_of_suc-le-suc h)) in
      rw (lt-leb (key y) (key x) above) (ap (λ m. x ∷ m) (put_between (key x) y l i d r.1 (le_of_suc-le-suc h) p (λ k. q (omega arith))))

  -- an element put in for the one of a key, with a key not below that one's nor above the next one's: a store at its place
  pub put-without : (b : ℕ) (y : A) (l : List A) (i : ℕ) (d : A) → Rises key b l → i < length l → key (get_or l i d) ≤ key y →
      (i + 1 < length l → key y ≤ key (get_or l (i + 1) d)) → put key y (without key (key (get_or l i d)) l) ≡ set l i y
  put-without b y l i d r h p q = ap (put key y) (without_key b l i d r h) ∙ put_between b y l i d r h p (rw add-one at q)

  module _ (f : A → A) where
    map-none : (k b : ℕ) (l : List A) → k ≤ b → Rises key b l → map (λ q. cond (eqb (key q) k) (f q) q) l ≡ l
    map-none k b [] h r = refl
    map-none k b (x ∷ l) h r = rw (ne_eqb (key x) k (λ e. omega (arith, r.0))) (ap (λ m. x ∷ m) (map-none k (key x) l (omega (arith, r.0)) r.1))

    -- the one element of a key changed, as the code does it: a store at its place
    pub map_key : (b : ℕ) (l : List A) (i : ℕ) (d : A) → Rises key b l → i < length l →
        map (λ q. cond (eqb (key q) (key (get_or l i d))) (f q) q) l ≡ set l i (f (get_or l i d))
    map_key b [] i d r h = absurd (omega arith)
    map_key b (x ∷ l) zero d r h = rw (eq-eqb (key x) (key x) refl) (ap (λ m. f x ∷ m) (map-none (key x) (key x) l (omega arith) r.1))
    map_key b (x ∷ l) (suc i) d r h =
        let above : key x < key (get_or l i d) = rises-at (key x) l i d r.1 (le_of_suc-le-suc h) in
        rw (ne_eqb (key x) (key (get_or l i d)) (λ e. omega arith)) (ap (λ m. x ∷ m) (map_key (key x) l i d r.1 (le_of_suc-le-suc h)))
