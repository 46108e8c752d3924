-- The first of a sorted list is its least, and without it the rest stays sorted.
use mathlib.Core.Path.{sym, ◌≡◌, refl, ap, ◌∙◌}
use mathlib.Core.Bool.{Bool, true, false, cond}
use mathlib.Core.List.{List, [], ◌∷◌, ◌++◌}
use mathlib.Core.Option.{Option, some, none}
use Prim.Native.Nat.{ℕ, ◌<◌}
use native.Mathlib.Omega.{arith}
use borrow.Author.Tests.{eq-eqb, ne_eqb}
use lib.Dec.{leb}
use Rattle.lists.specs.Order.{put, sorted, Rises, without, smaller, least}
use Rattle.lists.specs.Front.{front, or_else}
use Rattle.lists.proofs.Order.{without-none}
use Rattle.lists.proofs.Members.{member-least, member_above}

module _ {ℓ} {A : Type ℓ} where
  pub front-append : (l m : List A) → front (l ++ m) ≡ or_else (front l) (front m)
  front-append [] m = refl
  front-append (x ∷ l) m = refl

  module _ (key : A → ℕ) where
    front-put : (x : A) (l : List A) → front (put key x l) ≡ some (smaller key x (front l))
    front-put x [] = refl
    front-put x (y ∷ l) = go (leb (key x) (key y))
      where
        go : (t : Bool) → front (cond t (x ∷ y ∷ l) (y ∷ put key x l)) ≡ some (cond t x y)
        go true = refl
        go false = refl

    pub front-sorted : (l : List A) → front (sorted key l) ≡ least key l
    front-sorted [] = refl
    front-sorted (x ∷ l) = front-put x (sorted key l) ∙ ap (λ o. some (smaller key x o)) (front-sorted l)

module _ {A : Type 0} (key by : A → ℕ) where
  -- The least in front, the others sorted after it: `by` tells the elements apart.
  pub sorted-least : (b : ℕ) (r : A) (l : List A) → Rises by b l → least key l ≡ some r → sorted key l ≡ r ∷ sorted key (without by (by r) l)
  sorted-least b r [] h e = let z : ◌≡◌ {A = ℕ} 0 1 = cc in absurd (omega arith)
  sorted-least b r (x ∷ l) h e = go (least key l) refl (sorted-least (by x) r l h.1) e
    where
      self : without by (by x) (x ∷ l) ≡ l
      self = rw (eq-eqb (by x) (by x) refl) (without-none by (by x) (by x) l (omega arith) h.1)

      kept : least key l ≡ some r → without by (by r) (x ∷ l) ≡ x ∷ without by (by r) l
      kept q =
          let above : by x < by r = member_above by (by x) r l h.1 (member-least key r l q) in
          rw (ne_eqb (by x) (by r) (λ z. omega arith))

      alone : least key l ≡ none → sorted key l ≡ []
      alone q = let w : front (sorted key l) ≡ none = front-sorted key l ∙ q in bare (sorted key l) w
        where
          bare : (m : List A) → front m ≡ none → m ≡ []
          bare [] w = refl
          bare (y ∷ m) w = let z : ◌≡◌ {A = ℕ} 0 1 = cc in absurd (omega arith)

      pick : (y : A) (t : Bool) → leb (key x) (key y) ≡ t → least key l ≡ some y →
          (least key l ≡ some r → sorted key l ≡ r ∷ sorted key (without by (by r) l)) → some (cond t x y) ≡ some r →
          put key x (sorted key l) ≡ r ∷ sorted key (without by (by r) (x ∷ l))
      pick y true t q f e =
          let s : x ≡ r = cc in
          let w : without by (by r) (x ∷ l) ≡ l = ap (λ (v : A). without by (by v) (x ∷ l)) (sym s) ∙ self in
          rw (w, ← s) (first (sorted key l) (front-sorted key l ∙ q))
        where
          first : (m : List A) → front m ≡ some y → put key x m ≡ x ∷ m
          first [] w = refl
          first (z ∷ m) w = let s : z ≡ y = cc in rw (s, t)
      pick y false t q f e =
          let s : y ≡ r = cc in
          let n : least key l ≡ some r = q ∙ ap some s in
          let u : leb (key x) (key r) ≡ false = rw s at t in
          rw (f n, kept n, u)

      go : (o : Option A) → least key l ≡ o → (least key l ≡ some r → sorted key l ≡ r ∷ sorted key (without by (by r) l)) → some (smaller key x o) ≡ some r →
          put key x (sorted key l) ≡ r ∷ sorted key (without by (by r) (x ∷ l))
      go none q f e =
          let s : x ≡ r = cc in
          let w : without by (by r) (x ∷ l) ≡ l = ap (λ (v : A). without by (by v) (x ∷ l)) (sym s) ∙ self in
          rw (w, ← s, alone q)
      go (some y) q f e = pick y (leb (key x) (key y)) refl q f e
