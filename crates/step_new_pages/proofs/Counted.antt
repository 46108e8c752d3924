-- How many pages of the range there are: none at first, and at most one more for each page made.
use mathlib.Core.Path.{◌≡◌, refl}
use mathlib.Core.Logic.{inl, inr}
use mathlib.Core.Bool.{Bool, true, false, cond}
use mathlib.Core.List.{List, [], ◌∷◌}
use Prim.Native.Nat.{ℕ, suc, ◌+◌, ◌-◌, ◌≤◌, ◌<◌}
use native.Mathlib.Omega.{arith}
use borrow.Author.Tests.{leb-true, ltb-true, lt-ltb}
use lib.Dec.{leb, ltb}
use lib.ListN.{length}
use Rattle.lists.specs.Tests.{Member, filter}
use Rattle.lists.specs.Order.{put}
use Rattle.lists.proofs.Tests.{both}
use Rattle.lists.proofs.Members.{member-all, member_filter, sum-member}
use Rattle.tables.specs.Values.{Tables}
use Rattle.tables.specs.NewPages.{Room, at, new_pages}
use Rattle.tables.specs.declared.Page.{Page}
use Rattle.keeping.specs.Cover.{equal}
use Rattle.keeping.specs.MakeRoom.{PagesTo}
use Rattle.keeping.proofs.Cover.{within_in, within_out, equal-same}
use Rattle.keeping.proofs.Sounds.{sound-once}

module _ {A : Type 0} where
  none-there : (l : List A) → ((x : A) → Member x l → ⊥) → length l ≡ 0
  none-there [] f = refl
  none-there (x ∷ l) f = absurd (f x (inl refl))

  length_cons : (p : A → Bool) (x : A) (l : List A) → (length (filter p (x ∷ l)) ≤ suc (length (filter p l))) × (length (filter p l) ≤ length (filter p (x ∷ l)))
  length_cons p x l = go (p x)
    where
      go : (b : Bool) →
          (length (cond b (x ∷ filter p l) (filter p l)) ≤ suc (length (filter p l))) × (length (filter p l) ≤ length (cond b (x ∷ filter p l) (filter p l)))
      go true = omega arith
      go false = omega arith

  length-filter-put : (key : A → ℕ) (p : A → Bool) (x : A) (l : List A) → length (filter p (put key x l)) ≤ suc (length (filter p l))
  length-filter-put key p x [] = (length_cons p x []).0
  length-filter-put key p x (y ∷ l) = go (leb (key x) (key y)) (p y) refl (length-filter-put key p x l)
    where
      go : (t b : Bool) → p y ≡ b → length (filter p (put key x l)) ≤ suc (length (filter p l)) →
          length (filter p (cond t (x ∷ y ∷ l) (y ∷ put key x l))) ≤ suc (length (filter p (y ∷ l)))
      go true b e i = (length_cons p x (y ∷ l)).0
      go false true e i = rw e (omega arith)
      go false false e i = rw e i

  length_filter_more : (p q : A → Bool) → ((x : A) → p x ≡ true → q x ≡ true) → (l : List A) → length (filter p l) ≤ length (filter q l)
  length_filter_more p q f [] = omega arith
  length_filter_more p q f (x ∷ l) = go (p x) refl (length_filter_more p q f l)
    where
      go : (b : Bool) → p x ≡ b → length (filter p l) ≤ length (filter q l) →
          length (cond b (x ∷ filter p l) (filter p l)) ≤ length (filter q (x ∷ l))
      go true e i = rw (f x e) (omega arith)
      go false e i = omega (arith, length_cons q x l)

module _ (o : Room) where
  -- the pages of the range
  abbrev pub held : List Page → List Page
  held l = new_pages o (o.start + o.size) l

  pub held-put : (g : Page) (l : List Page) → length (held (put at g l)) ≤ suc (length (held l))
  held-put g l = length-filter-put at _ g l

  pub new-held : (a : ℕ) (l : List Page) → a ≤ o.start + o.size → length (new_pages o a l) ≤ length (held l)
  new-held a l h =
      length_filter_more _ _ (λ g e.
      let w = both (leb o.start (at g)) (ltb (at g) a) e in
      let below : at g < o.start + o.size = omega (arith, ltb-true (at g) a w.1) in
      rw (w.0, lt-ltb (at g) (o.start + o.size) below)) l

  pub none-held : (lost : ℕ → ℕ) (p f k : ℕ) (t : Tables) → PagesTo lost p f k o.start o.size o.start t → length (held t.pages) ≡ 0
  none-held lost p f k t w = none-there (held t.pages) bare
    where
      s : ℕ
      s = o.start

      bare : (g : Page) → Member g (held t.pages) → ⊥
      bare g m =
          let i = member_filter _ g t.pages m in
          let b = both (leb s (at g)) (ltb (at g) (s + o.size)) i.1 in
          let from : s ≤ at g = leb-true s (at g) b.0 in
          let upto : at g < s + o.size = ltb-true (at g) (s + o.size) b.1 in
          let aligned = (member-all _ g t.pages i.0 w.sound.pages).aligned in
          omega (
            arith,
            w.sound.pages_match (at g) aligned,
            sound-once w.sound (at g),
            within_in s o.size (at g) from upto,
            within_out s (s - s) (at g) (inr (omega arith)),
            sum-member (λ q. equal (at q) (at g)) g t.pages i.0,
            equal-same (at g),
          )
