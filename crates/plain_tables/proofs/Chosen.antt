-- What a search by key found, or that it found nothing: the key of the element found, what is taken out by a key that no element has, and the handle at an
-- address. The library's tests of a list, and ours.
use mathlib.Core.Path.{◌≡◌, refl, sym, ap, ◌∙◌}
use mathlib.Core.Bool.{Bool, true, false, cond, not, ◌&&◌, ◌||◌}
use mathlib.Core.List.{List, [], ◌∷◌}
use mathlib.Core.Option.{some, none}
use Prim.Native.Nat.{ℕ}
use native.Mathlib.Omega.{arith}
use borrow.Author.Tests.{eqb-true}
use lib.Dec.{eqb}
use Rattle.std.specs.List.{list_any, list_all}
use Rattle.lists.specs.Tests.{any, every, first}
use Rattle.lists.specs.Order.{without}
use Rattle.tables.specs.NewPages.{at}
use Rattle.tables.specs.Pull.{handle_at}
use Rattle.tables.specs.declared.Page.{Page}

module _ {A : Type 0} where
  -- the library's tests of a list are ours
  pub any_is : (p : A → Bool) (l : List A) → list_any p l ≡ any p l
  any_is p [] = refl
  any_is p (x ∷ l) = ap (λ b. p x || b) (any_is p l)

  pub every_is : (p : A → Bool) (l : List A) → list_all p l ≡ every p l
  every_is p [] = refl
  every_is p (x ∷ l) = ap (λ b. p x && b) (every_is p l)

  module _ (key : A → ℕ) (k : ℕ) where
    pub found_key : (l : List A) (x : A) → first (λ y. eqb (key y) k) l ≡ some x → key x ≡ k
    found_key [] x e = let z : ◌≡◌ {A = ℕ} 0 1 = cc in absurd (omega arith)
    found_key (y ∷ l) x e = go (eqb (key y) k) refl (found_key l x) e
      where
        go : (b : Bool) → eqb (key y) k ≡ b → (first (λ z. eqb (key z) k) l ≡ some x → key x ≡ k) →
            cond b (some y) (first (λ z. eqb (key z) k) l) ≡ some x → key x ≡ k
        go true t f q = let r : y ≡ x = cc in ap key (sym r) ∙ eqb-true (key y) k t
        go false t f q = f q

    pub none-without : (l : List A) → first (λ y. eqb (key y) k) l ≡ none → without key k l ≡ l
    none-without [] e = refl
    none-without (y ∷ l) e = go (eqb (key y) k) (none-without l) e
      where
        go : (b : Bool) → (first (λ z. eqb (key z) k) l ≡ none → without key k l ≡ l) → cond b (some y) (first (λ z. eqb (key z) k) l) ≡ none →
            cond (not b) (y ∷ without key k l) (without key k l) ≡ y ∷ l
        go true f q = let z : ◌≡◌ {A = ℕ} 0 1 = cc in absurd (omega arith)
        go false f q = ap (λ m. y ∷ m) (f q)

-- the handle at an address is that of the first page there; where there is none it is 0
pub handle_found : (a : ℕ) (l : List Page) (g : Page) → first (λ h. eqb (at h) a) l ≡ some g → handle_at a l ≡ g.handle.0
handle_found a [] g e = let z : ◌≡◌ {A = ℕ} 0 1 = cc in absurd (omega arith)
handle_found a (h ∷ l) g e = go (eqb (at h) a) (handle_found a l g) e
  where
    go : (b : Bool) → (first (λ h. eqb (at h) a) l ≡ some g → handle_at a l ≡ g.handle.0) → cond b (some h) (first (λ h. eqb (at h) a) l) ≡ some g →
        cond b h.handle.0 (handle_at a l) ≡ g.handle.0
    go true f q = let r : h ≡ g = cc in ap (λ x. x.handle.0) r
    go false f q = f q

pub handle_none : (a : ℕ) (l : List Page) → first (λ h. eqb (at h) a) l ≡ none → handle_at a l ≡ 0
handle_none a [] e = refl
handle_none a (h ∷ l) e = go (eqb (at h) a) (handle_none a l) e
  where
    go : (b : Bool) → (first (λ h. eqb (at h) a) l ≡ none → handle_at a l ≡ 0) → cond b (some h) (first (λ h. eqb (at h) a) l) ≡ none →
        cond b h.handle.0 (handle_at a l) ≡ 0
    go true f q = let z : ◌≡◌ {A = ℕ} 0 1 = cc in absurd (omega arith)
    go false f q = f q
