-- Laws of a table's rows: the library's tests of a list are ours, and a table's list is no longer than its count.
use mathlib.Core.Path.{◌≡◌, refl, ap, ◌∙◌}
use mathlib.Core.Bool.{Bool, ◌&&◌, ◌||◌, not}
use mathlib.Core.List.{List, [], ◌∷◌, ◌++◌, map, append-nil}
use Prim.Native.Nat.{ℕ, ◌+◌, ◌≤◌, ◌<◌}
use native.Mathlib.Omega.{arith}
use native.Mathlib.Numerals.{add-one}
use borrow.Author.Tests.{eq-eqb, ne_eqb}
use lib.Dec.{eqb}
use lib.ListN.{length, get_or, take, length-take}
use lib.Seq.{take-suc}
use Rattle.std.specs.List.{list_any, list_all}
use Rattle.lists.specs.Tests.{every, any}
use Rattle.lists.specs.Order.{without}
use Rattle.lists.proofs.Filters.{filter-append}
use Rattle.cells.specs.Table.{entries}
use Rattle.cells.specs.declared.Table.{Table}

module _ {A : Type 0} where
  pub any_is : (p : A → Bool) (l : List A) → list_any p l ≡ any p l
  any_is p [] = refl
  any_is p (x ∷ l) = ap (λ b. p x || b) (any_is p l)

  pub every_is : (p : A → Bool) (l : List A) → list_all p l ≡ every p l
  every_is p [] = refl
  every_is p (x ∷ l) = ap (λ b. p x && b) (every_is p l)

  pub every_map : {B : Type 0} (f : A → B) (p : B → Bool) (l : List A) → every p (map f l) ≡ every (λ x. p (f x)) l
  every_map f p [] = refl
  every_map f p (x ∷ l) = ap (λ b. p (f x) && b) (every_map f p l)

  pub few_entries : {n : ℕ} (t : Table A n) → length (entries t) ≤ t.count
  unfolding entries
  few_entries t = simp length-take (omega arith)

  -- one element more is passed, and stays or goes
  module _ (key : A → ℕ) (k : ℕ) (l : List A) (i : ℕ) (z : A) (h : i < length l) where
    cut : without key k (take (i + 1) l) ≡ without key k (take i l) ++ without key k (get_or l i z ∷ [])
    cut = rw (add-one, take-suc l i z h) (filter-append (λ x. not (eqb (key x) k)) (take i l) (get_or l i z ∷ []))

    pub without-stays : (key (get_or l i z) ≡ k → ⊥) → without key k (take (i + 1) l) ≡ without key k (take i l) ++ get_or l i z ∷ []
    without-stays n = cut ∙ rw (ne_eqb (key (get_or l i z)) k n)

    pub without-goes : key (get_or l i z) ≡ k → without key k (take (i + 1) l) ≡ without key k (take i l)
    without-goes e = cut ∙ rw (eq-eqb (key (get_or l i z)) k e) (append-nil (without key k (take i l)))
