-- A walk over the pages of a range.
use mathlib.Core.Path.{◌≡◌, refl, ap, sym, ◌∙◌}
use mathlib.Core.Bool.{Bool, true, false}
use mathlib.Core.Logic.{⊎_elim}
use mathlib.Core.List.{List, [], ◌∷◌, reverse}
use Prim.Native.Nat.{ℕ, zero, suc, ◌+◌, ◌-◌, ◌≤◌, ◌<◌, ◌^◌}
use native.Mathlib.Omega.{arith}
use borrow.Author.Tests.{eq-eqb, ne_eqb}
use lib.Dec.{eqb}
use Rattle.std.specs.List.{list_any}
use Rattle.std.proofs.lemmas.List.{reverse-append}
use Rattle.std.proofs.lemmas.List.Folds.{list_any-append}
use Rattle.lists.specs.Tests.{every}
use Rattle.lists.proofs.Tests.{cases_eq}
use Rattle.judge_rules.specs.Ranges.{pages_from}
use Rattle.judge_rules.specs.Rules.{is_mapped}
use Rattle.judge_tables.specs.Rows.{Addressed, pages_in, holds_page}
use Rattle.judge_tables.proofs.Newest.{page-is}
use Rattle.judge_tables.specs.declared.rows.Page.{Page}

pages_down : (p x i k : ℕ) → i < k → pages_from p x (k - i) ≡ x ∷ pages_from p (x + p) (k - (i + 1))
pages_down p x i k h =
    let e : k - i ≡ suc (k - (i + 1)) = omega arith in
    ap (λ n. pages_from p x n) e

module _ (t : ℕ → Bool) (p x i k : ℕ) (h : i < k) where
  pub pages-not : t x ≡ false → every t (pages_from p x (k - i)) ≡ false
  pages-not e = rw (pages_down p x i k h, e)

  pub pages-on : t x ≡ true → every t (pages_from p x (k - i)) ≡ every t (pages_from p (x + p) (k - (i + 1)))
  pages-on e = rw (pages_down p x i k h, e)

-- where the next page is none, there must be no next page
pub pages-beyond : (t : ℕ → Bool) (p y n : ℕ) → t y ≡ false → eqb n 0 ≡ every t (pages_from p y n)
pages-beyond t p y zero e = refl
pages-beyond t p y (suc n) e = rw e (ne_eqb (suc n) 0 (λ q. omega arith))

pub last-of : (i k : ℕ) → i < k → eqb (i + 1) k ≡ eqb (k - (i + 1)) 0
last-of i k h =
    ⊎_elim
    (λ e. eq-eqb (i + 1) k e ∙ sym (eq-eqb (k - (i + 1)) 0 (omega arith)))
    (λ n. ne_eqb (i + 1) k n ∙ sym (ne_eqb (k - (i + 1)) 0 (λ q. n (omega arith))))
    (cases_eq (i + 1) k)

-- no page is mapped beyond the last address
none-beyond : (t : List Page) (y : ℕ) → 2 ^ 64 ≤ y → Addressed t → holds_page t y ≡ false
none-beyond [] y h a = refl
none-beyond (p ∷ t) y h a =
    let f : p.at < 2 ^ 64 = a 0 (omega arith) in
    ap (list_any (λ q. eqb q.at y)) (reverse-append (p ∷ []) t)
    ∙ list_any-append (λ q. eqb q.at y) (reverse t) (p ∷ [])
    ∙ rw (none-beyond t y h (λ k q. a (suc k) (omega arith)), ne_eqb p.at y (λ e. omega arith))

pub mapped-beyond : (t : List Page) (y : ℕ) → 2 ^ 64 ≤ y → Addressed t → is_mapped (pages_in t) y ≡ false
mapped-beyond t y h a = sym (page-is t y) ∙ none-beyond t y h a
