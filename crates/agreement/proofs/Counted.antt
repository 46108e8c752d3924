-- What is counted: elements that are counted once are one; an unmap takes away the pages that its range covers; a handle that no mapped page has is under
-- none.
use mathlib.Core.Path.{◌≡◌, refl, ap, sym, ◌∙◌}
use mathlib.Core.Logic.{inl, inr, ⊎_elim}
use mathlib.Core.Bool.{Bool, true, false, not}
use mathlib.Core.List.{List, [], ◌∷◌}
use Prim.Native.Nat.{ℕ, ◌+◌, ◌≤◌, ◌<◌}
use native.Mathlib.Omega.{arith}
use borrow.Author.Tests.{ne_eqb}
use Rattle.lists.specs.Tests.{All, Member, filter}
use Rattle.lists.proofs.Members.{sum-member}
use Rattle.lists.proofs.Tests.{cases_lt}
use Rattle.keeping.specs.Cover.{within, equal, keys_at}
use Rattle.keeping.proofs.Cover.{within_in, within_out, equal-same}
use Rattle.keeping.proofs.Counting.{count-dropped, count_kept}
use Rattle.judge_rules.specs.Ranges.{inside}
use Rattle.judge_rules.specs.Rules.{Page, is_under}
use Rattle.judge_rules.proofs.PageLaws.{inside_is, is-inside}
use Rattle.agreement.specs.Agrees.{mapped_at}

-- what is counted once is one
pub counted-once : {A : Type 0} (key : A → ℕ) (x y : A) (l : List A) → Member x l → Member y l → key x ≡ key y → keys_at key l (key x) ≤ 1 → x ≡ y
counted-once key x y (z ∷ l) (inl e) (inl f) q h = e ∙ sym f
counted-once key x y (z ∷ l) (inl e) (inr n) q h =
    absurd (omega (arith, ap (λ a. equal (key a) (key x)) e, equal-same (key x), ap (λ a. equal a (key x)) q, sum-member (λ a. equal (key a) (key x)) y l n))
counted-once key x y (z ∷ l) (inr m) (inl f) q h =
    absurd (omega (arith, ap (λ a. equal (key a) (key x)) f, equal-same (key x), ap (λ a. equal a (key x)) q, sum-member (λ a. equal (key a) (key x)) x l m))
counted-once key x y (z ∷ l) (inr m) (inr n) q h = counted-once key x y l m n q (omega arith)
counted-once {A = A} key x y [] x5 _ q h = elim x5 [ ]

-- an address that a range does not cover, as the judge tests it
pub inside-none : (a n x : ℕ) → within a n x ≡ 0 → inside a n x ≡ false
inside-none a n x e = go (inside a n x) refl
  where
    go : (b : Bool) → inside a n x ≡ b → b ≡ false
    go true q = let i = inside_is a n x q in absurd (omega (arith, within_in a n x i.0 i.1))
    go false q = refl

-- Where a page is mapped once at most, and at each address of a range, unmapping the range takes away what the range covers.
pub mapped-without : (a n : ℕ) (m : List Page) (x : ℕ) → mapped_at m x ≤ 1 → within a n x ≤ mapped_at m x →
    mapped_at (filter (λ g. not (inside a n g.at)) m) x + within a n x ≡ mapped_at m x
mapped-without a n m x once le =
    ⊎_elim
    (λ (p : x < a). out (within_out a n x (inl p)))
    (λ (p : a ≤ x). ⊎_elim (λ (q : x < a + n). into p q) (λ (q : a + n ≤ x). out (within_out a n x (inr q))) (cases_lt x (a + n)))
    (cases_lt x a)
  where
    out : within a n x ≡ 0 → mapped_at (filter (λ g. not (inside a n g.at)) m) x + within a n x ≡ mapped_at m x
    out e = omega (arith, count_kept (λ (g : Page). g.at) (λ y. not (inside a n y)) x m (rw (inside-none a n x e)))

    into : a ≤ x → x < a + n → mapped_at (filter (λ g. not (inside a n g.at)) m) x + within a n x ≡ mapped_at m x
    into p q =
        omega (arith, within_in a n x p q, count-dropped (λ (g : Page). g.at) (λ y. not (inside a n y)) x m (rw (is-inside a n x p q)))

pub under_none : (h : ℕ) (l : List Page) → All (λ q. q.handle ≡ h → ⊥) l → is_under l h ≡ false
under_none h [] a = refl
under_none h (q ∷ l) a = rw (ne_eqb q.handle h a.0, under_none h l a.1)
