-- Lists in which no key stands twice, in any order: what taking one out by its key leaves.
use mathlib.Core.Path.{◌≡◌, refl, ap, sym, ◌∙◌}
use mathlib.Core.Logic.{inl, inr}
use mathlib.Core.Bool.{Bool, true, false, cond}
use mathlib.Core.List.{List, [], ◌∷◌}
use Prim.Native.Nat.{ℕ, ◌+◌}
use native.Mathlib.Omega.{arith}
use borrow.Author.Tests.{eq-eqb, ne_eqb}
use Rattle.lists.specs.Tests.{All, Pairs, Member, filter}
use Rattle.lists.specs.Order.{without}
use Rattle.lists.specs.Walks.{sum}
use Rattle.lists.proofs.Tests.{all_implies, all_filter}
use Rattle.lists.proofs.Members.{member-all}

module _ {ℓ} {A : Type ℓ} where
  pub pairs-filter : (R : A → A → Type 0) (p : A → Bool) (l : List A) → Pairs R l → Pairs R (filter p l)
  pairs-filter R p [] r = tt
  pairs-filter R p (x ∷ l) r = go (p x) (pairs-filter R p l r.1)
    where
      go : (b : Bool) → Pairs R (filter p l) → Pairs R (cond b (x ∷ filter p l) (filter p l))
      go true h = (all_filter (R x) p l r.0, h)
      go false h = h

module _ {A : Type 0} (key : A → ℕ) where
  -- no key twice
  abbrev pub Differ : List A → Type 0
  Differ = Pairs (λ x y. key x ≡ key y → ⊥)

  -- a key that none has takes nothing out
  pub without_absent : (k : ℕ) (l : List A) → All (λ x. key x ≡ k → ⊥) l → without key k l ≡ l
  without_absent k [] a = refl
  without_absent k (x ∷ l) a = rw (ne_eqb (key x) k a.0, without_absent k l a.1)

  -- taking out by key takes out just that one: whatever is counted, it counts no more
  pub sum-without-one : (f : A → ℕ) (x : A) (l : List A) → Differ l → Member x l → f x + sum f (without key (key x) l) ≡ sum f l
  sum-without-one f x (y ∷ l) d (inl e) =
      let rest : All (λ z. key z ≡ key x → ⊥) l = all_implies _ _ (λ z h q. h (ap key (sym e) ∙ sym q)) l d.0 in
      rw (← e, eq-eqb (key x) (key x) refl, without_absent (key x) l rest)
  sum-without-one f x (y ∷ l) d (inr m) =
      rw (ne_eqb (key y) (key x) (member-all (λ z. key y ≡ key z → ⊥) x l m d.0)) (omega (arith, sum-without-one f x l d.1 m))
  sum-without-one f x [] d x3 = elim x3 [ ]
