-- Lists with the same elements, in whatever order: they pass the same tests and have the same length.
use mathlib.Core.Path.{◌≡◌, refl, sym, ◌∙◌}
use mathlib.Core.Logic.{inl, inr}
use mathlib.Core.Bool.{Bool, true, false, false≢true, cond, ◌&&◌, ◌||◌}
use mathlib.Core.List.{List, [], ◌∷◌, ◌++◌}
use Prim.Native.Nat.{ℕ, ◌+◌, ◌<◌}
use native.Mathlib.Omega.{arith}
use lib.ListN.{length}
use Rattle.lists.specs.Tests.{Member, every, any, filter}
use Rattle.lists.specs.Walks.{sum}
use Rattle.lists.specs.Order.{put}
use Rattle.lists.proofs.Walks.{length-sum, sum-append}
use Rattle.lists.proofs.Order.{sum-put}
use Rattle.lists.proofs.Tests.{both}
use Rattle.agreement.specs.Agrees.{SameBy}

-- 1 where a test fails, else 0; and the other way round
abbrev missed : Bool → ℕ
missed true = 0
missed false = 1

abbrev passed : Bool → ℕ
passed true = 1
passed false = 0

module _ {A : Type 0} (p : A → Bool) where
  every_missed : (l : List A) → every p l ≡ true → sum (λ x. missed (p x)) l ≡ 0
  every_missed [] e = refl
  every_missed (x ∷ l) e =
      let b = both (p x) (every p l) e in
      let q : missed (p x) ≡ 0 = rw b.0 in
      omega (arith, every_missed l b.1)

  missed-every : (l : List A) → sum (λ x. missed (p x)) l ≡ 0 → every p l ≡ true
  missed-every [] e = refl
  missed-every (x ∷ l) e = go (p x) refl (missed-every l)
    where
      go : (b : Bool) → p x ≡ b → (sum (λ x. missed (p x)) l ≡ 0 → every p l ≡ true) → (b && every p l) ≡ true
      go true q more = more (let z : missed (p x) ≡ 0 = rw q in omega arith)
      go false q more = absurd (let z : missed (p x) ≡ 1 = rw q in omega arith)

  any-passed : (l : List A) → any p l ≡ true → 0 < sum (λ x. passed (p x)) l
  any-passed [] e = absurd (false≢true e)
  any-passed (x ∷ l) e = go (p x) refl e (any-passed l)
    where
      go : (b : Bool) → p x ≡ b → (b || any p l) ≡ true → (any p l ≡ true → 0 < sum (λ x. passed (p x)) l) → 0 < passed (p x) + sum (λ x. passed (p x)) l
      go true q e more = let z : passed (p x) ≡ 1 = rw q in omega arith
      go false q e more = omega (arith, more e)

  passed-any : (l : List A) → 0 < sum (λ x. passed (p x)) l → any p l ≡ true
  passed-any [] e = absurd (omega arith)
  passed-any (x ∷ l) e = go (p x) refl (passed-any l)
    where
      go : (b : Bool) → p x ≡ b → (0 < sum (λ x. passed (p x)) l → any p l ≡ true) → (b || any p l) ≡ true
      go true q more = refl
      go false q more = more (let z : passed (p x) ≡ 0 = rw q in omega arith)

  -- a filter, as a sum has it
  pub sum_passing : (w : A → ℕ) (l : List A) → sum w (filter p l) ≡ sum (λ x. cond (p x) (w x) 0) l
  sum_passing w [] = refl
  sum_passing w (x ∷ l) = go (p x) (sum_passing w l)
    where
      go : (b : Bool) → sum w (filter p l) ≡ sum (λ x. cond (p x) (w x) 0) l → sum w (cond b (x ∷ filter p l) (filter p l)) ≡ cond b (w x) 0 + sum (λ x. cond (p x) (w x) 0) l
      go true e = omega arith
      go false e = omega arith

module _ {A B : Type 0} {f : B → A} {l : List A} {m : List B} (same : SameBy f l m) where
  pub same-every : (p : A → Bool) → every (λ x. p (f x)) m ≡ true → every p l ≡ true
  same-every p e = missed-every p l (same.sums (λ x. missed (p x)) ∙ every_missed (λ x. p (f x)) m e)

  pub same-every-back : (p : A → Bool) → every p l ≡ true → every (λ x. p (f x)) m ≡ true
  same-every-back p e = missed-every (λ x. p (f x)) m (sym (same.sums (λ x. missed (p x))) ∙ every_missed p l e)

  pub same-any : (p : A → Bool) → any (λ x. p (f x)) m ≡ true → any p l ≡ true
  same-any p e = passed-any p l (rw (same.sums (λ x. passed (p x))) (any-passed (λ x. p (f x)) m e))

  pub same-any-back : (p : A → Bool) → any p l ≡ true → any (λ x. p (f x)) m ≡ true
  same-any-back p e = passed-any (λ x. p (f x)) m (rw (same.sums (λ x. passed (p x))) at (any-passed p l e))

  pub same_length : length l ≡ length m
  same_length = length-sum l ∙ (same.sums (λ _. 1) ∙ sym (length-sum m))

  pub same_push : (x : B) → SameBy f (f x ∷ l) (m ++ x ∷ [])
  same_push x = record { sums = λ w. omega (arith, same.sums w, sum-append (λ y. w (f y)) m (x ∷ [])) }

  pub same-put : (key : B → ℕ) (x : B) → SameBy f (f x ∷ l) (put key x m)
  same-put key x = record { sums = λ w. omega (arith, same.sums w, sum-put key (λ y. w (f y)) x m) }

  pub same-filter : (p : A → Bool) → SameBy f (filter p l) (filter (λ x. p (f x)) m)
  same-filter p =
      record { sums = λ w. sum_passing p w l ∙ (same.sums (λ x. cond (p x) (w x) 0) ∙ sym (sum_passing (λ x. p (f x)) (λ x. w (f x)) m)) }

-- what is true of some element, by a test that it passes
pub any-member : {A : Type 0} (p : A → Bool) (x : A) (l : List A) → Member x l → p x ≡ true → any p l ≡ true
any-member {A = A} p x [] x3 q = elim x3 [ ]
any-member p x (y ∷ l) (inl e) q = rw (← e, q)
any-member p x (y ∷ l) (inr m) q = go (p y) (any-member p x l m q)
  where
    go : (b : Bool) → any p l ≡ true → (b || any p l) ≡ true
    go true e = refl
    go false e = e

pub any-is : {A : Type 0} (p : A → Bool) (l : List A) → any p l ≡ true → (x : A) × (Member x l × (p x ≡ true))
any-is {A} p [] e = absurd (false≢true e)
any-is {A} p (x ∷ l) e = go (p x) refl e (any-is p l)
  where
    go : (b : Bool) → p x ≡ b → (b || any p l) ≡ true → (any p l ≡ true → (y : A) × (Member y l × (p y ≡ true))) → (y : A) × (Member y (x ∷ l) × (p y ≡ true))
    go true q e more = (x, (inl refl, q))
    go false q e more = let r = more e in (r.0, (inr r.1.0, r.1.1))
