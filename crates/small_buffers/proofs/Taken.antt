-- Sizes that are taken off a number one by one: a chain that gives them folded by `checked_sub`, which stops at the first that is too large.
use mathlib.Core.Path.{◌≡◌, refl, sym, ap, subst}
use mathlib.Core.Logic.{◌⊎◌, inl, inr}
use mathlib.Core.List.{List, [], ◌∷◌, map}
use Prim.Native.Nat.{ℕ, zero, suc, ◌+◌, ◌-◌, ◌≤◌, ◌<◌}
use native.Mathlib.Omega.{arith}
use borrow.Author.Tests.{eq-eqb, ne_eqb}
use denote.Param.Members.{Mut}
use lib.Dec.{eqb}
use lib.ListN.{length, take, get_or}
use Rattle.std.specs.Fn.{Called}
use Rattle.std.specs.Iterator.{TryFoldsItems, TryFoldTurn, YieldsThen}
use Rattle.std.specs.List.{FoldsTo}
use Rattle.std.specs.ControlFlow.{continue_value}
use Rattle.std.specs.Option.{MatchOption, SomeIff, option_eq}
use Rattle.std.specs.Prelude.{Option, Some, None}
use Rattle.std.specs.declared.ops.ControlFlow.{ControlFlow}
use Rattle.std.specs.declared.ops.ControlFlow.TheVariants.{Continue, Break}
use Rattle.std.proofs.lemmas.Iterator.{YieldsList}
use Rattle.std.proofs.lemmas.Iterator.Consumers.{YieldsList-so_far, YieldsList-turn, YieldsList-end}
use Rattle.lists.specs.Walks.{sum}
use Rattle.lists.proofs.Tests.{cases_eq}
use Rattle.small_buffers.specs.Promises.{TakenOff}

-- a closure that takes off one size, or answers that it is too large
abbrev pub TakesOff : {F : Type 0} → Mut F (ℕ × (ℕ × Unit {0})) (Option ℕ) → F → Type 0
TakesOff {F} g f = (b x : ℕ) (r : Option ℕ) (q : F) → Called g f (b, (x, tt)) r q → (q ≡ f) × SomeIff r (x ≤ b) (b - x)

-- what `?` does at an `Option`
abbrev pub goes_on : {N T : Type 0} → Option T → ControlFlow N T → Type 0
goes_on v c = v ≡ continue_value c

abbrev pub stops : {N T : Type 0} → N → Option T → Type 0
stops e r = r ≡ None

abbrev total : List ℕ → ℕ
total = sum (λ x. x)

-- the first numbers and the one behind them
sum_more : (l : List ℕ) (i z : ℕ) → i < length l → total (take i l) + get_or l i z ≤ total l
sum_more [] i z h = absurd (omega arith)
sum_more (x ∷ l) zero z h = omega arith
sum_more (x ∷ l) (suc i) z h = let e = sum_more l i z (omega arith) in omega (arith, e)

pub sum_mapped : {A : Type 0} (f : A → ℕ) (l : List A) → total (map f l) ≡ sum f l
sum_mapped f [] = refl
sum_mapped f (x ∷ l) = ap (λ n. f x + n) (sum_mapped f l)

abbrev Folds : {F : Type 0} (N : Type 0) → Mut F (ℕ × (ℕ × Unit {0})) (Option ℕ) → F × ℕ → List ℕ → F × ℕ → Type 0
Folds {F} N g = FoldsTo {P = F × ℕ} (TryFoldTurn g (goes_on {N = N}))

so_far : {F : Type 0} (N : Type 0) (g : Mut F (ℕ × (ℕ × Unit {0})) (Option ℕ)) (f : F) → TakesOff g f → (xs : List ℕ) (n : ℕ) (h : F) (a : ℕ) →
    Folds N g (f, n) xs (h, a) → (h ≡ f) × (a + total xs ≡ n)
so_far N g f off [] n h a e = (ap (λ p. p.0) (sym e), omega (arith, ap (λ p. p.1) e))
so_far N g f off (x ∷ xs) n h a (j, turn, rest) =
    let o = off n x turn.0 j.0 turn.1 in
    let less : (x ≤ n) × (j.1 ≡ n - x) = rw turn.2 at o.1 in
    let here : j ≡ (f, j.1) = λ i. (o.0 i, j.1) in
    let e = so_far N g f off xs j.1 h a (subst (λ p. Folds N g p xs (h, a)) here rest) in
    (e.0, omega (arith, e.1, less.0, less.1))

module _ {S F N : Type 0} {steps : S → Option ℕ → S → Type 0} {g : Mut F (ℕ × (ℕ × Unit {0})) (Option ℕ)} {f : F} (off : TakesOff g f) where
  pub taken_off : (s u : S) (all : List ℕ) (n : ℕ) (r : Option ℕ) → TryFoldsItems steps g (goes_on {N = N}) stops s f n r u →
      YieldsList steps (λ x. x) s all → TakenOff n (total all) r
  taken_off s u all n r (xs, o, h, a, yields, folds, last) y = go o yields last
    where
      e : (h ≡ f) × (a + total xs ≡ n)
      e = so_far N g f off xs n h a folds

      go : (o : Option ℕ) → YieldsThen steps s xs o u →
          MatchOption o (goes_on {N = N} r (Continue a)) (λ x. (v : Option ℕ) × (k : F) × (z : N) × Called g h (a, (x, tt)) v k × goes_on v (Break z) × stops z r) →
          TakenOff n (total all) r
      go None t q =
          let same = (YieldsList-end y xs t.0 t.1 None u refl t.2).0 in
          rw q (omega (arith, e.1, ap total same, sum_mapped (λ x. x) xs))
      go (Some x) t (v, k, z, called, broke, back) =
          let w = off a x v k (subst (λ p. Called g p (a, (x, tt)) v k) e.0 called) in
          let large : x ≤ a → ⊥ = rw broke at w.1 in
          let at = YieldsList-turn y xs t.0 t.1 (Some x) u x refl t.2 in
          let first = YieldsList-so_far y xs t.0 t.1 in
          rw back (omega (arith, e.1, ap total first, sum_mapped (λ x. x) xs, sum_more all (length xs) x at.0, at.1, large))

-- Nothing is left just where the number is the sum.
pub none_left : (r : Option ℕ) (bytes sizes : ℕ) → TakenOff bytes sizes r → option_eq eqb r (Some 0) ≡ eqb bytes sizes
none_left None bytes sizes h = sym (ne_eqb bytes sizes (omega (arith, h)))
none_left (Some left) bytes sizes h = go left h (cases_eq left 0)
  where
    go : (left : ℕ) → left + sizes ≡ bytes → (left ≡ 0) ⊎ (left ≡ 0 → ⊥) → eqb left 0 ≡ eqb bytes sizes
    go left h (inl e) = rw (eq-eqb left 0 e) (sym (eq-eqb bytes sizes (omega (arith, h, e))))
    go left h (inr e) = rw (ne_eqb left 0 e) (sym (ne_eqb bytes sizes (omega (arith, h, e))))
