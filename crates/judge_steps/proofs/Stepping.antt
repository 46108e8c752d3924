-- A line's step by its rule and its size, and the tables that one row more and a filter leave.
use mathlib.Core.Path.{◌≡◌, ap, sym, ◌∙◌}
use mathlib.Core.Bool.{Bool, true, false, true≢false}
use mathlib.Core.Logic.{⊎_elim}
use mathlib.Core.List.{List, [], ◌∷◌, ◌++◌, map, reverse}
use Prim.Native.Nat.{ℕ, suc, ◌≤◌, ◌<◌}
use native.Mathlib.Omega.{arith}
use borrow.Author.Tests.{eq-eqb, ne_eqb, lt-leb, le-leb}
use lib.Dec.{eqb}
use lib.ListN.{length, length-map}
use Rattle.std.specs.List as library
use Rattle.std.proofs.lemmas.List.{length-reverse}
use Rattle.lists.specs.Tests.{filter}
use Rattle.lists.proofs.Tests.{cases_eq}
use Rattle.judge_rules.specs.Rules.{Judge}
use Rattle.judge_rules.specs.Verdict.{Step, on, broken, beyond, ruled, sized}
use Rattle.judge_tables.proofs.Newest.{filter_in, filter_plain, newest-more, newest-filter}

pub refused : (n : ℕ) (t : Bool) (k : Step) → t ≡ false → broken n ≡ ruled n t k
unfolding ruled
refused n t k e = rw e

pub passed : (n : ℕ) (t : Bool) (k : Step) → t ≡ true → k ≡ ruled n t k
unfolding ruled
passed n t k e = rw e

pub too_large : (n : ℕ) (t : Bool) (w most count : ℕ) (s : Judge) → t ≡ true → most < count → beyond w ≡ ruled n t (sized w most count s)
unfolding ruled sized
too_large n t w most count s e h = rw (e, lt-leb count most h)

pub fits : (n : ℕ) (t : Bool) (w most count : ℕ) (s : Judge) → t ≡ true → count ≤ most → on s ≡ ruled n t (sized w most count s)
unfolding ruled sized
fits n t w most count s e h = rw (e, le-leb count most h)

module _ {A B : Type 0} (f : A → B) where
  -- a table's list is as long as the table
  pub length-in : (t : List A) → length (map f (reverse t)) ≡ length t
  length-in t = length-map (reverse t) f ∙ length-reverse t

  -- one row more, and the rows that stay
  pub more : (t : List A) (x : A) → map f (reverse (t ++ (x ∷ []))) ≡ f x ∷ map f (reverse t)
  more t x = ap (map f) (newest-more t x)

  pub rest : (p : B → Bool) (t : List A) → map f (reverse (library.filter (λ x. p (f x)) t)) ≡ filter p (map f (reverse t))
  rest p t = ap (map f) (newest-filter (λ x. p (f x)) t) ∙ filter_in p f (reverse t)

pub rest-plain : {A : Type 0} (p : A → Bool) (t : List A) → reverse (library.filter p t) ≡ filter p (reverse t)
rest-plain p t = newest-filter p t ∙ filter_plain p (reverse t)

-- A row more in a table of `n` rows, which the rules count as `k`: there is room for it, or there is none.
module _ (rule which most n k : ℕ) (met full : Bool) (j : Judge) (m : met ≡ true) (e : k ≡ n) (f : full ≡ eqb n most) where
  pub none_left : full ≡ true → beyond which ≡ ruled rule met (sized which most (suc k) j)
  none_left b =
      ⊎_elim
      (λ q. too_large rule met which most (suc k) j m (omega (arith, e, q)))
      (λ q. absurd (true≢false (sym b ∙ f ∙ ne_eqb n most q)))
      (cases_eq n most)

  pub one_more : full ≡ false → n ≤ most → (i : Judge) → i ≡ j → on i ≡ ruled rule met (sized which most (suc k) j)
  one_more b h i q =
      ap (λ z. on z) q
      ∙ fits rule met which most (suc k) j m
      (⊎_elim (λ r. absurd (true≢false (sym (eq-eqb n most r) ∙ sym f ∙ b))) (λ r. omega (arith, e)) (cases_eq n most))
