-- A table read from its newest row on: what the code's tests of its rows are is what the definitions' tests are of the list that it stands for.
use mathlib.Core.Path.{◌≡◌, refl, ap, sym, ◌∙◌}
use mathlib.Core.Bool.{Bool, true, false, cond, ◌&&◌, ◌||◌, not}
use mathlib.Core.List.{List, [], ◌∷◌, ◌++◌, map, reverse, append-nil}
use Prim.Native.Nat.{ℕ}
use lib.Dec.{eqb}
use Rattle.std.specs.List as library
use Rattle.std.proofs.lemmas.List.{reverse-append}
use Rattle.lists.specs.Tests.{any, every, filter}
use Rattle.judge_rules.specs.Ranges.{inside, clear}
use Rattle.judge_rules.specs.Rules as rules
use Rattle.judge_tables.specs.Rows.{page_of, buffer_of, handles_in, pages_in, live_in, holds_handle, holds_page, holds_under, holds_none, in_buffers, holds_alone, holds_no_twins}
use Rattle.judge_tables.specs.declared.rows.Page.{Page}
use Rattle.judge_tables.specs.declared.rows.Live.{Live}

map-if : {A B : Type 0} (f : A → B) (b : Bool) (x : A) (xs : List A) → map f (cond b (x ∷ xs) xs) ≡ cond b (f x ∷ map f xs) (map f xs)
map-if f true x xs = refl
map-if f false x xs = refl

append-if : {A : Type 0} (b : Bool) (x : A) (xs ys : List A) → cond b (x ∷ (xs ++ ys)) (xs ++ ys) ≡ cond b (x ∷ xs) xs ++ ys
append-if true x xs ys = refl
append-if false x xs ys = refl

reverse-if : {A : Type 0} (b : Bool) (x : A) (xs : List A) → reverse (cond b (x ∷ xs) xs) ≡ reverse xs ++ cond b (x ∷ []) []
reverse-if true x xs = reverse-append (x ∷ []) xs
reverse-if false x xs = sym (append-nil (reverse xs))

module _ {A B : Type 0} (p : B → Bool) (f : A → B) where
  pub any_in : (xs : List A) → library.list_any (λ x. p (f x)) xs ≡ any p (map f xs)
  any_in [] = refl
  any_in (x ∷ xs) = ap (λ b. p (f x) || b) (any_in xs)

  pub every_in : (xs : List A) → library.list_all (λ x. p (f x)) xs ≡ every p (map f xs)
  every_in [] = refl
  every_in (x ∷ xs) = ap (λ b. p (f x) && b) (every_in xs)

  -- those that stay of a table, the newest first
  pub filter_in : (xs : List A) → map f (library.filter (λ x. p (f x)) xs) ≡ filter p (map f xs)
  filter_in [] = refl
  filter_in (x ∷ xs) = map-if f (p (f x)) x _ ∙ ap (λ z. cond (p (f x)) (f x ∷ z) z) (filter_in xs)

module _ {A : Type 0} (p : A → Bool) where
  pub any_plain : (xs : List A) → library.list_any p xs ≡ any p xs
  any_plain [] = refl
  any_plain (x ∷ xs) = ap (λ b. p x || b) (any_plain xs)

  pub filter_plain : (xs : List A) → library.filter p xs ≡ filter p xs
  filter_plain [] = refl
  filter_plain (x ∷ xs) = λ i. cond (p x) (x ∷ filter_plain xs i) (filter_plain xs i)

  filter-append : (xs ys : List A) → library.filter p (xs ++ ys) ≡ library.filter p xs ++ library.filter p ys
  filter-append [] ys = refl
  filter-append (x ∷ xs) ys = ap (λ z. cond (p x) (x ∷ z) z) (filter-append xs ys) ∙ append-if (p x) x _ _

-- one row more is the newest
pub newest-more : {A : Type 0} (xs : List A) (x : A) → reverse (xs ++ (x ∷ [])) ≡ x ∷ reverse xs
newest-more xs x = reverse-append xs (x ∷ [])

module _ {A : Type 0} (p : A → Bool) where
  pub newest-filter : (xs : List A) → reverse (library.filter p xs) ≡ library.filter p (reverse xs)
  newest-filter [] = refl
  newest-filter (x ∷ xs) =
      reverse-if (p x) x (library.filter p xs)
      ∙ ap (λ z. z ++ cond (p x) (x ∷ []) []) (newest-filter xs)
      ∙ sym (filter-append p (reverse xs) (x ∷ []))
      ∙ ap (library.filter p) (sym (reverse-append (x ∷ []) xs))

-- the tests of each table
pub handle-is : (t : List ℕ) (k : ℕ) → holds_handle t k ≡ rules.is_in k (handles_in t)
handle-is t k = any_plain (λ h. eqb h k) (reverse t)

pub page-is : (t : List Page) (x : ℕ) → holds_page t x ≡ rules.is_mapped (pages_in t) x
page-is t x = any_in (λ p. eqb p.at x) page_of (reverse t)

pub under-is : (t : List Page) (k : ℕ) → holds_under t k ≡ rules.is_under (pages_in t) k
under-is t k = any_in (λ p. eqb p.handle k) page_of (reverse t)

pub none-is : (t : List Live) (a n : ℕ) → holds_none t a n ≡ rules.none_live (live_in t) a n
unfolding rules.none_live
none-is t a n = every_in (λ b. clear a n b.start b.size) buffer_of (reverse t)

buffers-is : (t : List Live) (a n x : ℕ) → in_buffers t a n x ≡ rules.in_buffers (live_in t) a n x
buffers-is t a n x = ap (λ b. inside a n x || b) (any_in (λ b. inside b.start b.size x) buffer_of (reverse t))

exchanged : (x y z : Bool) → ((x || y) || z) ≡ ((y || x) || z)
exchanged true true z = refl
exchanged true false z = refl
exchanged false true z = refl
exchanged false false z = refl

alone-is : (t : List Page) (live : List Live) (a n : ℕ) (p : Page) → holds_alone t live a n p ≡ rules.alone (pages_in t) (live_in live) a n (page_of p)
alone-is t live a n p =
    (λ i. library.list_all (λ q. (exchanged (not (eqb q.handle p.handle)) (eqb q.at p.at) (not (in_buffers live a n q.at)) ∙ ap (λ b. eqb q.at p.at || not (eqb q.handle p.handle) || not b) (buffers-is live a n q.at)) i) (reverse t))
    ∙ every_in (λ q. eqb q.at p.at || not (eqb q.handle p.handle) || not (rules.in_buffers (live_in live) a n q.at)) page_of (reverse t)

pub no_twins-is : (t : List Page) (live : List Live) (a n : ℕ) → holds_no_twins t live a n ≡ rules.no_handle_twice (pages_in t) (live_in live) a n
unfolding rules.no_handle_twice
no_twins-is t live a n =
    (λ i. library.list_all (λ p. not (inside a n p.at) || alone-is t live a n p i) (reverse t))
    ∙ every_in (λ p. not (inside a n p.at) || rules.alone (pages_in t) (live_in live) a n p) page_of (reverse t)
