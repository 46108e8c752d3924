-- The number that a word's letters are in base 256 leads to the word's kind, and no other number to any.
use mathlib.Core.Path.{◌≡◌, refl, sym, ap, ◌∙◌}
use mathlib.Core.Bool.{Bool, true, false, cond, not}
use mathlib.Core.List.{List, [], ◌∷◌, map}
use Prim.Native.Nat.{ℕ, suc, ◌+◌, ◌-◌, ◌^◌, ◌≤◌}
use native.Mathlib.Omega.{arith}
use borrow.Author.Tests.{lt-ltb, le-ltb, ne_eqb, eqb-true, eqb-false, ltb-true, ltb-false}
use lib.Dec.{ltb, eqb}
use lib.ListN.{length, get_or, get_or-map, length-map}
use Rattle.std.specs.Prelude.{Option, Some, None, position}
use Rattle.std.specs.Option.{option_map}
use Rattle.std.specs.List.{position_or_len}
use Rattle.std.specs.Int.{from_be_bytes, w128}
use Rattle.trace.specs.Form.{words, word, last_kind}
use Rattle.trace.specs.Reads.{counted}
use Rattle.trace.specs.Machine.{packed, codes, known, fitting, kind_of}
use Rattle.trace.specs.declared.TheConstants.{WORDS}
use Rattle.trace.proofs.Cases.{by-test, on}
use Rattle.trace.proofs.Counted.{counted-within, counted-passes}
use Rattle.trace.proofs.Words.{word-from-one}

pub kind_of-within : (n : ℕ) → (kind_of n ≡ 0 → ⊥) → (1 ≤ kind_of n) × (kind_of n ≤ last_kind)
unfolding kind_of
kind_of-within n h = let r = counted-within (eqb n) 1 codes h in omega arith

kind_of-at : (n : ℕ) → (kind_of n ≡ 0 → ⊥) → n ≡ get_or codes (kind_of n - 1) 0
unfolding kind_of
kind_of-at n h = eqb-true n (get_or codes (kind_of n - 1) 0) (counted-passes (eqb n) 1 codes 0 h)

pub kind_of-code : (n : ℕ) → (kind_of n ≡ 0 → ⊥) → n ≡ packed 0 (word (kind_of n))
kind_of-code n h =
    let k = kind_of n in
    kind_of-at n h
    ∙ get_or-map (packed 0) words (k - 1) []
    ∙ ap (packed 0) (sym (word-from-one k (kind_of-within n h).0))

ltb-more : (n m : ℕ) → ltb (1 + n) (suc m) ≡ ltb n m
ltb-more n m = go (ltb n m) refl
  where
    go : (t : Bool) → ltb n m ≡ t → ltb (1 + n) (suc m) ≡ t
    go true e = lt-ltb (1 + n) (suc m) (omega (arith, ltb-true n m e))
    go false e = le-ltb (1 + n) (suc m) (omega (arith, ltb-false n m e))

-- what is counted stands at the first place that passes
counted-place : {A : Type 0} (p : A → Bool) (i : ℕ) (xs : List A)
    → counted p i xs ≡ cond (ltb (position_or_len p xs) (length xs)) (i + position_or_len p xs) 0
counted-place p i [] = refl
counted-place p i (x ∷ xs) =
    let n = position_or_len p xs in
    on (λ t. cond t i (counted p (i + 1) xs) ≡ cond (ltb (cond (not t) (1 + n) 0) (suc (length xs))) (i + cond (not t) (1 + n) 0) 0) (p x)
    (rw (lt-ltb 0 (suc (length xs)) (omega arith)) (omega arith))
    (rw ltb-more (counted-place p (i + 1) xs ∙ ap (λ (k : ℕ). cond (ltb n (length xs)) k 0) (omega arith)))

pub known-Some : {k n : ℕ} → Some k ≡ known n → (n ≡ k) × (k ≡ 0 → ⊥)
known-Some {k} {n} e =
    by-test (λ r. Some k ≡ r → (n ≡ k) × (k ≡ 0 → ⊥)) (eqb n 0)
    (λ t g. absurd (let z : ◌≡◌ {A = ℕ} 0 1 = cc in omega arith))
    (λ t g. let is : n ≡ k = cc in let some = eqb-false n 0 t in (is, λ z. omega (arith, some)))
    e

pub known-None : {n : ℕ} → None ≡ known n → n ≡ 0
known-None {n} e =
    by-test (λ r. None ≡ r → n ≡ 0) (eqb n 0) (λ t g. eqb-true n 0 t) (λ t g. absurd (let z : ◌≡◌ {A = ℕ} 0 1 = cc in omega arith)) e

pub fitting-Some : {k n : ℕ} → Some k ≡ fitting n → (n ≡ k) × (ltb k (2 ^ 64) ≡ true)
fitting-Some {k} {n} e =
    by-test (λ r. Some k ≡ r → (n ≡ k) × (ltb k (2 ^ 64) ≡ true)) (ltb n (2 ^ 64))
    (λ t g. let is : n ≡ k = cc in (is, rw is at t))
    (λ t g. absurd (let z : ◌≡◌ {A = ℕ} 0 1 = cc in omega arith))
    e

pub fitting-None : (n : ℕ) → None ≡ fitting n → ltb n (2 ^ 64) ≡ false
fitting-None n e =
    by-test (λ r. None ≡ r → ltb n (2 ^ 64) ≡ false) (ltb n (2 ^ 64)) (λ t g. absurd (let z : ◌≡◌ {A = ℕ} 0 1 = cc in omega arith)) (λ t g. t) e

-- the rows of the code's table are the codes
rows : map (from_be_bytes w128) WORDS ≡ codes
rows = refl

place-map : {A B : Type 0} (p : B → Bool) (f : A → B) (xs : List A) → position_or_len (λ x. p (f x)) xs ≡ position_or_len p (map f xs)
place-map p f [] = refl
place-map p f (x ∷ xs) = ap (λ (n : ℕ). cond (not (p (f x))) (1 + n) 0) (place-map p f xs)

position-map : {A B : Type 0} (p : B → Bool) (f : A → B) (xs : List A) → position (λ x. p (f x)) xs ≡ position p (map f xs)
position-map p f xs = rw (place-map p f xs, ← length-map xs f)

counted-position : {A : Type 0} (p : A → Bool) (xs : List A) → option_map (λ k. k + 1) (position p xs) ≡ known (counted p 1 xs)
counted-position p xs =
    let n = position_or_len p xs in
    rw counted-place
    (on (λ t. option_map (λ k. k + 1) (cond t (Some n) None) ≡ known (cond t (1 + n) 0)) (ltb n (length xs))
    (simp (ne_eqb (1 + n) 0 (omega arith)) (ap Some (omega arith)))
    refl)

pub known_placed : (n : ℕ) (r : Option ℕ) → r ≡ position (λ row. eqb n (from_be_bytes w128 row)) WORDS → option_map (λ k. k + 1) r ≡ known (kind_of n)
unfolding kind_of
known_placed n r e =
    ap (option_map (λ k. k + 1)) (e ∙ position-map (eqb n) (from_be_bytes w128) WORDS ∙ ap (position (eqb n)) rows) ∙ counted-position (eqb n) codes
