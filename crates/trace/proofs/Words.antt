-- What is computed of every word at once: the printer's rows are right, no word has more than `longest_word` letters, nor a tab or a line feed.
use mathlib.Core.Path.{◌≡◌, refl, ap}
use mathlib.Core.Bool.{Bool, true, false, ◌||◌, not}
use mathlib.Core.List.{List, [], ◌∷◌}
use Prim.Native.Nat.{ℕ, suc, ◌+◌, ◌-◌, ◌≤◌, ◌<◌}
use Rattle.std.specs.Prelude.{◌==◌, take_while}
use native.Mathlib.Omega.{arith}
use borrow.Author.Tests.{ne_eqb, not-true, leb-true}
use lib.Dec.{leb, eqb}
use lib.ListN.{get_or, take, drop, length, get_or-eq_default}
use Rattle.lists.specs.Tests.{All, every, same}
use Rattle.lists.proofs.Tests.{both}
use Rattle.lists.proofs.Every.{every-all}
use Rattle.lists.proofs.Pairs.{same-is}
use Rattle.trace.specs.Form.{words, word, last_kind}
use Rattle.trace.specs.Bounds.{longest_word}
use Rattle.trace.specs.declared.TheConstants.{WORDS}
use Rattle.trace.proofs.Cases.{each_below, below-passes, get_or-passes}

-- a test of each kind, and of 0, which has no letters
pub each-kind : (p : ℕ → Bool) → each_below p (last_kind + 1) ≡ true → (k : ℕ) → k ≤ last_kind → p k ≡ true
each-kind p t k h = below-passes p (last_kind + 1) k t (omega arith)

-- a test of each word, and of no letters
pub each_word : (p : List ℕ → Bool) → every p ([] ∷ words) ≡ true → (k : ℕ) → p (word k) ≡ true
unfolding word
each_word p t k = get_or-passes p ([] ∷ words) k [] t (both (p []) (every p words) t).0

pub no_word : (k : ℕ) → last_kind < k → word k ≡ []
unfolding word
no_word k h = get_or-eq_default ([] ∷ words) [] h

pub word-from-one : (k : ℕ) → 1 ≤ k → word k ≡ get_or words (k - 1) []
unfolding word
word-from-one k h = let e : k ≡ suc (k - 1) = omega arith in ap (λ (n : ℕ). get_or ([] ∷ words) n []) e

pub length-word : (k : ℕ) → length (word k) ≤ longest_word
length-word k = leb-true (length (word k)) longest_word (each_word (λ w. leb (length w) longest_word) refl k)

-- no word has a tab or a line feed
pub word-plain : (k : ℕ) → All (λ b. (eqb b 9 || eqb b 10) ≡ false) (word k)
word-plain k =
    every-all (λ b. not (eqb b 9 || eqb b 10)) (λ b. (eqb b 9 || eqb b 10) ≡ false) (λ b. not-true (eqb b 9 || eqb b 10)) (word k)
    (each_word (every (λ b. not (eqb b 9 || eqb b 10))) refl k)

-- the table of the code: behind its zeros, a row is the word of its kind
abbrev word_in : List ℕ → List ℕ
word_in row = let zeros = length (take_while (λ b. b == 0) row) in take (16 - zeros) (drop zeros row)

pub row-word : (k : ℕ) → 1 ≤ k → k ≤ last_kind → word_in (get_or WORDS (k - 1) []) ≡ word k
unfolding word
row-word k g h =
    let t = each-kind (λ n. eqb n 0 || same (word_in (get_or WORDS (n - 1) [])) (word n)) refl k h in
    same-is _ _ (rw (ne_eqb k 0 (omega arith)) at t)
