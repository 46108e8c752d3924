-- An input in chunks says what it says as a whole, wherever it is cut: the part of a line that is left says what the rest of the line needs.
use mathlib.Core.Path.{◌≡◌, refl, sym, ap, ◌∙◌}
use mathlib.Core.List.{List, [], ◌∷◌, ◌++◌, map}
use mathlib.Core.Bool.{false, cond, ◌&&◌}
use Prim.Native.Nat.{ℕ, ◌+◌, ◌-◌, ◌*◌, ◌^◌, ◌≤◌}
use native.Mathlib.Omega.{arith}
use borrow.Author.Tests.{ne_eqb, leb-true}
use lib.Dec.{ltb, leb, eqb}
use Rattle.lists.specs.Walks.{joined}
use Rattle.lists.proofs.Tests.{both}
use Rattle.trace.specs.Reads.{onto, is_digit, reading}
use Rattle.trace.specs.Lines.{rows, lines_of}
use Rattle.trace.specs.Machine.{is_letter, kind_of, parted, after_letters, after_tab, after_digits, fresh, is_fresh, after, run, line_at, read_line}
use Rattle.trace.specs.Chunks.{ending, lines_from, ended_in, left_of, chunked}
use Rattle.trace.specs.declared.Reading.{Reading}
use Rattle.trace.specs.declared.Before.{Before}
use Rattle.trace.specs.declared.Before.TheVariants.{Kind, First, Second}
use Rattle.trace.specs.declared.Partial.{Partial}
use Rattle.trace.specs.declared.Partial.TheVariants.{Letters, Tab, Digits, Broken}
use Rattle.trace.proofs.Cases.{by-test, on}
use Rattle.trace.proofs.Fields.{reading-is}

-- a line of which a byte was read has begun
begun_letters : (w b : ℕ) → is_fresh (after_letters w b) ≡ false
unfolding after_letters
begun_letters w b =
    by-test (λ p. is_fresh p ≡ false) (eqb b 9)
    (λ t. by-test (λ p. is_fresh p ≡ false) (eqb (kind_of w) 0) (λ u. refl) (λ u. refl))
    (λ t.
    by-test (λ p. is_fresh p ≡ false) (is_letter b && ltb w (2 ^ 120))
    (λ u.
    let is = both (leb 97 b) (leb b 122) (both (is_letter b) (ltb w (2 ^ 120)) u).0 in
    let above : 97 ≤ b = leb-true 97 b is.0 in
    ne_eqb (w * 256 + b) 0 (omega arith))
    (λ u. refl))

begun-parted : (f : Before) (n : ℕ) → is_fresh (parted f n) ≡ false
begun-parted (Kind k) n = refl
begun-parted (First k a) n = refl
begun-parted (Second k a b) n = refl

begun-line : (p : Partial) (b : ℕ) → is_fresh (after p b) ≡ false
unfolding after_tab after_digits
begun-line (Letters w) b = begun_letters w b
begun-line (Tab f) b = by-test (λ p. is_fresh p ≡ false) (is_digit b) (λ t. refl) (λ t. refl)
begun-line (Digits f n) b =
    by-test (λ p. is_fresh p ≡ false) (eqb b 9) (λ t. begun-parted f n)
    (λ t.
    by-test (λ p. is_fresh p ≡ false) (is_digit b)
    (λ u. by-test (λ p. is_fresh p ≡ false) (ltb 0 n && ltb (n * 10 + (b - 48)) (2 ^ 64)) (λ v. refl) (λ v. refl))
    (λ u. refl))
begun-line Broken b = refl

-- what lines say of which the first was begun
abbrev resumed : Partial → List (List ℕ) → List Reading
resumed p [] = ending p
resumed p (x ∷ xs) = line_at (run p x) ∷ map reading xs

resumed-fresh : (ls : List (List ℕ)) → resumed fresh ls ≡ map reading ls
unfolding read_line
resumed-fresh [] = refl
resumed-fresh (x ∷ xs) = ap (λ (r : Reading). r ∷ map reading xs) (sym (reading-is x))

resumed-onto : (p : Partial) (b : ℕ) (ls : List (List ℕ)) → resumed (after p b) ls ≡ resumed p (onto b ls)
resumed-onto p b [] = rw (begun-line p b)
resumed-onto p b (x ∷ xs) = refl

by_lines : (p : Partial) (l : List ℕ) → lines_from p l ≡ resumed p (rows l)
by_lines p [] = refl
by_lines p (b ∷ l) =
    on (λ t. cond t (line_at p ∷ lines_from fresh l) (lines_from (after p b) l) ≡ resumed p (cond t ([] ∷ rows l) (onto b (rows l)))) (eqb b 10)
    (ap (λ (x : List Reading). line_at p ∷ x) (by_lines fresh l ∙ resumed-fresh (rows l)))
    (by_lines (after p b) l ∙ resumed-onto p b (rows l))

-- byte by byte, an input says what its lines say
pub lines_from-fresh : (l : List ℕ) → lines_from fresh l ≡ lines_of l
unfolding lines_of
lines_from-fresh l = by_lines fresh l ∙ resumed-fresh (rows l)

-- a cut anywhere
pub lines_from-append : (p : Partial) (l m : List ℕ) → lines_from p (l ++ m) ≡ ended_in p l ++ lines_from (left_of p l) m
lines_from-append p [] m = refl
lines_from-append p (b ∷ l) m =
    on
    (λ t.
    cond t (line_at p ∷ lines_from fresh (l ++ m)) (lines_from (after p b) (l ++ m))
    ≡ cond t (line_at p ∷ ended_in fresh l) (ended_in (after p b) l) ++ lines_from (cond t (left_of fresh l) (left_of (after p b) l)) m)
    (eqb b 10)
    (ap (λ (x : List Reading). line_at p ∷ x) (lines_from-append fresh l m))
    (lines_from-append (after p b) l m)

pub left_of-append : (p : Partial) (l m : List ℕ) → left_of p (l ++ m) ≡ left_of (left_of p l) m
left_of-append p [] m = refl
left_of-append p (b ∷ l) m =
    on (λ t. cond t (left_of fresh (l ++ m)) (left_of (after p b) (l ++ m)) ≡ left_of (cond t (left_of fresh l) (left_of (after p b) l)) m) (eqb b 10)
    (left_of-append fresh l m)
    (left_of-append (after p b) l m)

pub ended_in-append : (p : Partial) (l m : List ℕ) → ended_in p (l ++ m) ≡ ended_in p l ++ ended_in (left_of p l) m
ended_in-append p [] m = refl
ended_in-append p (b ∷ l) m =
    on
    (λ t.
    cond t (line_at p ∷ ended_in fresh (l ++ m)) (ended_in (after p b) (l ++ m))
    ≡ cond t (line_at p ∷ ended_in fresh l) (ended_in (after p b) l) ++ ended_in (cond t (left_of fresh l) (left_of (after p b) l)) m)
    (eqb b 10)
    (ap (λ (x : List Reading). line_at p ∷ x) (ended_in-append fresh l m))
    (ended_in-append (after p b) l m)

pub chunked-is : (p : Partial) (cs : List (List ℕ)) → chunked p cs ≡ lines_from p (joined (λ c. c) cs)
chunked-is p [] = refl
chunked-is p (c ∷ cs) = ap (λ (x : List Reading). ended_in p c ++ x) (chunked-is (left_of p c) cs) ∙ sym (lines_from-append p c (joined (λ d. d) cs))

-- however an input is cut, chunk after chunk says what the whole says
pub any_chunks : (cs : List (List ℕ)) → chunked fresh cs ≡ lines_of (joined (λ c. c) cs)
any_chunks cs = chunked-is fresh cs ∙ lines_from-fresh (joined (λ c. c) cs)
