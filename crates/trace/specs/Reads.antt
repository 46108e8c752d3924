-- docs/RULES.md 6.4: what a line says, or that it is malformed.
use Rattle.std.specs.Prelude.{Bool, true, false, cond, ◌&&◌, not, List, [], ◌∷◌, ℕ, ◌+◌, ◌-◌, ◌*◌, ◌^◌, ltb, leb, eqb}
use Rattle.lists.specs.Tests.{every, same}
use Rattle.trace.specs.Form.{words, line}
use Rattle.trace.specs.declared.Reading.{Reading}
use Rattle.trace.specs.declared.Reading.TheVariants.{Good, Malformed}

-- a byte onto the front of the first list; alone where there is none
abbrev pub onto : ℕ → List (List ℕ) → List (List ℕ)
onto b [] = (b ∷ []) ∷ []
onto b (l ∷ ls) = (b ∷ l) ∷ ls

-- what the tabs of a line part
abbrev pub fields : List ℕ → List (List ℕ)
fields [] = [] ∷ []
fields (b ∷ l) = cond (eqb b 9) ([] ∷ fields l) (onto b (fields l))

-- the number of the first that passes a test, in a list that is counted from `i`; 0 where none does
abbrev pub counted : {A : Type 0} → (A → Bool) → ℕ → List A → ℕ
counted p i [] = 0
counted p i (x ∷ xs) = cond (p x) i (counted p (i + 1) xs)

-- the kind of a word; 0 where it is none of the words
unfoldable pub kind : List ℕ → ℕ
kind w = counted (same w) 1 words

abbrev pub is_digit : ℕ → Bool
is_digit b = leb 48 b && leb b 57

-- the number that digits stand for, behind those of `n`
abbrev pub value : ℕ → List ℕ → ℕ
value n [] = n
value n (d ∷ ds) = value (n * 10 + (d - 48)) ds

-- a 0 in front of another digit
abbrev pub needless : List ℕ → Bool
needless [] = false
needless (d ∷ []) = false
needless (d ∷ e ∷ ds) = eqb d 48

abbrev pub is_empty : List ℕ → Bool
is_empty [] = true
is_empty (d ∷ ds) = false

-- the form of a number
unfoldable pub is_number : List ℕ → Bool
is_number ds = not (is_empty ds) && every is_digit ds && not (needless ds) && ltb (value 0 ds) (2 ^ 64)

-- the word and three numbers
abbrev pub of_fields : List (List ℕ) → Reading
of_fields [] = Malformed
of_fields (w ∷ []) = Malformed
of_fields (w ∷ a ∷ []) = Malformed
of_fields (w ∷ a ∷ b ∷ []) = Malformed
of_fields (w ∷ a ∷ b ∷ c ∷ []) =
    cond (ltb 0 (kind w) && is_number a && is_number b && is_number c)
    (Good (line (kind w) (value 0 a) (value 0 b) (value 0 c)))
    Malformed
of_fields (w ∷ a ∷ b ∷ c ∷ d ∷ more) = Malformed

-- what a line says, which is given without its line feed
unfoldable pub reading : List ℕ → Reading
reading bytes = of_fields (fields bytes)
