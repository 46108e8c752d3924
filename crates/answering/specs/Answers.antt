-- docs/RULES.md 4.1: the numbers that each call can answer.
use Rattle.std.specs.Prelude.{Bool, List, [], ◌∷◌, ℕ}
use Rattle.lists.specs.Tests.{any}
use Rattle.tables.specs.Outcomes.{is}
use Rattle.tables.specs.Calls.{Call, mallocs, frees, closes}
use Rattle.tables.specs.declared.Outcome.{Outcome}

-- 8 to 11 are malloc's: open makes its initial pages without those tests.
abbrev pub open_numbers : List ℕ
open_numbers = 0 ∷ 4 ∷ 12 ∷ 13 ∷ 14 ∷ 15 ∷ 17 ∷ 19 ∷ []

-- All but 16, free's, and 19, open's.
abbrev pub malloc_numbers : List ℕ
malloc_numbers = 0 ∷ 1 ∷ 2 ∷ 3 ∷ 4 ∷ 5 ∷ 6 ∷ 7 ∷ 8 ∷ 9 ∷ 10 ∷ 11 ∷ 12 ∷ 13 ∷ 14 ∷ 15 ∷ 17 ∷ []

-- Beside the tests at entry: 14 where its record fails.
abbrev pub free_numbers : List ℕ
free_numbers = 0 ∷ 1 ∷ 2 ∷ 3 ∷ 4 ∷ 5 ∷ 14 ∷ 16 ∷ 17 ∷ []

-- A stopped pool may be closed: no 2. No failure ends a close: no 14.
abbrev pub close_numbers : List ℕ
close_numbers = 0 ∷ 1 ∷ 3 ∷ 4 ∷ 17 ∷ []

abbrev pub numbers_of : Call → List ℕ
numbers_of (mallocs n s) = malloc_numbers
numbers_of (frees a) = free_numbers
numbers_of closes = close_numbers

-- the outcome's number is one of the list
abbrev pub among : List ℕ → Outcome → Bool
among l o = any (λ n. is n o) l
