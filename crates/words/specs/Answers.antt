-- docs/RULES.md 2.2, 2.3: the answers lent to a call, and what each says.
use Rattle.std.specs.Prelude.{Bool, true, false, cond, List, ℕ, ◌+◌, ◌*◌, ltb, eqb, length, get_or}
use Rattle.words.specs.declared.Answer.{Answer}
use Rattle.words.specs.declared.Answer.TheVariants.{Done, Failed, Missing}
use Rattle.words.specs.declared.Reader.{Reader}

-- The value counts only beside code 0, which is success.
unfoldable pub of_pair : ℕ → ℕ → Answer
of_pair code value = cond (eqb code 0) (Done value) (Failed code)

-- The answer to the driver call that comes after `made` others. An odd last number is no pair.
unfoldable pub lent : List ℕ → ℕ → Answer
lent xs made = cond (ltb (2 * made + 1) (length xs)) (of_pair (get_or xs (2 * made) 0) (get_or xs (2 * made + 1) 0)) Missing

-- The code of a record; 0 where the answer is missing (docs/RULES.md 2.5).
abbrev pub code_of : Answer → ℕ
code_of (Done v) = 0
code_of (Failed c) = c
code_of Missing = 0

-- The value that a record shows; 0 where the call failed or its answer is missing.
abbrev pub value_of : Answer → ℕ
value_of (Done v) = v
value_of (Failed c) = 0
value_of Missing = 0

abbrev pub failed : Answer → Bool
failed (Done v) = false
failed (Failed c) = true
failed Missing = false

-- code 0 with value 1, and nothing else
abbrev pub complete : Answer → Bool
complete x = eqb (value_of x) 1

-- How many answers are taken once the one after `taken` others is. Where none is left, none is taken.
unfoldable pub taken_after : List ℕ → ℕ → ℕ
taken_after xs taken = cond (ltb (2 * taken + 1) (length xs)) (taken + 1) taken

-- The reader behind the answer that it reads next.
abbrev pub moved_on : Reader → Reader
moved_on r = record { answers = r.answers; place = taken_after r.answers.now r.place }
