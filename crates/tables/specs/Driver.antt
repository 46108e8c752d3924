-- docs/RULES.md 2: a driver call takes the next answer and leaves a record.
use Rattle.std.specs.Prelude.{Bool, cond, [], ◌∷◌, ℕ}
use Rattle.words.specs.Words
use Rattle.words.specs.Answers.{lent, code_of, value_of, failed, complete}
use Rattle.words.specs.declared.Record.{Record}
use Rattle.words.specs.declared.Answer.{Answer}
use Rattle.words.specs.declared.Answer.TheVariants.{Done, Failed, Missing}
use Rattle.tables.specs.Steps.{Ending, on, ends, Step, Act, went, ◌>>=◌, ◌>>◌, give, nothing, end_if}
use Rattle.tables.specs.declared.Outcome.TheVariants.{DriverFailed, AnswersRanOut}

-- 17 where no answer is left.
abbrev pub heard : Answer → Ending Answer
heard (Done v) = on (Done v)
heard (Failed c) = on (Failed c)
heard Missing = ends AnswersRanOut

-- A driver call, by the record that it leaves for an answer; a missing one leaves 0 in its place (docs/RULES.md 2.5).
abbrev pub driver : (Answer → Record) → Step Answer
driver row = λ xs k t. let x = lent xs k in went (heard x) t (row x ∷ [])

unfoldable pub reserve : ℕ → Step Answer
reserve va = driver (λ x. Words.reserve (value_of x) va (code_of x))

unfoldable pub create : ℕ → Step Answer
create page = driver (λ x. Words.create (value_of x) page (code_of x))

unfoldable pub map : ℕ → ℕ → Step Answer
map a h = driver (λ x. Words.map a h (code_of x))

unfoldable pub access : ℕ → ℕ → Step Answer
access a n = driver (λ x. Words.access a n (code_of x))

unfoldable pub unmap : ℕ → ℕ → Step Answer
unmap a n = driver (λ x. Words.unmap a n (code_of x))

unfoldable pub release : ℕ → Step Answer
release h = driver (λ x. Words.release h 0 (code_of x))

unfoldable pub record_event : ℕ → ℕ → Step Answer
record_event id s = driver (λ x. Words.recorded id s (code_of x))

unfoldable pub ask : ℕ → Step Answer
ask id = driver (λ x. Words.asked id (cond (complete x) 1 0) (code_of x))

unfoldable pub wait : ℕ → ℕ → Step Answer
wait id s = driver (λ x. Words.wait id s (code_of x))

unfoldable pub sync : ℕ → Step Answer
sync s = driver (λ x. Words.sync s 0 (code_of x))

unfoldable pub giveback : ℕ → ℕ → Step Answer
giveback a va = driver (λ x. Words.giveback a va (code_of x))

-- A failure ends the call with 14.
abbrev pub must : Step Answer → Act
must m = do
  x ← m
  end_if (failed x) (DriverFailed (code_of x))

-- a failure is passed over
abbrev pub try : Step Answer → Act
try m = m >> nothing

-- a failure says that it is not complete
abbrev pub is_complete : ℕ → Step Bool
is_complete id = do
  x ← ask id
  give (complete x)
