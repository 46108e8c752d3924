-- The driver calls that the code makes, by what their records hold.
use Rattle.std.specs.Prelude.{ℕ}
use Rattle.words.specs.Words.{line}
use Rattle.words.specs.Answers.{code_of, value_of}
use Rattle.words.specs.declared.Answer.{Answer}
use Rattle.words.specs.declared.Word.{Word}
use Rattle.tables.specs.Steps.{Step}
use Rattle.tables.specs.Driver.{driver}

-- its record is known but for its code
abbrev pub telling : Word → ℕ → ℕ → Step Answer
telling w a b = driver (λ x. line w a b (code_of x))

-- its first field is the answer's value
abbrev pub hearing : Word → ℕ → Step Answer
hearing w b = driver (λ x. line w (value_of x) b (code_of x))
