-- docs/RULES.md 6.5: an input and its lines. An empty input has none; a last line without its line feed counts.
use Rattle.std.specs.Prelude.{cond, List, [], ◌∷◌, map, ℕ, eqb}
use Rattle.trace.specs.Reads.{onto, reading}
use Rattle.trace.specs.declared.Reading.{Reading}

-- the bytes of each line, without their line feeds
abbrev pub rows : List ℕ → List (List ℕ)
rows [] = []
rows (b ∷ l) = cond (eqb b 10) ([] ∷ rows l) (onto b (rows l))

-- what an input says, line by line
unfoldable pub lines_of : List ℕ → List Reading
lines_of input = map reading (rows input)
