-- How long the texts are.
use Rattle.std.specs.Prelude.{ℕ}

-- a text with its line feed, at the most
abbrev pub most_text : ℕ
most_text = 200
