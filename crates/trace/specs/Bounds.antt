-- How many bytes a printed line can have.
use Rattle.std.specs.Prelude.{ℕ, ◌+◌, ◌*◌}

-- of a trace's words, and of those that the programs print on their own
abbrev pub longest_word : ℕ
longest_word = 9

-- a tab and the twenty digits of 2^64 - 1
abbrev pub longest_field : ℕ
longest_field = 21

-- a word of so many letters, three fields, a line feed
abbrev pub longest_with : ℕ → ℕ
longest_with letters = letters + 3 * longest_field + 1

abbrev pub longest_line : ℕ
longest_line = longest_with longest_word
