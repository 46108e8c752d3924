-- docs/RULES.md 8.6: the judge's own sizes: what it holds at a time, not what a trace has had.
use Rattle.std.specs.Prelude.{ℕ}

abbrev pub most_reservations : ℕ
most_reservations = 16

abbrev pub most_held : ℕ
most_held = 256

abbrev pub most_live : ℕ
most_live = 128

abbrev pub most_mapped : ℕ
most_mapped = 4096

-- What is too large, by the number that the verdict names it with.
abbrev pub too_many_reservations : ℕ
too_many_reservations = 1

abbrev pub too_many_held : ℕ
too_many_held = 2

abbrev pub too_many_live : ℕ
too_many_live = 3

abbrev pub too_many_mapped : ℕ
too_many_mapped = 4
