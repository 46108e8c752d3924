-- How many bytes the text of the tables can have.
use Rattle.std.specs.Prelude.{ℕ, ◌+◌, ◌*◌}
use Rattle.tables.specs.Bounds.{PAGES, SPANS, ZOMBIES, HOLES, ROOTS}
use Rattle.trace.specs.Bounds.{longest_field}

-- a word of so many letters, so many numbers behind tabs, a line feed
abbrev pub longest_entry : ℕ → ℕ → ℕ
longest_entry letters numbers = letters + longest_field * numbers + 1

abbrev pub longest_free : ℕ
longest_free = longest_entry 6 4

abbrev pub longest_live : ℕ
longest_live = longest_entry 6 3

abbrev pub longest_hole : ℕ
longest_hole = longest_entry 6 2

abbrev pub longest_zombie : ℕ
longest_zombie = longest_entry 8 3

abbrev pub longest_page : ℕ
longest_page = longest_entry 6 2

abbrev pub longest_root : ℕ
longest_root = longest_entry 6 1

-- every table full, and the counter
abbrev pub longest_tables : ℕ
longest_tables =
    longest_free * SPANS
    + longest_live * SPANS
    + longest_hole * HOLES
    + longest_zombie * ZOMBIES
    + longest_page * PAGES
    + longest_root * ROOTS
    + longest_entry 9 1
