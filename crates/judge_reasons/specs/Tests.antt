-- Tests of the tables' rows, the newest first: a page is mapped to a handle, a live buffer starts here, and is of this size.
use Rattle.std.specs.Prelude.{Bool, ◌&&◌, List, ℕ, eqb, reverse}
use Rattle.std.specs.List.{list_any}
use Rattle.judge_tables.specs.declared.rows.Page.{Page}
use Rattle.judge_tables.specs.declared.rows.Live.{Live}

abbrev pub maps_to : List Page → ℕ → ℕ → Bool
maps_to t at handle = list_any (λ p. eqb p.at at && eqb p.handle handle) (reverse t)

abbrev pub has_start : List Live → ℕ → Bool
has_start t start = list_any (λ b. eqb b.start start) (reverse t)

abbrev pub has_size : List Live → ℕ → ℕ → Bool
has_size t start size = list_any (λ b. eqb b.start start && eqb b.size size) (reverse t)
