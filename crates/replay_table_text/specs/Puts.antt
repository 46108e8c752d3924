-- Bytes put into a buffer, of which there are at most so many.
use Rattle.std.specs.Prelude.{List, ℕ, ◌+◌, ◌≤◌, length}
use Rattle.trace.specs.Put.{Put}
use Rattle.replay_table_text.specs.Tables.{entry}
use Rattle.replay_table_text.specs.Bounds.{longest_entry}

pub record Puts (most : ℕ) (out out' : List ℕ) (at r : ℕ) (bytes : List ℕ) : Type 0 where
  pub puts : Put out out' at r bytes
  pub next : r ≤ at + most

abbrev pub PutEntry : List ℕ → List ℕ → List ℕ → List ℕ → ℕ → ℕ → Type 0
PutEntry word numbers out out' at r = Puts (longest_entry (length word) (length numbers)) out out' at r (entry word numbers)
