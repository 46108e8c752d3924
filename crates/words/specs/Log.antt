-- docs/RULES.md 2.4: what a log holds.
use Rattle.std.specs.Prelude.{List, [], ◌∷◌, ◌++◌, ℕ, ◌+◌, ◌*◌, length, take, drop}
use Rattle.words.specs.declared.Record.{Record}

-- the four numbers of each record, in a row
abbrev pub cells : List Record → List ℕ
cells [] = []
cells (r ∷ rs) = r.kind ∷ r.first ∷ r.second ∷ r.code ∷ cells rs

-- the log `l` after the records `rs` were written behind its first `made` records: every other cell is as it was
unfoldable pub written : List ℕ → ℕ → List Record → List ℕ
written l made rs = take (4 * made) l ++ (cells rs ++ drop (4 * (made + length rs)) l)
