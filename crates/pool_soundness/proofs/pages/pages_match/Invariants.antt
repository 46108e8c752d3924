use mathlib.Core.Path.{◌≡◌}
use mathlib.Core.List.{◌++◌, map}
use Prim.Native.Nat.{ℕ, ◌+◌, ◌*◌, ◌≤◌}
use lib.ListN.{drop}
use Rattle.lists.specs.Tests.{All, same}
use Rattle.tables.specs.Bounds.{END}
use Rattle.tables.specs.Values.{tables_of}
use Rattle.tables.specs.Pull.{starts}
use Rattle.tables.specs.WellFormed.{pages_match}
use Rattle.tables.specs.declared.Page.{Page}
use Rattle.keeping.proofs.PageStarts.{page_starts}
use Rattle.pool_soundness.specs.Walks.{Ordered, left_of}
use Rattle.pool_soundness.proofs.PageWalk.{Spanned}
use Rattle.pool_soundness.proofs.pages.pages_match.Given as goal

abbrev at-start : Page → ℕ
at-start g = g.start.0

-- the pages left match the starts left, those of the span that the walk stands in first, then those of the spans left
abbrev pub invariant-loop-g : goal.invariant-loop-g
invariant-loop-g l =
    (Ordered l.spans × (All (Spanned l.pool.page) (left_of l.spans) × (l.at + l.left * l.pool.page ≤ END)))
    × (pages_match (tables_of l.pool) ≡ same (map at-start (drop l.g-index l.g-items)) (starts l.left l.at l.pool.page ++ page_starts l.pool.page (left_of l.spans)))
