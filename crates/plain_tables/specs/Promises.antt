-- What the tables promise beside their rules.
use Rattle.std.specs.Prelude.{List, ℕ}
use Rattle.lists.specs.Order.{put, without}
use Rattle.tables.specs.Values.{page}
use Rattle.tables.specs.NewPages.{at}
use Rattle.tables.specs.Pull.{handle_at}
use Rattle.tables.specs.declared.Page.{Page}

-- the page at address `a` is active at `b` instead, with its handle
abbrev pub moved_page : ℕ → ℕ → List Page → List Page
moved_page a b l = put at (page b (handle_at a l)) (without at a l)
