-- What the code that pulls regions into the range needs, and how many driver calls it makes.
use Rattle.std.specs.Prelude.{Option as Made, List, ℕ, ◌+◌, ◌*◌, ◌<◌}
use Rattle.words.specs.declared.Address.{Address}
use Rattle.tables.specs.Bounds.{END, PAGES, SPANS}
use Rattle.tables.specs.Values.{tables_of, free_of}
use Rattle.tables.specs.Kept.{KeptPool}
use Rattle.tables.specs.declared.FreeRegion.{FreeRegion}
use Rattle.tables.specs.declared.Pool.{Pool}
use Rattle.keeping.specs.Sound.{none, WholeRange}
use Rattle.keeping.specs.Pull.{Pulling, filling, order, Spare}
use Rattle.regions.specs.Pulling.{besides}
use Rattle.step_new_pages.specs.Promises.{room_of}
use Rattle.step_new_pages.specs.declared.Room.{Room}

-- The most driver calls of pulling in: each region is asked after and waited for, each page is mapped; then access and record.
abbrev pub pull_in_calls : ℕ
pull_in_calls = 2 * SPANS + PAGES + 2

-- The range of `lacks` bytes after the new pages is in hand, the regions besides the one just made can be pulled up to that, and a span is to spare.
pub record Fillable (o : Room) (made : Made Address) (lacks : ℕ) (p : Pool) : Type 0 where
  pub kept : KeptPool p
  pub ids : p.counter < END
  pub lost : ℕ → ℕ
  pub rest : ℕ → ℕ
  pub spans : ℕ
  pub keep : List FreeRegion
  pub range : WholeRange p.page (o.start.0 + o.missing) lacks
  pub spare : Spare lacks spans (besides made (free_of p.free))
  pub due : Pulling lost (filling rest lacks (room_of o)) none p.page lacks spans keep (order (besides made (free_of p.free)) (room_of o)) (tables_of p)
