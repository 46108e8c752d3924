-- Open: the configurations that it allows. It refuses every other one before its first step, so the code of the steps asks for one of these.
use Rattle.std.specs.Prelude.{ℕ, ◌*◌, ◌≤◌, ◌<◌}
use Rattle.keeping.specs.Sound.{Whole}
use Rattle.tables.specs.Bounds.{PAGES, VA}

-- the page size, va_size and the initial pages as open allows them
pub record Configured (page va initial : ℕ) : Type 0 where
  pub positive : 0 < page
  pub whole : Whole page va
  pub small : va ≤ VA
  pub few : initial ≤ PAGES
  pub fits : initial * page ≤ va
