-- What every state of the judge is: within the sizes, and once opened of a page size that is not 0. Code asks it of a state.
use Rattle.std.specs.Prelude.{◌≡◌, true, ◌≤◌, ◌<◌, length}
use Rattle.judge_rules.specs.Rules.{Judge}
use Rattle.judge_rules.specs.Sizes.{most_reservations, most_held, most_live, most_mapped}

pub record InBounds (s : Judge) : Type 0 where
  pub reservations : length s.reservations ≤ most_reservations
  pub held : length s.held ≤ most_held
  pub mapped : length s.mapped ≤ most_mapped
  pub live : length s.live ≤ most_live
  pub page : s.run.opened ≡ true → 0 < s.run.page
