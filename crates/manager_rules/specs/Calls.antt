-- A call of the layer is asked as one of the pool; its sizes are bytes.
use Rattle.std.specs.Prelude.{List, ℕ}
use Rattle.tables.specs.Calls.{Call, mallocs, frees, closes}
use Rattle.manager_rules.specs.HandsBack.{Reply}
use Rattle.manager_rules.specs.Malloc.{malloc}
use Rattle.manager_rules.specs.Free.{free}
use Rattle.manager_rules.specs.Close.{close}
use Rattle.manager_rules.specs.declared.Manager.{Manager}

-- Lent the answers `xs` and a log with room for `log` records.
abbrev pub answer : Manager → Call → List ℕ → ℕ → Reply
answer m (mallocs n s) xs log = malloc m n s xs log
answer m (frees a) xs log = free m a xs log
answer m closes xs log = close m xs log
