-- docs/RULES.md 12.1: opening is the pool's, over no small buffers.
use Rattle.std.specs.Prelude.{List, ℕ}
use Rattle.tables.specs.Open.{open_pool}
use Rattle.manager_rules.specs.Values.{over}
use Rattle.manager_rules.specs.HandsBack.{Reply, of_pool}

unfoldable pub open_manager : ℕ → ℕ → ℕ → ℕ → ℕ → List ℕ → ℕ → Reply
open_manager granularity override va initial stream xs log =
    let r = open_pool granularity override va initial stream xs log in
    of_pool (over r.pool) r
