-- `manager::closing::close_pool` meets its contract: the pool's answers begin behind those of the small buffers, or at the end.
use mathlib.Core.Path.{ap, ◌∙◌}
use mathlib.Core.List.{List}
use Prim.Native.Nat.{◌*◌, min}
use lib.ListN.{length}
use Rattle.manager_rules.specs.declared.SmallBuffer.{SmallBuffer}
use Rattle.manager.proofs.Closes.{pool-closes}
use Rattle.manager.proofs.closing.close_pool.Goals as goal

pub returns : goal.returns
returns c =
    let xs = c.args.answers.now in
    pool-closes c.args.m.now.pool _ c.min-from.result xs _ _ _
    (c.min-from.ensures ∙ ap (λ (l : List SmallBuffer). min (2 * length l) (length xs)) c.entries-small.ensures) c.close.ensures
