use mathlib.Core.Path.{◌≡◌}
use Prim.Native.Nat.{◌-◌, ◌<◌, ◌^◌}
use Rattle.lists.specs.Tests.{every}
use Rattle.judge_rules.specs.Ranges.{pages_from}
use Rattle.judge_rules.specs.Rules.{is_mapped}
use Rattle.judge_tables.specs.Rows.{pages_in}
use Rattle.judge_tables.proofs.all_mapped.Given as goal

abbrev pub invariant-loop-i : goal.invariant-loop-i
invariant-loop-i l =
    (l.x < 2 ^ 64) × (every (is_mapped (pages_in l.mapped)) (pages_from l.page l.a l.k) ≡ every (is_mapped (pages_in l.mapped)) (pages_from l.page l.x (l.k - l.i)))
