-- `summary_counts::live_bytes` meets its contract: sizes added up, but for what is beyond the most.
use mathlib.Core.Path.{◌≡◌, ◌∙◌}
use mathlib.Core.List.{reverse}
use Prim.Native.Nat.{◌+◌}
use Rattle.std.proofs.Common.{rules, min}
use Rattle.std.proofs.iter.runs.Made.{chains}
use Rattle.std.specs.List.{fold}
use Rattle.judge_tables.specs.declared.rows.Live.{Live}
use Rattle.summary_counts.specs.Counts.{most_bytes}
use Rattle.summary_counts.proofs.Amounts.{total-live}
use Rattle.summary_counts.proofs.bytes.live_bytes.Goals as goal

pub returns : goal.returns
returns c =
    let t = c.args.live.now in
    let e : c.fold.result ≡ fold (λ total (b : Live). min (total + b.size) most_bytes) 0 (reverse t) = search (rules, chains) in
    e ∙ total-live t
