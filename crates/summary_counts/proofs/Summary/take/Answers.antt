-- `summary_counts::Summary::take` meets its contract: the judge's step, and where it goes on what is counted behind it.
use mathlib.Core.Path.{◌≡◌, ap, ◌∙◌}
use Prim.Native.Nat.{◌*◌, ◌≤◌}
use native.Mathlib.Omega.{arith}
use lib.ListN.{length}
use Rattle.lists.specs.Walks.{sum}
use Rattle.judge_rules.specs.Said.{said}
use Rattle.judge_rules.specs.Sizes.{most_live}
use Rattle.judge_rules.specs.Verdict.{on, judged}
use Rattle.judge_tables.specs.Rows.{live_in}
use Rattle.judge_steps.specs.State.{judge_of}
use Rattle.summary_counts.specs.Counts.{capped}
use Rattle.summary_counts.specs.declared.Standing.{Standing}
use Rattle.summary_counts.proofs.Told.{told}
use Rattle.summary_counts.proofs.Summary.take.Goals as goal

pub returns : goal.returns
returns c =
    let s = c.args.self.now in
    let z = c.step.new.self in
    let l = c.args.l in
    let r = c.standing_of-self in
    let e : on (judge_of z) ≡ judged (said l.kind) (judge_of s.state) l = c.in_ok-step.ensures.does in
    let maps : c.mapped_bytes-mapped.result ≡ capped (z.run.page * length z.mapped.items) =
    c.mapped_bytes-mapped.ensures ∙ ap (λ (x : Standing). capped (x.run.page * x.mapped)) r.ensures
    in
    let rows = c.as_slice.ensures in
    let few : length z.live.items ≤ most_live = rw (← rows.value) rows.fits in
    let lives : c.live_bytes-live.result ≡ capped (sum (λ b. b.size) (live_in z.live.items)) =
    c.live_bytes-live.ensures ∙ ap (λ t. capped (sum (λ b. b.size) (live_in t))) rows.value
    in
    record {
      lines = omega (arith, c.count.ensures.lines);
      judged = e;
      standing = r.ensures;
      tells = told s _ l e few _ _ lives maps c.count.ensures c.hand_over.ensures;
      stays = tt;
    }
