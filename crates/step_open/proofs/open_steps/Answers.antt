-- `step_open::open_steps` meets its contract: a pool with no tables, in which the rule is walked.
use mathlib.Core.Path.{◌≡◌, ap, sym, ◌∙◌}
use Prim.Native.Nat.{ℕ}
use Rattle.tables.specs.Values.{opened, pool_of, no_tables}
use Rattle.tables.specs.declared.Pool.{Pool}
use Rattle.step_open.proofs.open_steps.Goals as goal

-- what an open pool with no tables says of itself
bare-is : {p : Pool} (page va : ℕ) → p ≡ pool_of opened (no_tables page va) → (p.page ≡ page) × (p.va ≡ va)
unfolding pool_of
bare-is page va e = (ap (λ q. q.page) e, ap (λ q. q.va) e)

pub open_in-ended-requires : goal.open_in-ended-requires
open_in-ended-requires c =
    let e = c.no_tables-pool.ensures in
    let b = bare-is c.args.page c.args.va e in
    record {
      configured = rw (b.0, b.1) c.requires;
      empty = e ∙ (λ i. pool_of opened (no_tables (sym b.0 i) (sym b.1 i)));
    }

pub returns : goal.returns
returns c = rw c.no_tables-pool.ensures at c.open_in-ended.ensures
