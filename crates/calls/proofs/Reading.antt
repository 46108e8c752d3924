-- The pool that a call read: its tables are kept, and those at entry.
use mathlib.Core.Path.{◌≡◌, ap, ◌∙◌}
use mathlib.Core.Bool.{true}
use Prim.Native.Nat.{ℕ}
use Rattle.lists.proofs.Tests.{both}
use Rattle.tables.specs.Values.{opened, tables_of, in_order, at_entry, pool_of}
use Rattle.tables.specs.Kept.{KeptPool}
use Rattle.tables.specs.WellFormed.{ceilings_kept, well_formed}
use Rattle.tables.specs.declared.Pool.{Pool}
use Rattle.tables.proofs.Packs.{tables-pool}
use Rattle.keeping.proofs.WellFormedEnters.{ceilings-read}
use Rattle.driving.proofs.Pools.{pool-kept}

-- so that it may be read
pub ceilings-of : (p : Pool) → well_formed p ≡ true → ceilings_kept p ≡ true
unfolding well_formed
ceilings-of p form = (both (ceilings_kept p) _ form).0

pub read_opened : (p q : Pool) → p.state ≡ opened → q ≡ pool_of p.state (at_entry p) → q ≡ pool_of opened (at_entry p)
read_opened p q o e = e ∙ ap (λ s. pool_of s (at_entry p)) o

module _ (p q : Pool) (s : ℕ) (e : q ≡ pool_of s (at_entry p)) where
  pub read_kept : well_formed p ≡ true → KeptPool q
  read_kept form = rw e (pool-kept s (at_entry p) (ceilings-read p (ceilings-of p form)))

  pub read-tables : tables_of q ≡ at_entry p
  read-tables = ap tables_of e ∙ tables-pool s (at_entry p)

  pub read-counter : q.counter ≡ p.counter
  unfolding pool_of tables_of in_order
  read-counter = ap (λ z. z.counter) e
