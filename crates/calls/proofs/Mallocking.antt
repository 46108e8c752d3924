-- Malloc, once it is admitted: refused for its size, or what its steps need.
use mathlib.Core.Path.{◌≡◌, ◌∙◌}
use mathlib.Core.Bool.{◌||◌, not}
use mathlib.Core.List.{List}
use Prim.Native.Nat.{ℕ, ◌+◌, ◌≤◌, ◌<◌, ◌%◌}
use native.Mathlib.Omega.{arith}
use borrow.Author.Tests.{eqb-true, eqb-false, leb-false, not-false}
use lib.Dec.{leb, eqb}
use Rattle.lists.proofs.Tests.{both, neither}
use Rattle.tables.specs.Bounds.{SPANS}
use Rattle.tables.specs.Values.{opened, at_entry, pool_of}
use Rattle.tables.specs.HandsBack.{refused, finished}
use Rattle.tables.specs.Malloc.{malloc_steps, malloc_by, malloc}
use Rattle.tables.specs.WellFormed.{ceilings_kept, well_formed}
use Rattle.tables.specs.declared.Pool.{Pool}
use Rattle.tables.specs.declared.Outcome.{Outcome}
use Rattle.tables.specs.declared.Outcome.TheVariants.{BadSize, SpansFull}
use Rattle.keeping.proofs.WellFormedEnters.{enters, entry-page, entry-spans}
use Rattle.std.specs.Prelude.{Ok, Err}
use Rattle.pool_soundness.proofs.Ceilings.{counted}
use Rattle.pool_entry.specs.Promises.{Admitted}
use Rattle.step_malloc.specs.Promises.{Mallocable}
use Rattle.calls.specs.Refusing.{size_refused}
use Rattle.calls.proofs.Reading.{read_kept, read-tables, read-counter}
use Rattle.calls.proofs.TwoTests.{tests-stop, tests-pass}

module _ (p : Pool) (room : ℕ) (a : Admitted p room) where
  pub page-some : 0 < p.page
  page-some = omega (arith, (enters p a.state a.form).kept.sound.page, entry-page p)

  -- the counts can be added
  pub spans-few : p.free.count + p.live.count ≤ SPANS
  unfolding well_formed
  spans-few = (counted p (both (ceilings_kept p) _ a.form).0).spans

  module _ (n s : ℕ) (xs : List ℕ) where
    -- 6, 7
    pub malloc-refused : (o : Outcome) → size_refused p.page (p.free.count + p.live.count) n ≡ Err o → malloc p n s xs room ≡ refused p o
    unfolding malloc_by
    malloc-refused o e =
        a.passes _
        ∙ tests-stop p (BadSize n) SpansFull _ (eqb n 0 || not (eqb (n % p.page) 0)) (leb SPANS (p.free.count + p.live.count)) o e

    module _ (e : size_refused p.page (p.free.count + p.live.count) n ≡ Ok tt) where
      pub malloc-goes : malloc p n s xs room ≡ finished p (malloc_steps n s xs 0 (at_entry p))
      unfolding malloc_by
      malloc-goes =
          a.passes _
          ∙ (tests-pass p (BadSize n) SpansFull _ (eqb n 0 || not (eqb (n % p.page) 0)) (leb SPANS (p.free.count + p.live.count)) e).1.1

  pub mallocable : (n : ℕ) → size_refused p.page (p.free.count + p.live.count) n ≡ Ok tt → (q : Pool) → q ≡ pool_of opened (at_entry p) → Mallocable n q
  mallocable n e q r =
      let spans = p.free.count + p.live.count in
      let d = enters p a.state a.form in
      let g = tests-pass p (BadSize n) SpansFull (refused p SpansFull) (eqb n 0 || not (eqb (n % p.page) 0)) (leb SPANS spans) e in
      let z = neither (eqb n 0) (not (eqb (n % p.page) 0)) g.0 in
      record {
        tables = read_kept p q opened r a.form;
        ids = omega (arith, a.ids, read-counter p q opened r);
        lost = d.lost;
        asked =
            rw (read-tables p q opened r) (
              d.kept,
              (
                rw (entry-page p)
                    (record { positive = omega (arith, eqb-false n 0 z.0); aligned = eqb-true (n % p.page) 0 (not-false (eqb (n % p.page) 0) z.1) }),
                omega (arith, leb-false SPANS spans g.1.0, entry-spans p),
              ),
            );
      }
