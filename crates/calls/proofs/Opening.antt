-- Open: refused, or what its steps need and what is handed back of them.
use mathlib.Core.Path.{◌≡◌, ap, ◌∙◌}
use mathlib.Core.Bool.{true, false, cond}
use mathlib.Core.List.{List}
use mathlib.Core.Logic.{⊎_elim}
use Prim.Native.Nat.{ℕ, ◌-◌, ◌*◌, ◌≤◌, ◌<◌, ◌^◌}
use native.Mathlib.Omega.{arith}
use native.Mathlib.Nat.{mul-le-mul, mod-eq_of_lt}
use borrow.Author.Tests.{eq-eqb, ne_eqb, ltb-false}
use lib.Dec.{ltb}
use lib.ListN.{length}
use Rattle.lists.proofs.Tests.{cases_lt}
use Rattle.std.specs.Prelude.{Ok, Err}
use Rattle.tables.specs.Bounds.{LOG, PAGES}
use Rattle.tables.specs.Values.{Tables, opened, stopped, tables_of, pool_of, no_tables, closed_pool}
use Rattle.tables.specs.Kept.{KeptPool}
use Rattle.tables.specs.Steps.{Ending, Step}
use Rattle.tables.specs.Outcomes.{is}
use Rattle.tables.specs.HandsBack.{Reply, refused, outcome_of}
use Rattle.tables.specs.Open.{page_size, open_steps, bad_configuration, open_finished, open_pool}
use Rattle.tables.specs.WellFormed.{allowed}
use Rattle.tables.specs.declared.Pool as tables
use Rattle.tables.specs.declared.Outcome.{Outcome}
use Rattle.tables.specs.declared.Outcome.TheVariants.{ShortLog, BadConfiguration}
use Rattle.tables.proofs.Packs.{roots-count}
use Rattle.keeping.specs.Open.{Configured}
use Rattle.keeping.proofs.WellFormedTests.{allowed_of}
use Rattle.keeping.proofs.Open.{configured}
use Rattle.driving.specs.Pools.{PoolRan}
use Rattle.driving.specs.declared.Driver.{Driver}
use Rattle.driving.proofs.Ran.{log_is}
use Rattle.calls.specs.Promises.{Replies, called}
use Rattle.calls.specs.Leaving.{leaving_opened, leaving_short}
use Rattle.calls.specs.Refusing.{open_refused}
use Rattle.calls.specs.declared.Called.{Called}
use Rattle.calls.proofs.Left.{Begins, steps-ran}
use Rattle.calls.proofs.TwoTests.{tests-stop, tests-pass}

module _ (granularity override va initial stream : ℕ) (xs : List ℕ) (room : ℕ) where
  -- 4, 19
  pub open-refused : (o : Outcome) → open_refused granularity override va initial room ≡ Err o → (q : tables.Pool) → q ≡ closed_pool →
      open_pool granularity override va initial stream xs room ≡ refused q o
  unfolding open_pool
  open-refused o e q h = rw h (tests-stop closed_pool ShortLog BadConfiguration _ (ltb room LOG) (bad_configuration granularity override va initial) o e)

  module _ (e : open_refused granularity override va initial room ≡ Ok tt) (page : ℕ) (used : page ≡ page_size granularity override) where
    passed : (w : Reply) → (ltb room LOG ≡ false) × ((bad_configuration granularity override va initial ≡ false) ×
        (cond (ltb room LOG) (refused closed_pool ShortLog) (cond (bad_configuration granularity override va initial) (refused closed_pool BadConfiguration) w) ≡ w))
    passed w = tests-pass closed_pool ShortLog BadConfiguration w (ltb room LOG) (bad_configuration granularity override va initial) e

    pub open-goes : open_pool granularity override va initial stream xs room ≡
        open_finished (open_steps initial stream xs 0 (no_tables page va))
    unfolding open_pool
    open-goes = rw used (passed _).1.1

    pub open-room : LOG ≤ room
    open-room = ltb-false room LOG (passed (refused closed_pool ShortLog)).0

    pub open-configured : Configured page va initial
    open-configured = rw used (configured granularity override va initial (passed (refused closed_pool ShortLog)).1.0)

-- the size of initial pages is a number that the machine has
pub initial-fits : (page va initial : ℕ) → allowed page va ≡ true → initial ≤ PAGES → initial * page < 2 ^ 64
initial-fits page va initial e h =
    let w = allowed_of page va e in
    let whole = w.1.0 in
    let some : 0 < va = whole.positive in
    let least : page ≤ va =
    ⊎_elim (λ k. absurd (omega (arith, whole.aligned, mod-eq_of_lt {n = va} {m = page} k))) (λ k. k) (cases_lt va page) in
    omega (arith, mul-le-mul h least, w.1.1)

module _ (q : tables.Pool) (o : Outcome) (k : ℕ) where
  -- 17
  pub opened-short : is 17 o ≡ true → leaving_opened q o k ≡ leaving_short (record { value = closed_pool }) o k
  opened-short e = rw e

  module _ (e : is 17 o ≡ false) (kept : KeptPool q) where
    roots_are : q.roots.count ≡ length (tables_of q).roots
    unfolding tables_of
    roots_are = roots-count q.roots kept.roots

    pub opened-none : q.roots.count ≡ 0 →
        leaving_opened q o k ≡ record { pool = record { value = closed_pool }; outcome = o; records = k; taken = k }
    opened-none h =
        let n : length (tables_of q).roots ≡ 0 = omega (arith, h, roots_are) in
        rw (e, eq-eqb _ 0 n)

    pub opened_by : (q.roots.count ≡ 0 → ⊥) →
        leaving_opened q o k
        ≡ record { pool = record { value = pool_of (cond (is 0 o) opened stopped) (tables_of q) }; outcome = o; records = k; taken = k }
    opened_by h =
        let n : length (tables_of q).roots ≡ 0 → ⊥ = λ z. h (omega (arith, z, roots_are)) in
        rw (e, ne_eqb _ 0 n)

-- the steps went from no tables
module _ {m : Step Outcome} {bound : ℕ} {d d' : Driver} {q q' : tables.Pool} {e : Ending Outcome} {xs l : List ℕ} (t : Tables)
    (same : tables_of q ≡ t) (b : Begins d xs l) (c : PoolRan m bound d q e d' q') where
  opened-is : leaving_opened q' (outcome_of e) d'.made ≡ called (open_finished (m xs 0 t))
  unfolding open_finished
  opened-is =
      let r = steps-ran (record { value = q }) t same b c in
      let made : d'.made ≡ length r.records = omega (arith, r.made) in
      rw r.goes (ap (leaving_opened q' (outcome_of e)) made)

  pub replies-opened : {w : Reply} {r : Called} → w ≡ open_finished (m xs 0 t) → r ≡ leaving_opened q' (outcome_of e) d'.made → Replies w r l d'.log.now
  unfolding open_finished
  replies-opened h g = rw h record { answer = g ∙ opened-is; cells = log_is (steps-ran (record { value = q }) t same b c) }
