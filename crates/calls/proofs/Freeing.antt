-- Free, once it is admitted: what the search for the buffer says of the rule, and what the steps leave in the pool that was read.
use mathlib.Core.Path.{◌≡◌, ap, sym, ◌∙◌}
use mathlib.Core.List.{List}
use Prim.Native.Nat.{ℕ, ◌<◌}
use native.Mathlib.Omega.{arith}
use lib.Dec.{eqb}
use lib.ListN.{length, get_or}
use Rattle.lists.specs.Tests.{first}
use Rattle.tables.specs.Values.{FreeRegions, LiveBuffers, address, opened, live_of, tables_of, at_entry, pool_of, empty_buffer}
use Rattle.cells.specs.Table.{chosen, Placed}
use Rattle.tables.specs.HandsBack.{refused, finished}
use Rattle.tables.specs.Free.{free_steps, free_found, free}
use Rattle.tables.specs.declared.Pool.{Pool}
use Rattle.cells.specs.Table.{Choice}
use Rattle.std.specs.Prelude.{Result, Some, None}
use Rattle.tables.specs.declared.Outcome.{Outcome}
use Rattle.tables.specs.declared.Outcome.TheVariants.{InvalidPointer}
use Rattle.tables.proofs.Packs.{live-count}
use Rattle.keeping.proofs.WellFormedEnters.{enters}
use Rattle.pool_entry.specs.Promises.{Admitted}
use Rattle.driving.specs.Pools.{PoolRan}
use Rattle.driving.specs.Endings.{ending}
use Rattle.driving.specs.declared.Driver.{Driver}
use Rattle.step_free.specs.Promises.{Freeable, FreeRan, holding}
use Rattle.calls.proofs.Reading.{read_kept, read-tables, read-counter}

module _ (p : Pool) (room : ℕ) (a : Admitted p room) (q : Pool) (e : q ≡ pool_of opened (at_entry p)) where
  pub freeable : (i : ℕ) (c : Choice) → c ≡ Some i → Placed (live_of q.live) c → Freeable i q.live q.free q.counter
  unfolding Placed
  freeable i c h w =
      let d = enters p a.state a.form in
      let k = read_kept p q opened e a.form in
      let within : i < length (live_of q.live) = rw h at w in
      record {
        around = q;
        tables = k;
        lost = d.lost;
        kept = rw (read-tables p q opened e) d.kept;
        ids = omega (arith, a.ids, read-counter p q opened e);
        placed = omega (arith, within, live-count q.live k.live);
      }

  -- the steps, over the pool that was read
  pub steps-ran : {i : ℕ} {d d' : Driver} {r : Result Outcome Outcome} {b : LiveBuffers} {f : FreeRegions} {c : ℕ} →
      FreeRan i q.live q.free q.counter d r d' b f c → PoolRan (free_steps (get_or (live_of q.live) i empty_buffer)) 1 d q (ending r) d' (holding b f c q)
  steps-ran s = s.ran q (read_kept p q opened e a.form)

  module _ (start : ℕ) (xs : List ℕ) (c : Choice)
      (found : chosen empty_buffer (live_of q.live) c ≡ first (λ b. eqb b.start.0 start) (live_of q.live)) where
    searched : free p start xs room ≡ free_found p start xs (chosen empty_buffer (live_of q.live) c)
    unfolding free tables_of
    searched =
        a.passes _
        ∙ ap (λ l. free_found p start xs (first (λ b. eqb b.start.0 start) l)) (sym (ap (λ t. t.live) (read-tables p q opened e)))
        ∙ ap (free_found p start xs) (sym found)

    -- 16
    pub free-none : c ≡ None → free p start xs room ≡ refused p (InvalidPointer (address start))
    unfolding free_found chosen
    free-none h = searched ∙ ap (λ z. free_found p start xs (chosen empty_buffer (live_of q.live) z)) h

    pub free-some : (i : ℕ) → c ≡ Some i →
        free p start xs room ≡ finished p (free_steps (get_or (live_of q.live) i empty_buffer) xs 0 (at_entry p))
    unfolding free_found chosen
    free-some i h = searched ∙ ap (λ z. free_found p start xs (chosen empty_buffer (live_of q.live) z)) h
