-- The ways through malloc's steps, by where they end: each is what the callees walked, one after the other. What is sound after each step, which the
-- next leans on, is what the rules keep.
use mathlib.Core.Path.{◌≡◌, refl, ◌∙◌}
use mathlib.Core.Option.{some, none}
use Prim.Native.Nat.{ℕ, ◌+◌, ◌-◌, ◌*◌, ◌≤◌, ◌<◌}
use native.Mathlib.Omega.{arith}
use Rattle.tables.specs.Bounds.{SPANS, ZOMBIES}
use Rattle.tables.specs.Values.{tables_of, free_of, empty_region}
use Rattle.tables.specs.Kept.{KeptPool}
use Rattle.tables.specs.Steps.{on, ends}
use Rattle.tables.specs.Cleanup.{cleanup}
use Rattle.tables.specs.Fit.{fit}
use Rattle.tables.specs.Malloc.{or_room, malloc_steps}
use Rattle.tables.specs.declared.FreeRegion.{FreeRegion}
use Rattle.tables.specs.Values.{FreeRegions, LiveBuffers, Holes, Zombies}
use Rattle.words.specs.declared.Address.{Address}
use Rattle.cells.specs.Table.{Choice}
use Rattle.tables.specs.declared.Pool.{Pool}
use Rattle.std.specs.Prelude.{Result, Ok, Err, Some, None}
use Rattle.tables.specs.declared.Outcome.{Outcome}
use Rattle.tables.specs.declared.Outcome.TheVariants.{Allocated}
use Rattle.cells.proofs.Choices.{chosen-some, chosen_none, placed_at}
use Rattle.tables.proofs.Packs.{free-count}
use Rattle.keeping.proofs.Cleanup.{cleans_up}
use Rattle.keeping.proofs.Fit.{Fitting, fits}
use Rattle.keeping.proofs.Malloc.{losing, found as handing-found, begins-again}
use Rattle.driving.specs.Ran.{Ran, stands}
use Rattle.driving.specs.Endings.{ending}
use Rattle.driving.specs.Pools.{PoolRan}
use Rattle.driving.specs.declared.Driver.{Driver}
use Rattle.driving.proofs.Lent.{lent-then}
use Rattle.driving.proofs.Ran.{next, stop, gave}
use Rattle.driving.proofs.Holds.{holds-ran}
use Rattle.step_cleanup.specs.Promises.{Cleanable, CleansUp}
use Rattle.step_fit.specs.Promises.{Fittable, Fits, found_in}
use Rattle.regions.specs.Cutting.{region_at}
use Rattle.step_hand_over.specs.Promises.{Handable as CanHand, HandsOver}
use Rattle.step_new_room.specs.Promises.{free_bytes}
use Rattle.step_malloc.specs.Promises.{malloc_calls, Mallocable, RoomsOut}
use Rattle.step_malloc.proofs.Handing.{after, can-hand, handed_out}
use Rattle.step_malloc.proofs.Rooms.{size, fitting}

-- the pool `p`, with these tables
abbrev with-tables : FreeRegions → Zombies → Holes → Pool → Pool
with-tables f z h p =
    record {
      state = p.state;
      page = p.page;
      va = p.va;
      counter = p.counter;
      free = f;
      live = p.live;
      holes = h;
      zombies = z;
      pages = p.pages;
      roots = p.roots;
    }

module _ {n : ℕ} {p : Pool} (g : Mallocable n p) where
  pub cleanable : Cleanable p.zombies p.holes
  unfolding tables_of
  cleanable = record { zombies = g.tables.zombies; holes = g.tables.holes; lost = g.lost; around = tables_of p; kept = g.asked.0 }

  -- the zombies were asked: `z` and `h` are left
  module _ (s : ℕ) {d d₁ : Driver} {z : Zombies} {h : Holes} where
    walked : {r : Result (Unit {0}) Outcome} → CleansUp d p.zombies p.holes r d₁ z h → PoolRan cleanup (2 * ZOMBIES) d p (ending r) d₁ (with-tables p.free z h p)
    unfolding tables_of
    walked w =
        record {
          lent = w.lent;
          ran = w.ran (tables_of p);
          kept =
              record {
                free = g.tables.free;
                live = g.tables.live;
                holes = w.holes;
                zombies = w.zombies;
                pages = g.tables.pages;
                roots = g.tables.roots;
              };
          state = refl;
          most = omega (arith, w.most, g.tables.zombies.most);
        }

    pub cleanup-stops : {o : Outcome} → CleansUp d p.zombies p.holes (Err o) d₁ z h → PoolRan (malloc_steps n s) malloc_calls d p (ends o) d₁ (with-tables p.free z h p)
    unfolding malloc_steps
    cleanup-stops w =
        let v = walked w in
        record { lent = v.lent; ran = stop _ v.ran; kept = v.kept; state = refl; most = omega (arith, v.most) }

    -- cleanup went on
    module _ (w : CleansUp d p.zombies p.holes (Ok tt) d₁ z h) where
      cleaned_fitting : Fitting g.lost p.page (free_bytes p) (SPANS - 1) (tables_of (with-tables p.free z h p))
      cleaned_fitting = holds-ran (cleans_up g.lost p.page (free_bytes p) (SPANS - 1)) (walked w).ran (fitting g)

      pub fittable : Fittable p.free
      unfolding tables_of
      fittable = record { free = g.tables.free; rises = cleaned_fitting.0.sound.free_rises }

      -- a fit was looked for: `f` are left
      module _ {d₂ : Driver} {f : FreeRegions} where
        fit-ran : {r : Result Choice Outcome} → Fits (fit n s) d₁ p.free r d₂ f →
            Ran (fit n s) d.answers.now (stands d₁ (tables_of (with-tables p.free z h p))) (found_in (free_of f) (ending r)) (stands d₂ (tables_of (with-tables f z h p)))
        unfolding tables_of
        fit-ran v = rw w.lent.answers at (v.ran (tables_of (with-tables p.free z h p)))

        kept-left : {r : Result Choice Outcome} → Fits (fit n s) d₁ p.free r d₂ f → KeptPool (with-tables f z h p)
        kept-left v =
            let t = (walked w).kept in
            record { free = v.free; live = t.live; holes = t.holes; zombies = t.zombies; pages = t.pages; roots = t.roots }

        pub fit-made : {r : Result Choice Outcome} → Fits (fit n s) d₁ p.free r d₂ f → d₂.made ≤ d.made + 2 * ZOMBIES + SPANS
        fit-made v = omega (arith, v.most, w.most, g.tables.zombies.most, g.tables.free.most)

        pub fit-stops : {o : Outcome} → Fits (fit n s) d₁ p.free (Err o) d₂ f → PoolRan (malloc_steps n s) malloc_calls d p (ends o) d₂ (with-tables f z h p)
        unfolding malloc_steps
        fit-stops v =
            record {
              lent = lent-then w.lent v.lent;
              ran = next _ (walked w).ran (stop _ (fit-ran v));
              kept = kept-left v;
              state = refl;
              most = omega (arith, fit-made v);
            }

        -- nothing fits
        module _ (v : Fits (fit n s) d₁ p.free (Ok None) d₂ f) where
          none_found : Ran (fit n s) d.answers.now (stands d₁ (tables_of (with-tables p.free z h p))) (on none) (stands d₂ (tables_of (with-tables f z h p)))
          none_found = rw (chosen_none empty_region (free_of f) None _ refl refl) at (fit-ran v)

          pub still-mallocable : Mallocable n (with-tables f z h p)
          still-mallocable =
              record {
                tables = kept-left v;
                ids = g.ids;
                lost = g.lost;
                asked =
                    begins-again g.lost p.page (free_bytes p) n (tables_of (with-tables f z h p)) (size g)
                    (holds-ran (fits g.lost p.page (free_bytes p) (SPANS - 1) n s) none_found cleaned_fitting);
              }

          pub roomed_out : (r : Result Outcome Outcome) {d₃ : Driver} {q : Pool} → RoomsOut n s d₂ (with-tables f z h p) r d₃ q →
              PoolRan (malloc_steps n s) malloc_calls d p (ending r) d₃ q
          unfolding malloc_steps
          roomed_out r y =
              record {
                lent = lent-then w.lent (lent-then v.lent y.lent);
                ran = next _ (walked w).ran (next _ none_found (rw (v.lent.answers, w.lent.answers) at y.ran));
                kept = y.kept;
                state = y.state;
                most = omega (arith, y.most, fit-made v);
              }

        -- the region at the place `i` fits
        module _ {i : ℕ} (v : Fits (fit n s) d₁ p.free (Ok (Some i)) d₂ f) where
          some-found : Ran (fit n s) d.answers.now (stands d₁ (tables_of (with-tables p.free z h p))) (on (some (region_at f i))) (stands d₂ (tables_of (with-tables f z h p)))
          some-found = rw (chosen-some empty_region (free_of f) (Some i) _ refl i refl) at (fit-ran v)

          placed : i < f.count
          placed = omega (arith, placed_at (free_of f) (Some i) i v.placed refl, free-count f v.free)

          pub fit-handable : CanHand n i f p.live
          fit-handable =
              let x =
              handing-found g.lost p.page (free_bytes p) n s (size g) _ (tables_of (with-tables f z h p))
              (holds-ran (fits g.lost p.page (free_bytes p) (SPANS - 1) n s) some-found cleaned_fitting) in
              can-hand n i (with-tables f z h p) placed (record { tables = kept-left v; lost = losing g.lost x.0; due = x.1.1 })

          pub fit-handed : {start : Address} {f' : FreeRegions} {b' : LiveBuffers} → HandsOver n s i f p.live start f' b' →
              PoolRan (malloc_steps n s) malloc_calls d p (on (Allocated start n)) d₂ (after (with-tables f z h p) f' b')
          unfolding malloc_steps or_room
          fit-handed y =
              let q = (handed_out n s i (with-tables f z h p) (kept-left v) y).walked d₂ in
              record {
                lent = lent-then w.lent v.lent;
                ran = next _ (walked w).ran (next _ some-found (next _ gave (rw (v.lent.answers, w.lent.answers) at q.ran)));
                kept = q.kept;
                state = refl;
                most = omega (arith, fit-made v);
              }
