-- What the code needs and leaves, by how its calls ended: a pool with no tables is kept, its root's hole has room for the initial pages.
use mathlib.Core.Path.{◌≡◌, refl, ap, ◌∙◌}
use mathlib.Core.Logic.{inl}
use Prim.Native.Nat.{ℕ, ◌+◌, ◌-◌, ◌*◌, ◌/◌, ◌<◌}
use native.Mathlib.Omega.{arith}
use Rattle.cells.specs.Table.{entries, pack}
use Rattle.std.specs.Prelude.{Ok, Err}
use Rattle.words.specs.declared.Address.{Address}
use Rattle.tables.specs.Bounds.{ROOTS}
use Rattle.tables.specs.Values.{Tables, Holes, Roots, tables_of, free_of, pack_free, pack_holes, pack_roots, opened, pool_of, no_tables}
use Rattle.tables.specs.Kept.{KeptHoles, KeptRoots, KeptPool}
use Rattle.tables.specs.Steps.{on, ends}
use Rattle.tables.specs.Driver.{must, sync}
use Rattle.tables.specs.TakeRange.{reserve_root}
use Rattle.tables.specs.MakeRoom.{missing, make_room}
use Rattle.tables.specs.Open.{open_steps}
use Rattle.tables.specs.declared.FreeRegion.{FreeRegion}
use Rattle.tables.specs.declared.Pool.{Pool}
use Rattle.tables.specs.declared.Outcome.{Outcome}
use Rattle.tables.specs.declared.Outcome.TheVariants.{Opened}
use Rattle.tables.proofs.Packs.{tables-pool}
use Rattle.keeping.specs.Sound.{none}
use Rattle.keeping.specs.MakeRoom.{TakesFrom}
use Rattle.keeping.specs.Open.{Configured}
use Rattle.keeping.proofs.TakeRange.{rooted, Reserved, reserves-root}
use Rattle.keeping.proofs.Open.{empty-kept, takes-from}
use Rattle.driving.specs.Ran.{Ran, Drove, stands}
use Rattle.driving.specs.Pools.{PoolRan}
use Rattle.driving.specs.declared.Driver.{Driver}
use Rattle.driving.proofs.Lent.{lent-then}
use Rattle.driving.proofs.Holds.{holds-ran}
use Rattle.driving.proofs.Pools.{pool-kept}
use Rattle.step_take_range.specs.Promises.{Takeable, Takes}
use Rattle.step_new_room.specs.Promises.{free_bytes, Roomable}
use Rattle.step_make_room.specs.Promises.{make_room_calls}
use Rattle.step_open.specs.Promises.{open_calls}
use Rattle.step_open.proofs.Ways.{root-stops, root-opens, room-stops, sync-stops, pages-open}

-- the pool with its root, where one was reserved
abbrev with_root : Holes → Roots → Pool → Pool
with_root h r p =
    record {
      state = p.state;
      page = p.page;
      va = p.va;
      counter = p.counter;
      free = p.free;
      live = p.live;
      holes = h;
      zombies = p.zombies;
      pages = p.pages;
      roots = r;
    }

-- `p` is an open pool with no tables
module _ {page va initial : ℕ} {p : Pool} (c : Configured page va initial) (bare : p ≡ pool_of opened (no_tables page va)) where
  tables_are : tables_of p ≡ no_tables page va
  tables_are = ap tables_of bare ∙ tables-pool opened (no_tables page va)

  kept : KeptPool p
  kept = rw bare (pool-kept opened (no_tables page va) (empty-kept page va initial c).ceilings)

  page-is : p.page ≡ page
  unfolding pool_of
  page-is = ap (λ q. q.page) bare

  va-is : p.va ≡ va
  unfolding pool_of
  va-is = ap (λ q. q.va) bare

  first_id : p.counter ≡ 0
  unfolding pool_of
  first_id = ap (λ q. q.counter) bare

  no_holes : p.holes.count ≡ 0
  unfolding pool_of pack
  no_holes = ap (λ q. q.holes.count) bare

  no-roots : p.roots.count ≡ 0
  unfolding pool_of pack
  no-roots = ap (λ q. q.roots.count) bare

  nothing-free : free_bytes p ≡ 0
  unfolding pool_of pack entries
  nothing-free = ap free_bytes bare

  -- What `reserve_root` needs.
  pub takeable : Takeable page va 0 p.holes p.roots
  unfolding tables_of
  takeable =
      record {
        holes = kept.holes;
        roots = kept.roots;
        lost = none;
        around = tables_of p;
        kept = rw tables_are (empty-kept page va initial c);
        page_is = page-is;
        va_is = va-is;
        fits = omega arith;
        room = omega (arith, no_holes);
      }

  pub root-fits : p.roots.count < ROOTS
  root-fits = omega (arith, no-roots)

  with-root-kept : {h : Holes} {r : Roots} → KeptHoles h → KeptRoots r → KeptPool (with_root h r p)
  with-root-kept holes roots =
      record {
        free = kept.free;
        live = kept.live;
        holes = holes;
        zombies = kept.zombies;
        pages = kept.pages;
        roots = roots;
      }

  -- the root was asked for: `h` and `r` are the holes and the roots then, and the driver stands at `d₁`
  module _ {d d₁ : Driver} {h : Holes} {r : Roots} (stream : ℕ) where
    -- there is no root
    pub root-stopped : {o : Outcome} → Takes (reserve_root 0) page va d p.holes p.roots (Err o) d₁ h r →
        PoolRan (open_steps initial stream) open_calls d p (ends o) d₁ (with_root h r p)
    unfolding tables_of
    root-stopped w =
        record {
          lent = w.lent;
          ran = root-stops initial stream (w.ran (tables_of p) page-is va-is);
          kept = with-root-kept w.holes w.roots;
          state = refl;
          most = omega (arith, w.most);
        }

    module _ {b : Address} (w : Takes (reserve_root 0) page va d p.holes p.roots (Ok b) d₁ h r) where
      on-ran : Ran (reserve_root 0) d.answers.now (stands d (tables_of p)) (on b.0) (stands d₁ (tables_of (with_root h r p)))
      unfolding tables_of
      on-ran = w.ran (tables_of p) page-is va-is

      same-page : (tables_of (with_root h r p)).fields.page ≡ page
      unfolding tables_of
      same-page = page-is

      -- the root is all that was asked for
      pub root_opened : initial ≡ 0 → PoolRan (open_steps initial stream) open_calls d p (on (Opened b page)) d₁ (with_root h r p)
      root_opened e =
          record {
            lent = w.lent;
            ran = root-opens initial stream page same-page on-ran e;
            kept = with-root-kept w.holes w.roots;
            state = refl;
            most = omega (arith, w.most);
          }

      -- initial pages are asked for
      module _ (some : 0 < initial) where
        reserved : Reserved none 0 (no_tables page va) b.0 (tables_of (with_root h r p))
        reserved =
            holds-ran (reserves-root none 0 (no_tables page va) (empty-kept page va initial c) (omega arith) (inl refl)) on-ran tables_are

        can-take : (x y : ℕ) (t : Tables) → x ≡ page → y ≡ 0 → t ≡ rooted 0 b.0 (no_tables page va) →
            TakesFrom none x y ((initial * page - y) / x) (initial * page) t
        can-take x y t a f e = rw (a, f, e) (takes-from page va initial c some b.0 (tables_of (with_root h r p)) reserved)

        all-missing : initial * page ≡ missing (initial * page) (tables_of (with_root h r p))
        unfolding tables_of
        all-missing = omega (arith, nothing-free)

        -- What `make_room` needs.
        pub roomable : Roomable (initial * page) (initial * page) (with_root h r p)
        roomable =
            record {
              kept = with-root-kept w.holes w.roots;
              ids = omega (arith, first_id);
              lost = none;
              takes = can-take p.page (free_bytes p) (tables_of (with_root h r p)) page-is nothing-free reserved.tables;
              lacks = all-missing;
            }

        -- the pages were asked for
        module _ {d₂ : Driver} {q : Pool} where
          pub room-stopped : {o : Outcome} → PoolRan (make_room (initial * page) stream) make_room_calls d₁ (with_root h r p) (ends o) d₂ q →
              PoolRan (open_steps initial stream) open_calls d p (ends o) d₂ q
          room-stopped v =
              record {
                lent = lent-then w.lent v.lent;
                ran = room-stops initial stream page same-page on-ran some (rw w.lent.answers at v.ran);
                kept = v.kept;
                state = v.state;
                most = omega (arith, v.most, w.most);
              }

          -- they were made, and the sync asked for
          module _ {a : FreeRegion} (v : PoolRan (make_room (initial * page) stream) make_room_calls d₁ (with_root h r p) (on a) d₂ q) {d₃ : Driver} where
            pub sync-stopped : {o : Outcome} → Drove (must (sync stream)) d₂ (ends o) d₃ → PoolRan (open_steps initial stream) open_calls d p (ends o) d₃ q
            sync-stopped y =
                record {
                  lent = lent-then w.lent (lent-then v.lent y.lent);
                  ran = sync-stops initial stream page same-page on-ran some (rw w.lent.answers at v.ran)
                      (rw (v.lent.answers, w.lent.answers) at (y.ran (tables_of q)));
                  kept = v.kept;
                  state = v.state;
                  most = omega (arith, v.most, w.most, y.made);
                }

            pub pages-opened : Drove (must (sync stream)) d₂ (on tt) d₃ → PoolRan (open_steps initial stream) open_calls d p (on (Opened b page)) d₃ q
            pages-opened y =
                record {
                  lent = lent-then w.lent (lent-then v.lent y.lent);
                  ran = pages-open initial stream page same-page on-ran some (rw w.lent.answers at v.ran)
                      (rw (v.lent.answers, w.lent.answers) at (y.ran (tables_of q)));
                  kept = v.kept;
                  state = v.state;
                  most = omega (arith, v.most, w.most, y.made);
                }
