-- What `insert_new` needs and leaves, by how its two calls ended.
use mathlib.Core.Path.{refl}
use mathlib.Core.List.{List}
use Prim.Native.Nat.{ℕ, ◌+◌, ◌≤◌, ◌<◌}
use native.Mathlib.Omega.{arith}
use borrow.Author.Tests.{ne_eqb}
use Rattle.std.specs.Prelude.{Result, Err}
use Rattle.words.specs.declared.Word.TheVariants.{Access}
use Rattle.tables.specs.Values.{FreeRegions, tables_of}
use Rattle.tables.specs.Steps.{Ending, ends, on}
use Rattle.tables.specs.Driver.{must, access}
use Rattle.tables.specs.InsertFree.{insert_free}
use Rattle.tables.specs.NewPages.{Room as Taken, insert_new}
use Rattle.tables.specs.declared.FreeRegion.{FreeRegion}
use Rattle.tables.specs.declared.Pool.{Pool}
use Rattle.tables.specs.declared.Outcome.{Outcome}
use Rattle.tables.proofs.Packs.{free-count}
use Rattle.keeping.proofs.Bounds.{inserting_bounds}
use Rattle.keeping.proofs.Fill.{made-inserting}
use Rattle.keeping.proofs.InsertFree.{insert-counts}
use Rattle.driving.specs.Ran.{Ran, Point, Drove, stands}
use Rattle.driving.specs.Endings.{ending}
use Rattle.driving.specs.Promises.{telling}
use Rattle.driving.specs.declared.Driver.{Driver}
use Rattle.driving.proofs.Lent.{lent-then}
use Rattle.driving.proofs.Ran.{next, stop, gave, passed}
use Rattle.driving.proofs.Holds.{holds-ran}
use Rattle.step_insert_free.specs.Promises.{Insertable as CanInsert, Inserts}
use Rattle.step_new_pages.specs.Promises.{room_of}
use Rattle.step_new_pages.specs.declared.Room.{Room}
use Rattle.step_new_room.specs.Promises.{Insertable, InsertsNew, given}

-- the access of the pages made ended, or the range was inserted
module _ {xs : List ℕ} {s u : Point} (o : Taken) (lacks : 0 < o.missing) where
  pub access-stops : {x : Outcome} → Ran (must (access o.start o.missing)) xs s (ends x) u → Ran (insert_new o) xs s (ends x) u
  unfolding insert_new
  access-stops r = passed _ (ne_eqb o.missing 0 (λ e. omega arith)) (stop _ r)

  pub inserts_as : {v : Point} → Ran (must (access o.start o.missing)) xs s (on tt) u → (e : Ending FreeRegion) →
      Ran (insert_free o.start o.missing o.stream) xs u e v → Ran (insert_new o) xs s (given e) v
  unfolding insert_new
  inserts_as r (on q) i = passed _ (ne_eqb o.missing 0 (λ e. omega arith)) (next _ r (next _ i gave))
  inserts_as r (ends x) i = passed _ (ne_eqb o.missing 0 (λ e. omega arith)) (next _ r (stop _ i))

-- at most one id is spent, however it ended
pub counts_as : {xs : List ℕ} {u v : Point} (a n s : ℕ) (e : Ending FreeRegion) → Ran (insert_free a n s) xs u e v →
    v.tables.fields.counter ≤ u.tables.fields.counter + 1
counts_as {u = u} a n s (on r) i = holds-ran (insert-counts a n s u.tables.fields.counter) i refl
counts_as {u = u} a n s (ends x) i = holds-ran (insert-counts a n s u.tables.fields.counter) i refl

module _ (o : Room) (p : Pool) (g : Insertable o p) where
  -- What `insert_free` needs.
  pub can_insert : CanInsert o.start.0 o.missing p.counter p.free
  unfolding tables_of
  can_insert =
      let b = inserting_bounds (made-inserting g.lost p.page g.free (room_of o) g.some (tables_of p) g.pages.0) in
      record {
        free = g.kept.free;
        room = omega (arith, b.few, free-count p.free g.kept.free);
        end = b.ends;
        range_end = b.range_end;
        sizes = b.sizes;
        counter = g.ids;
      }

  module _ (d d' : Driver) where
    -- the access ended the call
    pub access-stopped : {x : Outcome} → Drove (must (telling Access o.start.0 o.missing)) d (ends x) d' → InsertsNew o d p (Err x) d' p
    unfolding access
    access-stopped accessed =
        record {
          walked =
              record {
                lent = accessed.lent;
                ran = access-stops (room_of o) g.some (accessed.ran (tables_of p));
                kept = g.kept;
                state = refl;
                most = omega (arith, accessed.made);
              };
          spent = omega arith;
        }

    abbrev with-new : FreeRegions → ℕ → Pool
    with-new f c =
        record {
          state = p.state;
          page = p.page;
          va = p.va;
          counter = c;
          free = f;
          live = p.live;
          holes = p.holes;
          zombies = p.zombies;
          pages = p.pages;
          roots = p.roots;
        }

    pub new_inserted : Drove (must (telling Access o.start.0 o.missing)) d (on tt) d' → (r : Result FreeRegion Outcome) (d'' : Driver) (f : FreeRegions) (c : ℕ) →
        Inserts o.start.0 o.missing o.stream d' p.free p.counter r d'' f c → InsertsNew o d p r d'' (with-new f c)
    unfolding tables_of access
    new_inserted accessed r d'' f c w =
        let ran : Ran (insert_free o.start.0 o.missing o.stream) d.answers.now (stands d' (tables_of p)) (ending r) (stands d'' (tables_of (with-new f c))) =
        rw accessed.lent.answers at (w.ran (tables_of p)) in
        record {
          walked =
              record {
                lent = lent-then accessed.lent w.lent;
                ran = inserts_as (room_of o) g.some (accessed.ran (tables_of p)) (ending r) ran;
                kept =
                    record {
                      free = w.free;
                      live = g.kept.live;
                      holes = g.kept.holes;
                      zombies = g.kept.zombies;
                      pages = g.kept.pages;
                      roots = g.kept.roots;
                    };
                state = refl;
                most = omega (arith, w.most, accessed.made);
              };
          spent = counts_as o.start.0 o.missing o.stream (ending r) ran;
        }
