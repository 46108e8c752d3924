-- The ways through the rule, by where its driver calls end it: each is what the callees walked, one after the other. What is sound after each step,
-- which the next leans on, is what the rules keep.
use mathlib.Core.Path.{refl}
use mathlib.Core.List.{List, []}
use Prim.Native.Nat.{ℕ, ◌+◌, ◌-◌, ◌*◌, ◌≤◌}
use native.Mathlib.Omega.{arith}
use lib.ListN.{length, drop}
use Rattle.std.specs.Prelude.{Option as Made, Result, Ok, Err}
use Rattle.lists.specs.Walks.{sum}
use Rattle.words.specs.declared.Address.{Address}
use Rattle.words.specs.declared.Word.TheVariants.{Access}
use Rattle.tables.specs.Bounds.{END, PAGES, SPANS}
use Rattle.tables.specs.Values.{FreeRegions, Zombies, Pages, tables_of, free_of, zombies_of}
use Rattle.tables.specs.Kept.{KeptPool}
use Rattle.tables.specs.Steps.{on, ends}
use Rattle.tables.specs.Driver.{must, access}
use Rattle.tables.specs.InsertFree.{bytes}
use Rattle.tables.specs.Pull.{pull_order, pages_in, pull_in}
use Rattle.tables.specs.declared.FreeRegion.{FreeRegion}
use Rattle.tables.specs.declared.Zombie.{Zombie}
use Rattle.tables.specs.declared.Pool.{Pool}
use Rattle.tables.specs.declared.Outcome.{Outcome}
use Rattle.tables.proofs.Packs.{free-count, zombies-count}
use Rattle.keeping.specs.Sound.{none}
use Rattle.keeping.specs.Pull.{filling}
use Rattle.keeping.specs.Move.{Movable}
use Rattle.keeping.proofs.Sounds.{sound-range}
use Rattle.keeping.proofs.Pull.{pulls}
use Rattle.keeping.proofs.Pull
use Rattle.keeping.proofs.Move.{moves-pages}
use Rattle.keeping.proofs.InsertFree.{Inserting}
use Rattle.keeping.proofs.PullIn.{spare-most, pulled-spare, pulled_fills, moved-inserting}
use Rattle.keeping.proofs.Bounds.{inserting_bounds, moved-most}
use Rattle.driving.specs.Ran.{RoomFor, Drove}
use Rattle.driving.specs.Promises.{telling}
use Rattle.driving.specs.Endings.{ending}
use Rattle.driving.specs.Pools.{PoolRan}
use Rattle.driving.specs.declared.Driver.{Driver}
use Rattle.driving.proofs.Ran.{next, stop, looked}
use Rattle.driving.proofs.Lent.{lent-then}
use Rattle.driving.proofs.Holds.{holds-ran}
use Rattle.regions.specs.Pulling.{besides}
use Rattle.step_new_pages.specs.Promises.{room_of}
use Rattle.step_new_pages.specs.declared.Room.{Room}
use Rattle.step_pull.specs.Promises.{Pullable, Pulls}
use Rattle.step_move_pages.specs.Promises.{PagesMovable, MovesPages}
use Rattle.step_insert_free.specs.Promises.{Insertable, Inserts}
use Rattle.step_pull_in.specs.Promises.{pull_in_calls, Fillable}
use Rattle.step_pull_in.proofs.Grows.{grows}

-- the pool `p`, with these tables and this counter
abbrev pub leaving : FreeRegions → Zombies → Pages → ℕ → Pool → Pool
leaving f z g c p =
    record {
      state = p.state;
      page = p.page;
      va = p.va;
      counter = c;
      free = f;
      live = p.live;
      holes = p.holes;
      zombies = z;
      pages = g;
      roots = p.roots;
    }

module _ {o : Room} {made : Made Address} {lacks : ℕ} {p : Pool} (k : Fillable o made lacks p) where
  abbrev others : List FreeRegion
  others = besides made (free_of p.free)

  abbrev to : ℕ
  to = o.start.0 + o.missing

  abbrev hand : ℕ → ℕ
  hand = filling k.rest lacks (room_of o)

  -- the range is of a root
  pub ends-below : to + lacks ≤ END
  ends-below = sound-range k.due.sound to lacks k.range.size.positive (λ x. omega arith)

  most : k.spans ≤ SPANS
  most = spare-most k.lost k.rest p.page lacks k.spans k.keep others (room_of o) k.spare

  pub few-pulled : length (pull_order o.stream others) ≤ SPANS
  few-pulled = omega (arith, k.due.zombies)

  pub pullable : Pullable lacks (pull_order o.stream others) p.free p.zombies
  unfolding tables_of
  pullable =
      record {
        free = k.kept.free;
        zombies = k.kept.zombies;
        lost = k.lost;
        hand = hand;
        bare = none;
        page = p.page;
        spans = k.spans;
        keep = k.keep;
        around = tables_of p;
        few = most;
        due = k.due;
      }

  pub room_for-pull : (d : Driver) → RoomFor pull_in_calls d → RoomFor (2 * length (pull_order o.stream others)) d
  room_for-pull d r = omega (arith, few-pulled, r)

  module _ {d d₁ : Driver} {f : FreeRegions} {z : Zombies} where
    pub pull-stops : {e : Outcome} → Pulls o.stream lacks made d p.free p.zombies (Err e) d₁ f z →
        PoolRan (pull_in (room_of o) lacks others) pull_in_calls d p (ends e) d₁ (leaving f z p.pages p.counter p)
    unfolding pull_in tables_of
    pull-stops w =
        record {
          lent = w.lent;
          ran = stop _ (w.ran (tables_of p));
          kept =
              record { free = w.free; live = k.kept.live; holes = k.kept.holes; zombies = w.zombies; pages = k.kept.pages; roots = k.kept.roots };
          state = refl;
          most = omega (arith, w.most, few-pulled);
        }

    -- regions were pulled
    module _ (w : Pulls o.stream lacks made d p.free p.zombies (Ok tt) d₁ f z) where
      abbrev zs : List Zombie
      zs = drop p.zombies.count (zombies_of z)

      abbrev parted : Pool
      parted = leaving f z p.pages p.counter p

      pub zombies-stay : p.zombies.count ≤ length (zombies_of z)
      unfolding tables_of
      zombies-stay =
          holds-ran (grows p.zombies.count (pull_order o.stream others) o.stream lacks) (w.ran (tables_of p))
          (omega (arith, zombies-count p.zombies k.kept.zombies))

      pulled-sound : Pull.Pulled k.lost hand none p.page lacks (SPANS - 1) k.keep [] zs (tables_of parted)
      unfolding tables_of
      pulled-sound =
          pulled-spare k.lost k.rest p.page lacks k.spans k.keep others (room_of o) k.range k.spare zs (tables_of parted)
          (holds-ran (pulls k.lost hand none p.page o.stream lacks k.spans k.keep (pull_order o.stream others) most) (w.ran (tables_of p)) k.due)

      movable : Movable k.lost hand p.page to (SPANS - 1) (tables_of parted).free zs (tables_of parted)
      movable = pulled_fills k.lost k.rest p.page lacks k.spans k.keep others (room_of o) k.range k.spare zs (tables_of parted) pulled-sound

      pub pages-movable : PagesMovable p.page to zs p.pages
      unfolding tables_of
      pages-movable =
          record { pages = k.kept.pages; lost = k.lost; hand = hand; spans = SPANS - 1; around = tables_of parted; movable = movable }

      pub few-moved : length (pages_in p.page zs) ≤ PAGES
      few-moved = omega (arith, moved-most k.lost hand p.page to (SPANS - 1) (tables_of parted).free zs (tables_of parted) movable, movable.few.pages)

      pub room_for-move : RoomFor pull_in_calls d → RoomFor (length (pages_in p.page zs)) d₁
      room_for-move r = omega (arith, r, w.lent.cells, w.most, few-pulled, few-moved)

      module _ {d₂ : Driver} {g : Pages} where
        pub move-stops : {e : Outcome} → MovesPages p.page to zs d₁ p.pages (Err e) d₂ g →
            PoolRan (pull_in (room_of o) lacks others) pull_in_calls d p (ends e) d₂ (leaving f z g p.counter p)
        unfolding pull_in tables_of
        move-stops v =
            record {
              lent = lent-then w.lent v.lent;
              ran = next _ (w.ran (tables_of p)) (next _ looked (stop _ (rw w.lent.answers at (v.ran (tables_of parted) refl))));
              kept = record { free = w.free; live = k.kept.live; holes = k.kept.holes; zombies = w.zombies; pages = v.pages; roots = k.kept.roots };
              state = refl;
              most = omega (arith, w.most, few-pulled, v.most, few-moved);
            }

        -- their pages were moved
        module _ (v : MovesPages p.page to zs d₁ p.pages (Ok tt) d₂ g) where
          abbrev moved : Pool
          moved = leaving f z g p.counter p

          pub kept-moved : KeptPool moved
          kept-moved = record { free = w.free; live = k.kept.live; holes = k.kept.holes; zombies = w.zombies; pages = v.pages; roots = k.kept.roots }

          pub room_for-access : RoomFor pull_in_calls d → RoomFor 2 d₂
          room_for-access r = omega (arith, r, w.lent.cells, v.lent.cells, w.most, few-pulled, v.most, few-moved)

          moved-sound : Inserting k.lost k.rest none p.page (bytes (free_of f)) to lacks (free_of f) (tables_of moved)
          unfolding tables_of
          moved-sound =
              moved-inserting k.lost k.rest p.page lacks k.spans k.keep others (room_of o) k.range k.spare
              (sum (λ z. z.size) zs) (free_of f) (tables_of moved) pulled-sound.total
              (holds-ran (moves-pages k.lost hand p.page to (SPANS - 1) (free_of f) zs (omega arith)) (v.ran (tables_of parted) refl) movable)

          pub insertable : Insertable to lacks p.counter f
          unfolding tables_of
          insertable =
              let b = inserting_bounds moved-sound in
              record {
                free = w.free;
                room = omega (arith, free-count f w.free, b.few);
                end = b.ends;
                range_end = b.range_end;
                sizes = b.sizes;
                counter = k.ids;
              }

          -- access was asked for
          pub access-stops : {e : Outcome} {d₃ : Driver} → Drove (must (telling Access to lacks)) d₂ (ends e) d₃ →
              PoolRan (pull_in (room_of o) lacks others) pull_in_calls d p (ends e) d₃ moved
          unfolding pull_in tables_of access
          access-stops c =
              let l = lent-then w.lent v.lent in
              record {
                lent = lent-then l c.lent;
                ran =
                    next _ (w.ran (tables_of p))
                    (next _ looked
                    (next _ (rw w.lent.answers at (v.ran (tables_of parted) refl)) (stop _ (rw l.answers at (c.ran (tables_of moved))))));
                kept = kept-moved;
                state = refl;
                most = omega (arith, w.most, few-pulled, v.most, few-moved, c.made);
              }

          -- the range is inserted as free
          pub inserts : {r : Result FreeRegion Outcome} {d₃ d₄ : Driver} {f' : FreeRegions} {c' : ℕ} → Drove (must (telling Access to lacks)) d₂ (on tt) d₃ →
              Inserts to lacks o.stream d₃ f p.counter r d₄ f' c' →
              PoolRan (pull_in (room_of o) lacks others) pull_in_calls d p (ending r) d₄ (leaving f' z g c' p)
          unfolding pull_in tables_of access
          inserts c i =
              let l = lent-then w.lent v.lent in
              let m = lent-then l c.lent in
              record {
                lent = lent-then m i.lent;
                ran =
                    next _ (w.ran (tables_of p))
                    (next _ looked
                    (next _ (rw w.lent.answers at (v.ran (tables_of parted) refl))
                    (next _ (rw l.answers at (c.ran (tables_of moved))) (rw m.answers at (i.ran (tables_of moved))))));
                kept =
                    record {
                      free = i.free;
                      live = k.kept.live;
                      holes = k.kept.holes;
                      zombies = w.zombies;
                      pages = v.pages;
                      roots = k.kept.roots;
                    };
                state = refl;
                most = omega (arith, w.most, few-pulled, v.most, few-moved, c.made, i.most);
              }
