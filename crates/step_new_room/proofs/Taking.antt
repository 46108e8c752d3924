-- What `take_room` leaves, by how its two calls ended: each way out of it is a way of the rule.
use mathlib.Core.Path.{◌≡◌, refl, ap, sym}
use mathlib.Core.Bool.{true}
use Prim.Native.Nat.{ℕ, ◌*◌, ◌-◌, ◌/◌, ◌≤◌, ◌<◌}
use native.Mathlib.Omega.{arith}
use Rattle.std.specs.Prelude.{Result, Ok, Err}
use Rattle.words.specs.declared.Address.{Address}
use Rattle.tables.specs.Bounds.{PAGES, ROOTS}
use Rattle.tables.specs.Values.{Holes, Pages, Roots, tables_of, holes_of}
use Rattle.tables.specs.Kept.{KeptPool, KeptHoles, KeptRoots, KeptPages}
use Rattle.tables.specs.Steps.{Ending, on, ends}
use Rattle.tables.specs.Malloc.{no_hole}
use Rattle.tables.specs.TakeRange.{smallest_hole, take_range}
use Rattle.tables.specs.NewPages.{make_pages}
use Rattle.tables.specs.declared.Pool.{Pool}
use Rattle.tables.specs.declared.Outcome.{Outcome}
use Rattle.tables.proofs.Packs.{holes-count, roots-count}
use Rattle.driving.specs.Ran.{Ran, RoomFor, stands}
use Rattle.driving.specs.Endings.{ending}
use Rattle.driving.specs.declared.Driver.{Driver}
use Rattle.driving.proofs.Lent.{lent-then, room-left}
use Rattle.step_take_range.specs.Promises.{starts_at, Takeable, Takes}
use Rattle.step_new_pages.specs.Promises.{room_of, Ready, MakesPages}
use Rattle.step_new_pages.specs.declared.Room.{Room}
use Rattle.step_new_room.specs.Promises.{take_room_calls, free_bytes, CanTake, Roomable, PagesMade as Made, TakesRoom}
use Rattle.step_new_room.proofs.Ways.{range-stops, pages-stop, pages_go}
use Rattle.step_new_room.proofs.Sounds as sounds

-- A step goes on with one value, or ends with one outcome, and not both.
module _ {A : Type 0} where
  on_is : {a b : A} → ◌≡◌ {A = Ending A} (on a) (on b) → a ≡ b
  on_is {a = a} e = ap value e
    where
      value : Ending A → A
      value (on x) = x
      value (ends o) = a

  ends_is : {o x : Outcome} → ◌≡◌ {A = Ending A} (ends o) (ends x) → o ≡ x
  ends_is {o = o} e = ap outcome e
    where
      outcome : Ending A → Outcome
      outcome (on a) = o
      outcome (ends x) = x

  not_on : {a : A} {o : Outcome} → ◌≡◌ {A = Ending A} (ends o) (on a) → ⊥
  not_on e = cc

-- the pool with other holes, roots and pages
abbrev pub after : Pool → Holes → Roots → Pages → Pool
after p h r g =
    record {
      state = p.state;
      page = p.page;
      va = p.va;
      counter = p.counter;
      free = p.free;
      live = p.live;
      holes = h;
      zombies = p.zombies;
      pages = g;
      roots = r;
    }

module _ {n m : ℕ} {p : Pool} (g : Roomable n m p) where
  -- What `take_range` needs.
  pub takeable : Takeable p.page p.va n p.holes p.roots
  unfolding tables_of
  takeable =
      record {
        holes = g.kept.holes;
        roots = g.kept.roots;
        lost = g.lost;
        around = tables_of p;
        kept = sounds.kept-before g.lost p.page (free_bytes p) n (tables_of p) g.takes;
        page_is = refl;
        va_is = refl;
        fits = g.takes.most;
        room = omega (arith, g.takes.holes, holes-count p.holes g.kept.holes);
      }

  pub root-fits : no_hole (smallest_hole n (holes_of p.holes)) ≡ true → p.roots.count < ROOTS
  unfolding tables_of
  root-fits e = omega (arith, g.takes.root e, roots-count p.roots g.kept.roots)

  lack : m ≡ n - free_bytes p
  unfolding tables_of
  lack = g.lacks

-- the range was asked for, `missing` bytes of it are missing
module _ (n s missing : ℕ) (d d' : Driver) (p : Pool) (h : Holes) (r : Roots) (g : Roomable n missing p) where
  kept-after : {g' : Pages} {h' : Holes} → KeptHoles h' → KeptRoots r → KeptPages g' → KeptPool (after p h' r g')
  kept-after hs rs gs =
      record {
        free = g.kept.free;
        live = g.kept.live;
        holes = hs;
        zombies = g.kept.zombies;
        pages = gs;
        roots = rs;
      }

  took-ran : {res : Result Address Outcome} → Takes (take_range n) p.page p.va d p.holes p.roots res d' h r →
      Ran (take_range n) d.answers.now (stands d (tables_of p)) (starts_at (ending res)) (stands d' (tables_of (after p h r p.pages)))
  unfolding tables_of
  took-ran w = w.ran (tables_of p) refl refl

  -- no range was taken
  pub range-stopped : {o : Outcome} → Takes (take_range n) p.page p.va d p.holes p.roots (Err o) d' h r →
      TakesRoom n s d p (Err o) d' (after p h r p.pages)
  range-stopped w =
      record {
        lent = w.lent;
        goes = λ x f. absurd (not_on f);
        stops = λ o f. rw (ends_is f) at (range-stops n s (took-ran w));
        kept = kept-after w.holes w.roots g.kept.pages;
        state = refl;
        ids = refl;
        size = λ x f. absurd (not_on f);
        taken = λ lost c x f. absurd (not_on f);
        most = omega (arith, w.most);
      }

  -- it starts at `a`
  module _ {a : Address} (w : Takes (take_range n) p.page p.va d p.holes p.roots (Ok a) d' h r) where
    abbrev room : Room
    room = record { start = a; size = n; missing = missing; stream = s }

    few : missing / p.page ≤ PAGES
    few = rw (lack g) (sounds.pages-few g.lost p.page (free_bytes p) n (tables_of p) g.takes)

    -- What `make_pages` needs.
    pub ready : RoomFor take_room_calls d → Ready p.pages h p.page room (missing / p.page) d'
    unfolding tables_of
    ready log =
        record {
          pages = g.kept.pages;
          holes = w.holes;
          lost = g.lost;
          free = free_bytes p;
          around = tables_of (after p h r p.pages);
          taken = rw (lack g) (sounds.pages-due g.lost p.page (free_bytes p) n (tables_of p) g.takes s a.0 (_, (refl, took-ran w)));
          log = room-left 1 (4 * (missing / p.page)) log w.lent w.most (omega (arith, few));
        }

    -- its pages were asked for
    module _ (d'' : Driver) (g' : Pages) (h' : Holes) where
      abbrev done : Pool
      done = after p h' r g'

      paged-ran : {res : Result (Unit {0}) Outcome} → MakesPages (missing / p.page) p.page room d' p.pages h res d'' g' h' →
          Ran (make_pages (missing / p.page) (room_of room) a.0) d.answers.now (stands d' (tables_of (after p h r p.pages))) (ending res) (stands d'' (tables_of done))
      unfolding tables_of
      paged-ran v = rw w.lent.answers at (v.ran (tables_of (after p h r p.pages)) refl)

      pub pages-stopped : {o : Outcome} → MakesPages (missing / p.page) p.page room d' p.pages h (Err o) d'' g' h' → TakesRoom n s d p (Err o) d'' done
      unfolding tables_of
      pages-stopped v =
          record {
            lent = lent-then w.lent v.lent;
            goes = λ x f. absurd (not_on f);
            stops = λ o f. rw (ends_is f) at (pages-stop n s missing g.lacks (took-ran w) (paged-ran v));
            kept = kept-after v.holes w.roots v.pages;
            state = refl;
            ids = refl;
            size = λ x f. absurd (not_on f);
            taken = λ lost c x f. absurd (not_on f);
            most = omega (arith, v.most, w.most, few);
          }

      module _ (v : MakesPages (missing / p.page) p.page room d' p.pages h (Ok tt) d'' g' h') where
        made : (lost : ℕ → ℕ) → CanTake lost n p → Made lost (free_bytes p) room done
        unfolding tables_of
        made lost c =
            rw (lack g) (sounds.pages-made lost p.page (free_bytes p) n (tables_of p) c s a.0 (_, (refl, took-ran w)) (rw (lack g) at (paged-ran v)))

        pub pages-took : TakesRoom n s d p (Ok room) d'' done
        unfolding tables_of
        pages-took =
            record {
              lent = lent-then w.lent v.lent;
              goes = λ x f e u q. pages_go n s missing g.lacks (took-ran w) (paged-ran v) e (rw (← on_is f) at q);
              stops = λ o f. absurd (not_on (sym f));
              kept = kept-after v.holes w.roots v.pages;
              state = refl;
              ids = refl;
              size = λ x f. ap (λ o. o.size) (sym (on_is f));
              taken = λ lost c x f. rw (← on_is f) (made lost c);
              most = omega (arith, v.most, w.most, few);
            }
