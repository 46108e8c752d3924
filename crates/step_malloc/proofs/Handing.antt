-- What handing over needs and leaves of the whole pool: the region stands at its place, and only the free regions and the live buffers change.
use mathlib.Core.Path.{◌≡◌, refl, ap}
use mathlib.Core.Logic.{⊎_elim}
use Prim.Native.Nat.{ℕ, ◌<◌}
use native.Mathlib.Omega.{arith}
use lib.Dec.{leb}
use lib.ListN.{length}
use Rattle.lists.specs.Places.{place}
use Rattle.lists.specs.Tests.{Member}
use Rattle.lists.specs.Order.{Rises}
use Rattle.lists.proofs.Tests.{cases_lt, cases_eq}
use Rattle.lists.proofs.Members.{member-at, length_without}
use Rattle.lists.proofs.Keys.{without-past, rises-same}
use Rattle.tables.specs.Values.{tables_of, free_of, empty_region}
use Rattle.tables.specs.Kept.{KeptFree, KeptPool}
use Rattle.tables.specs.InsertFree.{from}
use Rattle.tables.specs.declared.FreeRegion.{FreeRegion}
use Rattle.tables.specs.Values.{FreeRegions, LiveBuffers}
use Rattle.words.specs.declared.Address.{Address}
use Rattle.driving.proofs.Lent.{lent-same}
use Rattle.tables.specs.declared.Pool.{Pool}
use Rattle.tables.specs.declared.Outcome.TheVariants.{Allocated}
use Rattle.tables.proofs.Packs.{free-count}
use Rattle.regions.specs.Cutting.{region_at}
use Rattle.step_hand_over.specs.Promises.{Handable as CanHand, HandsOver}
use Rattle.step_malloc.specs.Promises.{Handable, HandsOut}

-- The region that starts at an address stands at the first place whose region starts there or above.
module _ (f : FreeRegions) (r : FreeRegion) (i : ℕ) (k : KeptFree f) (rises : Rises from 0 (free_of f)) (here : Member r (free_of f))
    (placed : i ≡ place (λ q. leb (from r) (from q)) (free_of f)) where
  starts-there : (i < length (free_of f)) × (from (region_at f i) ≡ from r)
  starts-there =
      let past : (i < length (free_of f) → from (region_at f i) ≡ from r → ⊥) → ⊥ =
      λ n. omega (
        arith,
        length_without from 0 r (free_of f) rises here,
        ap length (without-past from (from r) 0 (free_of f) empty_region rises (rw placed at n)),
      ) in
      ⊎_elim
      (λ h. (h, ⊎_elim (λ e. e) (λ n. absurd (past (λ g. n))) (cases_eq (from (region_at f i)) (from r))))
      (λ h. absurd (past (λ g. absurd (omega arith))))
      (cases_lt i (length (free_of f)))

  pub stands_at : (i < f.count) × (region_at f i ≡ r)
  stands_at = (
    omega (arith, starts-there.0, free-count f k),
    rises-same from 0 (region_at f i) r (free_of f) rises (member-at (free_of f) i empty_region starts-there.0) here starts-there.1,
  )

pub can-hand : (n i : ℕ) (p : Pool) → i < p.free.count → Handable n (region_at p.free i) p → CanHand n i p.free p.live
unfolding tables_of
can-hand n i p w h =
    record { free = h.tables.free; live = h.tables.live; placed = w; lost = h.lost; around = tables_of p; due = h.due }

-- the pool with what was handed over
abbrev pub after : Pool → FreeRegions → LiveBuffers → Pool
after p f b =
    record {
      state = p.state;
      page = p.page;
      va = p.va;
      counter = p.counter;
      free = f;
      live = b;
      holes = p.holes;
      zombies = p.zombies;
      pages = p.pages;
      roots = p.roots;
    }

pub handed_out : (n s i : ℕ) (p : Pool) → KeptPool p → {start : Address} {f : FreeRegions} {b : LiveBuffers} → HandsOver n s i p.free p.live start f b →
    HandsOut n s (region_at p.free i) p (Allocated start n) (after p f b)
unfolding tables_of
handed_out n s i p t w =
    record {
      walked = λ d. record {
        lent = lent-same d;
        ran = w.ran d.answers.now d.made (tables_of p) d.log.now;
        kept = record { free = w.free; live = w.live; holes = t.holes; zombies = t.zombies; pages = t.pages; roots = t.roots };
        state = refl;
        most = omega arith;
      };
    }
