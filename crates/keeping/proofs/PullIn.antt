-- Pull in: regions are pulled as far as bytes lack, their pages are moved to a range in hand, and that range is inserted as free. Pulling leaves a span
-- for it, or a region was pulled whole.
use mathlib.Core.Path.{◌≡◌, refl, ap}
use mathlib.Core.Logic.{⊎_elim}
use mathlib.Core.List.{List, []}
use Prim.Native.Nat.{ℕ, ◌+◌, ◌-◌, ◌≤◌}
use native.Mathlib.Omega.{arith}
use lib.ListN.{length}
use Rattle.lists.specs.Tests.{All, Member}
use Rattle.lists.specs.Walks.{sum}
use Rattle.tables.specs.Bounds.{SPANS}
use Rattle.tables.specs.Values.{Tables}
use Rattle.tables.specs.Steps.{◌>>◌}
use Rattle.tables.specs.Driver.{must, access}
use Rattle.tables.specs.InsertFree.{bytes, insert_free}
use Rattle.tables.specs.NewPages.{Room}
use Rattle.tables.specs.Pull.{pages_in, move_pages, pull_in}
use Rattle.tables.specs.declared.FreeRegion.{FreeRegion}
use Rattle.tables.specs.declared.Zombie.{Zombie}
use Rattle.keeping.specs.Sound.{none, WholeRange, Left}
use Rattle.keeping.specs.Holds.{Holds}
use Rattle.keeping.specs.Pull.{Pulling, place, filling, order, Spare}
use Rattle.keeping.specs.Move.{Movable}
use Rattle.keeping.proofs.Cover.{within_in}
use Rattle.keeping.proofs.Sounds.{sound_as, sound-once}
use Rattle.keeping.proofs.Counts.{few-ceilings}
use Rattle.keeping.proofs.InsertFree.{Inserting, Inserted, inserts-free}
use Rattle.keeping.proofs.Pull.{Pulled, pulls}
use Rattle.keeping.proofs.PullOrder.{sum-pull_order, length-pull_order}
use Rattle.keeping.proofs.Move.{Moved, moves-pages, pulled-movable}
use Rattle.keeping.proofs.Holds.{holds-from, holds_to, holds_then, holds_looked, holds-must, drives-access}

-- The range of `n` bytes from `a` is free as part of `r`, and the regions `keep` were free just before.
pub record PulledIn (lost rest : ℕ → ℕ) (p a n s : ℕ) (keep : List FreeRegion) (r : FreeRegion) (t : Tables) : Type 0 where
  pub before : List FreeRegion
  pub inserted : Inserted lost rest none p (bytes before) a n s before r t
  pub kept : All (λ q. Member q before) keep

module _ (lost rest : ℕ → ℕ) (p lacks c : ℕ) (keep others : List FreeRegion) (o : Room) where
  -- where the range starts, and what is in hand
  abbrev to : ℕ
  to = place o

  abbrev hand : ℕ → ℕ
  hand = filling rest lacks o

  pub spare-most : Spare lacks c others → c ≤ SPANS
  spare-most w = ⊎_elim (λ e. omega arith) (λ e. e.1.1) w

  module _ (range : WholeRange p to lacks) (spare : Spare lacks c others) where
    pub pulled-spare : (zs : List Zombie) (t : Tables) → Pulled lost hand none p lacks c keep (order others o) zs t →
        Pulled lost hand none p lacks (SPANS - 1) keep [] zs t
    pulled-spare zs t w =
        record {
          sound = w.sound;
          total = w.total;
          whole = w.whole;
          few =
              record {
                pages = w.few.pages;
                spans = spans spare;
                zombies = w.few.zombies;
                holes = w.few.holes;
                roots = w.few.roots;
              };
          page = w.page;
          among = w.among;
          kept = w.kept;
          fewer = λ e. absurd (omega (arith, range.size.positive));
        }
      where
        spans : Spare lacks c others → length t.free + length t.live ≤ SPANS - 1
        spans e =
            ⊎_elim
            (λ h. omega (arith, w.few.spans))
            (λ h.
            omega (
              arith,
              w.fewer (omega (arith, h.0, sum-pull_order o.stream others (λ r. r.size))),
              length-pull_order o.stream others,
              h.1.0,
              h.1.1,
            ))
            e

    -- the pages of the parts pulled can be moved into the range
    pub pulled_fills : (zs : List Zombie) (u : Tables) → Pulled lost hand none p lacks (SPANS - 1) keep [] zs u → Movable lost hand p to (SPANS - 1) u.free zs u
    pulled_fills zs u w =
        pulled-movable lost hand p to (SPANS - 1) u.free zs lacks keep [] u w refl range.start
        (λ x le lt. omega (arith, sound-once w.sound x, within_in to lacks x le lt))

    -- the pages are there
    pub moved-inserting : (n : ℕ) (l : List FreeRegion) (t : Tables) → n ≡ lacks → Moved lost hand p to n (SPANS - 1) l t →
        Inserting lost rest none p (bytes l) to lacks l t
    moved-inserting n l t e w =
        record {
          sound = sound_as w.sound (λ x. omega arith) (λ x. rw e (omega arith));
          range = rw w.page range;
          few = w.few;
          known = record { page = w.page; free = ap bytes w.free };
          list = w.free;
        }

    pub pulls-in : Holds (Pulling lost hand none p lacks c keep (order others o)) (pull_in o lacks others) (PulledIn lost rest p to lacks o.stream keep) (Left lost)
    unfolding pull_in
    pulls-in =
        holds_then (Pulled lost hand none p lacks c keep (order others o)) (pulls lost hand none p o.stream lacks c keep (order others o) (spare-most spare))
        (λ zs. holds_looked (λ u w.
        let v = pulled-spare zs u w in
        holds-from {P = Movable lost hand p to (SPANS - 1) u.free zs} (λ t e. rw e (pulled_fills zs u v)) (rw w.page (fills zs u.free v.total v.kept))))
      where
        fills : (zs : List Zombie) (l : List FreeRegion) → sum (λ z. z.size) zs ≡ lacks → All (λ q. Member q l) keep →
            Holds (Movable lost hand p to (SPANS - 1) l zs) (move_pages (pages_in p zs) to >> (must (access to lacks) >> insert_free to lacks o.stream))
            (PulledIn lost rest p to lacks o.stream keep) (Left lost)
        fills zs l total kept =
            let n = sum (λ z. z.size) zs in
            holds_then (λ _. Moved lost hand p to n (SPANS - 1) l) (moves-pages lost hand p to (SPANS - 1) l zs (omega arith))
            (λ _. holds_then (λ _. Moved lost hand p to n (SPANS - 1) l)
            (holds-must (drives-access to lacks) (λ t m. tt) (λ k t m. few-ceilings (omega arith) m.few))
            (λ _. holds-from (λ t m. moved-inserting n l t total m)
            (holds_to (λ r t i. record { before = l; inserted = i; kept = kept })
            (inserts-free lost rest none p (bytes l) to lacks o.stream l))))
