-- Malloc: cleanup and fit keep the pool as it is, and where none fits, what is refused before room is made is what making room starts from; the region
-- that either gives is handed over.
use mathlib.Core.Path.{◌≡◌, refl}
use mathlib.Core.Logic.{inr}
use mathlib.Core.Bool.{Bool, true, false, ◌&&◌, ◌||◌}
use mathlib.Core.Option.{Option, some, none}
use Prim.Native.Nat.{ℕ, ◌+◌, ◌-◌, ◌≤◌, ◌<◌, ◌/◌}
use native.Mathlib.Omega.{arith}
use borrow.Author.Tests.{ltb-false, leb-false}
use lib.Dec.{ltb, leb}
use lib.ListN.{length}
use Rattle.lists.proofs.Tests.{neither, not-both}
use Rattle.tables.specs.Bounds.{HOLES, PAGES, ROOTS, SPANS, ZOMBIES}
use Rattle.tables.specs.Values.{Tables}
use Rattle.tables.specs.Steps.{end_if}
use Rattle.tables.specs.InsertFree.{bytes}
use Rattle.tables.specs.TakeRange.{smallest_hole}
use Rattle.tables.specs.MakeRoom.{missing}
use Rattle.tables.specs.Malloc.{no_hole, room_refused, or_room, hand_over, malloc_steps}
use Rattle.tables.specs.declared.FreeRegion.{FreeRegion}
use Rattle.tables.specs.declared.Outcome.{Outcome}
use Rattle.tables.specs.declared.Outcome.TheVariants.{RequestedExceedsVa, PagesFull, ZombiesFull, RootsFull}
use Rattle.keeping.specs.Cover.{within}
use Rattle.keeping.specs.Sound.{Whole, Kept, KeptBut, Left}
use Rattle.keeping.specs.Holds.{Holds}
use Rattle.keeping.specs.MakeRoom.{TakesFrom}
use Rattle.keeping.specs.Malloc.{Asked, Handing}
use Rattle.keeping.proofs.Sounds.{sound-drop-none}
use Rattle.keeping.proofs.Counts.{ceilings-few}
use Rattle.keeping.proofs.MakeRoom.{Dropped, Roomed, makes-room}
use Rattle.keeping.proofs.Cleanup.{cleans_up}
use Rattle.keeping.proofs.Fit.{Fitting, Fitted, fits}
use Rattle.keeping.proofs.HandOver.{hands-over}
use Rattle.keeping.proofs.Holds.{holds-from, holds_to, holds_given, holds_named, holds_then, holds-give, holds_looked, holds-end_if}

-- `lost`, and a range that is dropped
abbrev pub losing : (ℕ → ℕ) → ℕ × ℕ → ℕ → ℕ
losing lost d x = lost x + within d.0 d.1 x

-- None of 8 to 11 applies.
record Admits (n : ℕ) (t : Tables) : Type 0 where
  most : n ≤ t.fields.va
  pages : length t.pages + missing n t / t.fields.page ≤ PAGES
  zombies : length t.zombies + length t.free ≤ ZOMBIES
  holes : length t.zombies + length t.free + length t.holes ≤ (HOLES - 1)
  root : no_hole (smallest_hole n t.holes) ≡ true → length t.roots < ROOTS

module _ (lost : ℕ → ℕ) (n : ℕ) where
  -- a refusal leaves the pool as it was
  refuses : (u : Tables) (b : Bool) (o : Outcome) → (Kept lost u → Left lost o u) → Kept lost u →
      Holds (λ t. t ≡ u) (end_if b o) (λ _ t. (b ≡ false) × (t ≡ u)) (Left lost)
  refuses u b o f k = holds_to (λ _ t q. (q.1, q.0)) (holds-end_if b o (λ t e _. rw e (f k)))

  refused_admits : (P : Tables → Type 0) → ((t : Tables) → P t → Kept lost t) → Holds P (room_refused n) (λ _ t. Admits n t × P t) (Left lost)
  unfolding room_refused
  refused_admits P kept =
      holds_looked (λ u w.
      let k = kept u w in
      holds_then _ (refuses u (ltb u.fields.va n) (RequestedExceedsVa n u.fields.va) (λ q. q) k) (λ _. holds_given (λ va.
      holds_then _ (refuses u (ltb PAGES (length u.pages + missing n u / u.fields.page)) PagesFull (λ q. q) k) (λ _. holds_given (λ pages.
      holds_then _ (refuses u (ltb ZOMBIES (pulled u) || ltb (HOLES - 1) (pulled u + length u.holes)) ZombiesFull (λ q. q) k) (λ _. holds_given (λ full.
      holds_to (λ _ t q. rw q.1 (admits u va pages full q.0, w))
      (refuses u (no_hole (smallest_hole n u.holes) && leb ROOTS (length u.roots)) RootsFull (λ q. q) k))))))))
    where
      pulled : Tables → ℕ
      pulled u = length u.zombies + length u.free

      admits : (u : Tables) → ltb u.fields.va n ≡ false → ltb PAGES (length u.pages + missing n u / u.fields.page) ≡ false →
          (ltb ZOMBIES (pulled u) || ltb (HOLES - 1) (pulled u + length u.holes)) ≡ false →
          (no_hole (smallest_hole n u.holes) && leb ROOTS (length u.roots)) ≡ false → Admits n u
      admits u va pages full roots =
          let f = neither (ltb ZOMBIES (pulled u)) (ltb (HOLES - 1) (pulled u + length u.holes)) full in
          record {
            most = ltb-false u.fields.va n va;
            pages = ltb-false PAGES (length u.pages + missing n u / u.fields.page) pages;
            zombies = ltb-false ZOMBIES (pulled u) f.0;
            holes = ltb-false (HOLES - 1) (pulled u + length u.holes) f.1;
            root = λ e.
                leb-false ROOTS (length u.roots) (not-both (no_hole (smallest_hole n u.holes)) (leb ROOTS (length u.roots)) roots e);
          }

-- What fit found or what room was made is ready to be handed over.
abbrev pub Handed : (ℕ → ℕ) → ℕ → ℕ → FreeRegion → Tables → Type 0
Handed lost f n r t = (d : ℕ × ℕ) × (Dropped f n d.1 × Handing (losing lost d) n r t)

module _ (lost : ℕ → ℕ) (p f n s : ℕ) (size : Whole p n) where
  pub found : (r : FreeRegion) (t : Tables) → Fitted lost p f (SPANS - 1) n (some r) t → Handed lost f n r t
  found r t (w, m) = (
    (0, 0),
    (
      record { most = omega arith; enough = λ h. refl },
      record {
        sound = sound-drop-none w.0.sound;
        member = m.0;
        size = rw w.1.1.page size;
        most = m.1;
        few = ceilings-few w.0.ceilings;
        room = inr w.1.0.spans;
      },
    ),
  )

  pub made : (r : FreeRegion) (t : Tables) → Roomed lost f n s r t → Handed lost f n r t
  made r t w = (
    w.dropped,
    (w.bounded, record { sound = w.sound; member = w.member; size = w.size; most = w.most; few = w.few; room = w.room }),
  )

  takes-from : (t : Tables) → Admits n t → Fitting lost p f (SPANS - 1) t → TakesFrom lost p f ((n - f) / p) n t
  takes-from t a w =
      record {
        sound = w.0.sound;
        size = rw w.1.1.page size;
        most = a.most;
        few =
            record {
              pages = rw (w.1.1.page, w.1.1.free) at a.pages;
              spans = w.1.0.spans;
              zombies = w.1.0.zombies;
              holes = w.1.0.holes;
              roots = w.1.0.roots;
            };
        zombies = a.zombies;
        holes = a.holes;
        root = a.root;
        known = w.1.1;
      }

  -- what is not refused can be made room for
  pub admits-room : Holds (Fitting lost p f (SPANS - 1)) (room_refused n) (λ _. TakesFrom lost p f ((n - f) / p) n) (Left lost)
  admits-room = holds_to (λ _ t w. takes-from t w.0 w.1) (refused_admits lost n (Fitting lost p f (SPANS - 1)) (λ t w. w.0))

  gives-region : (x : Option FreeRegion) → Holds (Fitted lost p f (SPANS - 1) n x) (or_room n s x) (Handed lost f n) (Left lost)
  unfolding or_room
  gives-region none = holds_then (λ _. TakesFrom lost p f ((n - f) / p) n) admits-room (λ _. holds_to made (makes-room lost p f n s))
  gives-region (some r) = holds-from (found r) (holds-give r)

-- What malloc leaves, where `f` bytes were free and `n` were asked for.
abbrev pub Losing : (ℕ → ℕ) → ℕ → ℕ → Tables → Type 0
Losing lost f n t = (d : ℕ × ℕ) × (Dropped f n d.1 × Kept (losing lost d) t)

hands_out : (lost : ℕ → ℕ) (f n s : ℕ) (r : FreeRegion) → Holds (Handed lost f n r) (hand_over n s r) (λ _. Losing lost f n) (Left lost)
hands_out lost f n s r =
    holds_named (λ u w.
    holds-from (λ t e. rw e w.1.1) (holds_to (λ _ t k. (w.0, (w.1.0, k))) (hands-over (losing lost w.0) n s r)))

-- malloc starts from what stands through cleanup and fit, where `f` bytes are free
pub begins : (lost : ℕ → ℕ) (n f : ℕ) (u : Tables) → Asked lost n u → bytes u.free ≡ f → Fitting lost u.fields.page f (SPANS - 1) u
begins lost n f u (k, (size, spare)) e =
    let c = k.ceilings in (
      k,
      (
        record { pages = omega (arith, c.pages); spans = spare; zombies = c.zombies; holes = c.holes; roots = c.roots },
        record { page = refl; free = e },
      ),
    )

-- and what stands through them is what malloc starts from
pub begins-again : (lost : ℕ → ℕ) (p f n : ℕ) (t : Tables) → Whole p n → Fitting lost p f (SPANS - 1) t → Asked lost n t
begins-again lost p f n t size w = (w.0, (rw w.1.1.page size, w.1.0.spans))

-- A malloc drops no more than was free, and nothing where the free bytes suffice.
pub mallocs_losing : (lost : ℕ → ℕ) (f n s : ℕ) →
    Holds (λ t. Asked lost n t × (bytes t.free ≡ f)) (malloc_steps n s) (λ _. Losing lost f n) (Left lost)
unfolding malloc_steps
mallocs_losing lost f n s =
    holds_named (λ u w.
    let p = u.fields.page in
    holds-from (λ t e. rw e (begins lost n f u w.0 w.1))
    (holds_then (λ _. Fitting lost p f (SPANS - 1)) (cleans_up lost p f (SPANS - 1))
    (λ _. holds_then (Fitted lost p f (SPANS - 1) n) (fits lost p f (SPANS - 1) n s)
    (λ x. holds_then (Handed lost f n) (gives-region lost p f n s w.0.1.0 x) (hands_out lost f n s)))))

pub mallocs : (lost : ℕ → ℕ) (n s : ℕ) → Holds (Asked lost n) (malloc_steps n s) (λ _. KeptBut lost) (Left lost)
mallocs lost n s =
    holds_named (λ u w.
    holds-from (λ t e. rw e (w, refl))
    (holds_to (λ _ t k. record { dropped = k.0; kept = k.1.1 }) (mallocs_losing lost (bytes u.free) n s)))
