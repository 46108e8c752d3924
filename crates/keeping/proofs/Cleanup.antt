-- Cleanup: each zombie whose event is complete comes into the hand and goes into the holes, so zombies and holes together do not grow.
use mathlib.Core.Path.{◌≡◌}
use Prim.Native.Nat.{ℕ, zero, suc, ◌+◌, ◌<◌}
use native.Mathlib.Omega.{arith}
use lib.ListN.{length, get_or}
use Rattle.lists.specs.Places.{swap_out}
use Rattle.lists.proofs.Tests.{all-at}
use Rattle.lists.proofs.Swap.{sum-swap_out, all-swap_out, length-swap_out}
use Rattle.tables.specs.Bounds.{HOLES}
use Rattle.tables.specs.Values.{Tables, with_zombies, with_holes, empty_zombie}
use Rattle.tables.specs.InsertHole.{insert_hole}
use Rattle.tables.specs.Cleanup.{clean, walk, cleanup}
use Rattle.keeping.specs.Cover.{within}
use Rattle.keeping.specs.Sound.{none, WholeRange, Sound, Ceilings, Kept, Left}
use Rattle.keeping.specs.Counts.{Few, Known}
use Rattle.keeping.specs.Holds.{Holds}
use Rattle.keeping.proofs.Holes.{length-hole}
use Rattle.keeping.proofs.Sounds.{sound-zombies, sound-hole}
use Rattle.keeping.proofs.Holds.{holds_then, holds_looked, holds-change, holds-cond, holds-try, holds-is_complete, holds-give, holds-from, drives-unmap}

module _ (lost : ℕ → ℕ) (p f c : ℕ) where
  abbrev Cleaned : Tables → Type 0
  Cleaned t = Kept lost t × (Few 0 c t × Known p f t)

  -- a zombie with the range from `a` of `n` bytes is out of its table, `m` are left
  record Out (a n m : ℕ) (t : Tables) : Type 0 where
    sound : Sound lost (within a n) none t
    range : WholeRange t.fields.page a n
    ceilings : Ceilings t
    few : Few 0 c t
    known : Known p f t
    left : length t.zombies ≡ m
    room : length t.holes + m < HOLES

  taken_out : (i m : ℕ) (t : Tables) → Cleaned t → length t.zombies ≡ suc m → i < suc m →
      Out (get_or t.zombies i empty_zombie).start.0 (get_or t.zombies i empty_zombie).size m (with_zombies (swap_out i t.zombies) t)
  taken_out i m t q e h =
      let d = empty_zombie in
      let z = get_or t.zombies i d in
      let s = q.0.sound in
      let k = q.0.ceilings in
      let w = q.1.0 in
      let len = length-swap_out i t.zombies in
      record {
        sound =
            sound-zombies s (swap_out i t.zombies) (all-swap_out _ t.zombies i d s.zombies (omega arith))
            (λ x. omega (arith, sum-swap_out (λ y. within y.start.0 y.size x) t.zombies i d (omega arith)))
            (all-swap_out _ t.zombies i d s.zombie_ids (omega arith));
        range = all-at _ t.zombies i d s.zombies (omega arith);
        ceilings = record { pages = k.pages; spans = k.spans; zombies = omega arith; holes = omega arith; roots = k.roots };
        few = record { pages = w.pages; spans = w.spans; zombies = omega arith; holes = omega arith; roots = w.roots };
        known = record { page = q.1.1.page; free = q.1.1.free };
        left = omega arith;
        room = omega arith;
      }

  put_in : (a n m : ℕ) (t : Tables) → Out a n m t → Cleaned (with_holes (insert_hole a n t.holes) t)
  put_in a n m t o =
      let k = o.ceilings in
      let w = o.few in (
        record {
          sound = sound-hole o.sound a n (λ x. omega arith) (λ _. o.range);
          ceilings =
              record { pages = k.pages; spans = k.spans; zombies = k.zombies; holes = omega (arith, length-hole a n t.holes); roots = k.roots };
        },
        (
          record { pages = w.pages; spans = w.spans; zombies = w.zombies; holes = omega (arith, length-hole a n t.holes); roots = w.roots },
          record { page = o.known.page; free = o.known.free },
        ),
      )

  -- the tables are cleaned, with `m` zombies
  abbrev Cleaning : ℕ → Tables → Type 0
  Cleaning m t = Cleaned t × (length t.zombies ≡ m)

  cleans : (i m : ℕ) (u : Tables) → Cleaning (suc m) u → i < suc m →
      Holds (λ t. t ≡ u) (clean i (get_or u.zombies i empty_zombie)) (λ _. Cleaning m) (Left lost)
  unfolding clean
  cleans i m u q h =
      let z = get_or u.zombies i empty_zombie in
      holds_then (λ _. Out z.start.0 z.size m) (holds-change _ (λ t e. rw e (taken_out i m u q.0 q.1 h)))
      (λ _. holds_then (λ _. Out z.start.0 z.size m) (holds-try (drives-unmap z.start.0 z.size) (λ t o. tt))
      (λ _. holds-change _ (λ t o. (put_in z.start.0 z.size m t o, o.left))))

  -- `n` zombies are still to be asked: those from place `i` on
  walks : (n i : ℕ) → Holds (Cleaning (i + n)) (walk n i) (λ _. Cleaned) (Left lost)
  walks zero i = holds-from (λ t q. q.0) (holds-give tt)
  walks (suc n) i =
      holds_looked
      (λ u q. holds_then (λ _ t. t ≡ u) (holds-is_complete (get_or u.zombies i empty_zombie).id.0 (λ t e. tt))
      (λ b. holds-cond b
      (λ _. holds_then (λ _. Cleaning (i + n)) (cleans i (i + n) u (q.0, omega (arith, q.1)) (omega arith)) (λ _. walks n i))
      (λ _. holds-from (λ t e. rw e (q.0, omega (arith, q.1))) (walks n (i + 1)))))

pub cleans_up : (lost : ℕ → ℕ) (p f c : ℕ) →
    Holds (λ t. Kept lost t × (Few 0 c t × Known p f t)) cleanup (λ _ t. Kept lost t × (Few 0 c t × Known p f t)) (Left lost)
unfolding cleanup
cleans_up lost p f c =
    holds_looked (λ u q. holds-from (λ t e. rw e (q, omega arith)) (walks lost p f c (length u.zombies) 0))
