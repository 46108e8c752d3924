-- A walk over a pool's tables: what it starts with, and what the test of a range tells of all that are left.
use mathlib.Core.Path.{◌≡◌, refl}
use mathlib.Core.Bool.{true, false, ◌&&◌}
use mathlib.Core.List.{List, [], ◌∷◌, ◌++◌, map, append-nil}
use Prim.Native.Nat.{ℕ, ◌+◌, ◌≤◌, ◌<◌}
use native.Mathlib.Omega.{arith}
use borrow.Author.Tests.{leb-true, lt-leb}
use lib.Dec.{leb}
use lib.ListN.{length, length-append}
use Rattle.lists.specs.Tests.{All}
use Rattle.lists.specs.Order.{sorted, Ascends}
use Rattle.lists.proofs.Tests.{both}
use Rattle.lists.proofs.Order.{length-sorted}
use Rattle.lists.proofs.Merges.{ascends-map}
use Rattle.words.specs.declared.Address.{Address}
use Rattle.tables.specs.Bounds.{END}
use Rattle.tables.specs.Values.{tables_of, free_of, live_of, holes_of, zombies_of}
use Rattle.tables.specs.WellFormed.{Range, upto, spans}
use Rattle.tables.specs.declared.FreeRegion.{FreeRegion}
use Rattle.tables.specs.declared.LiveBuffer.{LiveBuffer}
use Rattle.tables.specs.declared.Hole.{Hole}
use Rattle.tables.specs.declared.Zombie.{Zombie}
use Rattle.tables.specs.declared.Pool.{Pool}
use Rattle.pool_soundness.specs.Tests.{ranges_in, placed, passes}
use Rattle.pool_soundness.specs.Walks.{of_free, of_live, of_hole, of_zombie, start, four, High}

module _ (p : Pool) (f : List FreeRegion) (b : List LiveBuffer) (ef : f ≡ free_of p.free) (eb : b ≡ live_of p.live) where
  -- free and live alone
  pub spans_left : sorted start (four (map of_free f) (map of_live b) [] []) ≡ sorted start (spans (tables_of p))
  unfolding tables_of
  spans_left = rw (ef, eb, append-nil)

  -- all four, the zombies in order
  pub all_left : (h : List Hole) (z : List Zombie) → h ≡ holes_of p.holes → z ≡ sorted (λ z. z.start.0) (zombies_of p.zombies) →
      sorted start (four (map of_free f) (map of_live b) (map of_hole h) (map of_zombie z)) ≡ ranges_in (tables_of p)
  unfolding tables_of
  all_left h z eh ez = rw (ef, eb, eh, ez)

-- a table read in ascending address
pub ordered_as : {A : Type 0} (f : A → Range) (l m : List A) → l ≡ m → Ascends (λ x. (f x).from) 0 m → Ascends start 0 (map f l)
ordered_as f l m e a = rw e (ascends-map f start 0 m a)

pub length_four : (f b h z : List Range) → length (sorted start (four f b h z)) ≡ length f + length b + length h + length z
length_four f b h z =
    omega (arith, length-sorted start (four f b h z), length-append (f ++ b) (h ++ z), length-append f b, length-append h z)

module _ (page va : ℕ) (roots : List Address) (c : ℕ) where
  -- what a range that passes is known to be
  pub placed_low : (k : Range) → placed page va roots c k ≡ true → upto k ≤ END
  unfolding placed
  placed_low k e = leb-true (upto k) END (both (leb (upto k) END) _ (both (leb c k.from) _ e).1).0

  -- nothing that is no address passes
  pub high-fails : (l : List Range) → 0 < length l → All High l → passes page va roots c l ≡ false
  unfolding placed
  high-fails [] n a = absurd (omega arith)
  high-fails (k ∷ l) n a = rw (lt-leb (upto k) END (omega (arith, a.0))) (nothing (leb c k.from))
    where
      nothing : (t : _) → (t && false && passes page va roots (upto k) l) ≡ false
      nothing true = refl
      nothing false = refl
