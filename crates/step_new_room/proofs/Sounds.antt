-- What the code leans on, carried over from the rules: a range that was taken is in hand, and the pages made in it are bare.
use mathlib.Core.Path.{◌≡◌}
use mathlib.Core.List.{List}
use Prim.Native.Nat.{ℕ, ◌-◌, ◌/◌, ◌%◌, ◌≤◌}
use native.Mathlib.Omega.{arith}
use Rattle.tables.specs.Bounds.{PAGES}
use Rattle.tables.specs.Values.{Tables}
use Rattle.tables.specs.Steps.{on}
use Rattle.tables.specs.TakeRange.{take_range}
use Rattle.tables.specs.NewPages.{make_pages}
use Rattle.keeping.specs.Sound.{Whole, Kept}
use Rattle.keeping.specs.MakeRoom.{TakesFrom, PagesTo, Made, Measured}
use Rattle.keeping.proofs.Counts.{few-ceilings}
use Rattle.keeping.proofs.TakeRange.{TakenRange, takes-range}
use Rattle.keeping.proofs.NewPages.{makes-missing}
use Rattle.keeping.proofs.MakeRoom.{aligned-missing, taken, taken-begins, taken-measured}
use Rattle.driving.specs.Ran.{Ran, Point}
use Rattle.driving.proofs.Holds.{holds-ran}

module _ (lost : ℕ → ℕ) (p f n : ℕ) (t : Tables) (g : TakesFrom lost p f ((n - f) / p) n t) where
  pub pages-few : (n - f) / p ≤ PAGES
  pages-few = omega (arith, g.few.pages)

  pub kept-before : Kept lost t
  kept-before = record { sound = g.sound; ceilings = few-ceilings (omega arith) g.few }

  size : Whole p n
  size = rw g.known.page at g.size

  aligned : (n - f) % p ≡ 0
  aligned = aligned-missing lost p f ((n - f) / p) n t g

  -- `m` bytes are missing, and the range is taken from `a` on
  module _ (s : ℕ) {xs : List ℕ} {u : Point} (a : ℕ) (r : (v : Point) × ((v.tables ≡ t) × Ran (take_range n) xs v (on a) u)) where
    in-hand : TakenRange lost p f ((n - f) / p) n a u.tables
    in-hand = holds-ran (takes-range lost p f ((n - f) / p) n) r.1.1 (rw r.1.0 g)

    pub pages-due : PagesTo lost p f ((n - f) / p) a n a u.tables
    pages-due = taken-begins lost p f n s size aligned a u.tables in-hand

    pub pages-made : {v : Point} → Ran (make_pages ((n - f) / p) (taken lost p f n s a) a) xs u (on tt) v →
        Made lost p f (taken lost p f n s a) v.tables × Measured p f (taken lost p f n s a)
    pages-made q =
        (holds-ran (makes-missing lost p f (taken lost p f n s a) aligned) q pages-due, taken-measured lost p f n s size aligned a u.tables in-hand)
