-- A peak is the most: at no line so far was the amount above it.
use mathlib.Core.Path.{◌≡◌, refl}
use mathlib.Core.Logic.{◌⊎◌, inl, inr}
use mathlib.Core.List.{List, [], ◌∷◌}
use Prim.Native.Nat.{ℕ, zero, suc, ◌+◌, ◌≤◌, ◌<◌}
use native.Mathlib.Omega.{arith}
use borrow.Author.Tests.{lt-ltb, le-ltb}
use lib.ListN.{length, drop}
use Rattle.lists.proofs.Tests.{cases_lt}
use Rattle.trace.specs.declared.Line.{Line}
use Rattle.summary_counts.specs.Counts.{live_bytes, mapped_bytes, higher, peak}
use Rattle.summary_counts.specs.declared.tallies.Peak.{Peak}

higher-most : (p : Peak) (a n : ℕ) → (p.most ≤ (higher p a n).most) × (a ≤ (higher p a n).most)
higher-most p a n = go (cases_lt p.most a)
  where
    go : (p.most < a) ⊎ (a ≤ p.most) → (p.most ≤ (higher p a n).most) × (a ≤ (higher p a n).most)
    go (inl h) = rw (lt-ltb p.most a h) (omega arith, omega arith)
    go (inr h) = rw (le-ltb p.most a h) (omega arith, omega arith)

-- `n` lines ago
module _ (f : List Line → ℕ) (none : f [] ≡ 0) where
  peak-most : (h : List Line) (n : ℕ) → f (drop n h) ≤ (peak f h).most
  peak-most [] zero = omega (arith, none)
  peak-most [] (suc n) = omega (arith, none)
  peak-most (l ∷ h) zero = (higher-most (peak f h) (f (l ∷ h)) (length h + 1)).1
  peak-most (l ∷ h) (suc n) = omega (arith, peak-most h n, (higher-most (peak f h) (f (l ∷ h)) (length h + 1)).0)

pub live-most : (h : List Line) (n : ℕ) → live_bytes (drop n h) ≤ (peak live_bytes h).most
live-most = peak-most live_bytes refl

pub mapped-most : (h : List Line) (n : ℕ) → mapped_bytes (drop n h) ≤ (peak mapped_bytes h).most
mapped-most = peak-most mapped_bytes refl
