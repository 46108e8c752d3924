-- Laws of `Apart`: what it says of each hole of a list, and that the lower bound may be lower.
use mathlib.Core.List.{List, [], ◌∷◌}
use Prim.Native.Nat.{ℕ, zero, suc, ◌≤◌, ◌<◌}
use native.Mathlib.Omega.{arith}
use native.Mathlib.Nat.{le_of_suc-le-suc}
use lib.ListN.{length, get_or}
use Rattle.lists.specs.Tests.{All}
use Rattle.tables.specs.InsertHole.{from, upto, Apart}
use Rattle.tables.specs.declared.Hole.{Hole}

-- it ends at or below the one bound
pub all_apart : (b m : ℕ) (l : List Hole) → Apart b m l → (b ≤ m) × All (λ h. upto h ≤ m) l
all_apart b m [] w = (w, tt)
all_apart b m (h ∷ l) w =
    let r = all_apart (upto h) m l w.1.1 in
    (omega arith, (r.0, r.1))

-- and starts above the other
pub apart_above : (b m i : ℕ) (l : List Hole) (z : Hole) → Apart b m l → i < length l → b < from (get_or l i z)
apart_above b m i [] z w h = absurd (omega arith)
apart_above b m zero (x ∷ l) z w h = w.0
apart_above b m (suc i) (x ∷ l) z w h = omega (arith, w.0, apart_above (upto x) m i l z w.1.1 (le_of_suc-le-suc h))

pub apart_below : (c b m : ℕ) (l : List Hole) → c ≤ b → Apart b m l → Apart c m l
apart_below c b m [] p w = omega arith
apart_below c b m (h ∷ l) p w = (omega arith, w.1)
