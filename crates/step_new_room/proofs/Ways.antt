-- The ways of make room's first half, each its steps in order: no range is taken, its pages are not all made, or they are and the rest follows.
use mathlib.Core.Path.{◌≡◌}
use mathlib.Core.List.{List}
use Prim.Native.Nat.{ℕ, ◌-◌, ◌/◌}
use Rattle.tables.specs.Steps.{Ending, on, ends, ◌>>=◌}
use Rattle.tables.specs.InsertFree.{bytes}
use Rattle.tables.specs.TakeRange.{take_range}
use Rattle.tables.specs.NewPages.{Room, make_pages, insert_new}
use Rattle.tables.specs.MakeRoom.{fill, make_room}
use Rattle.tables.specs.declared.FreeRegion.{FreeRegion}
use Rattle.tables.specs.declared.Outcome.{Outcome}
use Rattle.driving.specs.Ran.{Ran, Point}
use Rattle.driving.proofs.Ran.{next, stop, looked}

module _ {xs : List ℕ} {s : Point} (n st : ℕ) where
  pub range-stops : {o : Outcome} {u : Point} → Ran (take_range n) xs s (ends o) u → Ran (make_room n st) xs s (ends o) u
  unfolding make_room
  range-stops r = next _ looked (stop _ r)

  -- `m` bytes are missing, and the range is taken from `a` on
  module _ {a : ℕ} {u : Point} (m : ℕ) (lack : m ≡ n - bytes s.tables.free) (r : Ran (take_range n) xs s (on a) u) where
    abbrev room : Room
    room = record { start = a; size = n; missing = m; stream = st }

    pub pages-stop : {o : Outcome} {v : Point} → Ran (make_pages (m / s.tables.fields.page) room a) xs u (ends o) v → Ran (make_room n st) xs s (ends o) v
    unfolding make_room
    pages-stop q = next _ looked (next _ r (stop _ (rw lack at q)))

    pub pages_go : {v w : Point} → Ran (make_pages (m / s.tables.fields.page) room a) xs u (on tt) v → (e : Ending FreeRegion) →
        Ran (insert_new room >>= λ x. fill room x) xs v e w → Ran (make_room n st) xs s e w
    unfolding make_room
    pages_go q e p = next _ looked (next _ r (next _ (rw lack at q) (rw lack at p)))
