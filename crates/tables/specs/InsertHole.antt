-- docs/RULES.md 3.1: insert hole.
use Rattle.std.specs.Prelude.{cond, List, [], ◌∷◌, ℕ, ◌+◌, ◌≤◌, ◌<◌, ltb, eqb}
use Rattle.tables.specs.Values.{hole}
use Rattle.tables.specs.declared.Hole.{Hole}

-- where a hole starts and ends
abbrev pub from : Hole → ℕ
from h = h.start.0

abbrev pub upto : Hole → ℕ
upto h = h.start.0 + h.size

-- `h` in front of the list, as one hole with the first where the two touch
abbrev pub glue : Hole → List Hole → List Hole
glue h [] = h ∷ []
glue h (k ∷ l) = cond (eqb (upto h) (from k)) (hole (from h) (h.size + k.size) ∷ l) (h ∷ k ∷ l)

-- the range in its place by address, as one hole with those that it touches
abbrev pub insert_range : ℕ → ℕ → List Hole → List Hole
insert_range a n [] = hole a n ∷ []
insert_range a n (h ∷ l) = cond (ltb a (from h)) (glue (hole a n) (h ∷ l)) (glue h (insert_range a n l))

-- A range of size 0 is no hole.
unfoldable pub insert_hole : ℕ → ℕ → List Hole → List Hole
insert_hole a n l = cond (eqb n 0) l (insert_range a n l)

-- holes in ascending address, none empty, no two touching, all above `b` and ending at or below `m`
abbrev pub Apart : ℕ → ℕ → List Hole → Type 0
Apart b m [] = b ≤ m
Apart b m (h ∷ l) = (b < from h) × ((0 < h.size) × Apart (upto h) m l)
