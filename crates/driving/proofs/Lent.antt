-- What is lent stays lent: step by step, with room for what is left to be recorded.
use mathlib.Core.Path.{◌≡◌, refl, ◌∙◌}
use Prim.Native.Nat.{ℕ, ◌+◌, ◌≤◌}
use native.Mathlib.Omega.{arith}
use Rattle.driving.specs.Ran.{Lent, RoomFor}
use Rattle.driving.specs.declared.Driver.{Driver}

pub lent-same : (d : Driver) → Lent d d
lent-same d = record { answers = refl; log = refl; cells = refl }

pub lent-then : {a b c : Driver} → Lent a b → Lent b c → Lent a c
lent-then x y = record { answers = y.answers ∙ x.answers; log = y.log ∙ x.log; cells = y.cells ∙ x.cells }

-- of the room for `n` records `k` are used, and `m` of the others are asked for
pub room-left : {n : ℕ} (k m : ℕ) {d d' : Driver} → RoomFor n d → Lent d d' → d'.made ≤ d.made + k → k + m ≤ n → RoomFor m d'
room-left k m r l h e = omega (arith, r, l.cells, h, e)
