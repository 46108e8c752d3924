-- A second answer that meets a promise is the first: the layer, the outcome, the counts and every log cell.
use mathlib.Core.Path.{◌≡◌, sym, ◌∙◌}
use mathlib.Core.List.{List}
use Prim.Native.Nat.{ℕ}
use Rattle.manager_rules.specs.HandsBack.{Reply}
use Rattle.manager.specs.Promises.{Replies}
use Rattle.manager.specs.declared.Managed.{Managed}

-- the promise of each entry point is `Replies` of its rule
pub replies-once : (w : Reply) (r r' : Managed) (log m m' : List ℕ) → Replies w r log m → Replies w r' log m' → (r ≡ r') × (m ≡ m')
replies-once w r r' log m m' a b = (a.answer ∙ sym b.answer, a.cells ∙ sym b.cells)
