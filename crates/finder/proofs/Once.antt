-- A second answer that meets a promise is the first: the pool or the layer, the numbers, the counts and every log cell.
use mathlib.Core.Path.{◌≡◌, sym, ◌∙◌}
use mathlib.Core.List.{List}
use Prim.Native.Nat.{ℕ}
use Rattle.tables.specs.HandsBack as rule
use Rattle.manager_rules.specs.HandsBack as layer
use Rattle.finder.specs.Promises.{Tells}
use Rattle.finder.specs.Manages.{Manages}
use Rattle.finder.specs.declared.Reply.{Reply}
use Rattle.finder.specs.declared.ManagerReply.{ManagerReply}

-- the promise of each function is `Tells` of its rule
pub tells-once : (w : rule.Reply) (r r' : Reply) (log m m' : List ℕ) → Tells w r log m → Tells w r' log m' → (r ≡ r') × (m ≡ m')
tells-once w r r' log m m' a b = (a.reply ∙ sym b.reply, a.cells ∙ sym b.cells)

pub manages-once : (w : layer.Reply) (r r' : ManagerReply) (log m m' : List ℕ) → Manages w r log m → Manages w r' log m' → (r ≡ r') × (m ≡ m')
manages-once w r r' log m m' a b = (a.reply ∙ sym b.reply, a.cells ∙ sym b.cells)
