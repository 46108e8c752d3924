-- A second answer that meets a promise is the first: the outcome, the pool, the counts and every log cell.
use mathlib.Core.Path.{◌≡◌, sym, ◌∙◌}
use mathlib.Core.List.{List}
use Prim.Native.Nat.{ℕ}
use Rattle.tables.specs.HandsBack.{Reply}
use Rattle.tables.specs.Calls.{Call}
use Rattle.calls.specs.Promises.{Replies, Opens, Answers}
use Rattle.calls.specs.declared.Pool.{Pool}
use Rattle.calls.specs.declared.Called.{Called}

module _ (log : List ℕ) (r r' : Called) (m m' : List ℕ) where
  replies-once : (w : Reply) → Replies w r log m → Replies w r' log m' → (r ≡ r') × (m ≡ m')
  replies-once w a b = (a.answer ∙ sym b.answer, a.cells ∙ sym b.cells)

  pub open-once : (granularity override va initial stream : ℕ) (xs : List ℕ) → Opens granularity override va initial stream xs log r m →
      Opens granularity override va initial stream xs log r' m' → (r ≡ r') × (m ≡ m')
  open-once granularity override va initial stream xs = replies-once _

  pub call-once : (p : Pool) (c : Call) (xs : List ℕ) → Answers p c xs log r m → Answers p c xs log r' m' → (r ≡ r') × (m ≡ m')
  call-once p c xs = replies-once _
