-- The triple that only says how a step may end a call: with outcomes of which `F` holds. One rule for each way that a step is made.
use mathlib.Core.Bool.{Bool, cond}
use mathlib.Core.List.{List}
use Prim.Native.Nat.{ℕ}
use Rattle.words.specs.declared.Answer.{Answer}
use Rattle.tables.specs.Values.{Tables}
use Rattle.tables.specs.Steps.{Step, Act, ◌>>=◌, give, each, tables, change}
use Rattle.tables.specs.Driver.{must, try}
use Rattle.tables.specs.declared.Outcome.{Outcome}
use Rattle.tables.specs.declared.Outcome.TheVariants.{DriverFailed, AnswersRanOut}
use Rattle.keeping.specs.Holds.{Holds}
use Rattle.keeping.proofs.Holds.{Drives, holds-from, holds_then, holds-give, holds_looked, holds-change, holds-cond, holds-each, holds-must, holds-try}

abbrev pub Ends : {A : Type 0} → (Outcome → Type 0) → Step A → Type 0
Ends F m = Holds (λ _. Unit {0}) m (λ _ _. Unit {0}) (λ o _. F o)

module _ (F : Outcome → Type 0) where
  pub ends_then : {A B : Type 0} {m : Step A} {f : A → Step B} → Ends F m → ((a : A) → Ends F (f a)) → Ends F (m >>= f)
  ends_then h g = holds_then (λ _ _. Unit {0}) h g

  pub ends-give : {A : Type 0} (a : A) → Ends F (give a)
  ends-give a = holds-give a

  pub ends_looked : {B : Type 0} {f : Tables → Step B} → ((u : Tables) → Ends F (f u)) → Ends F (tables >>= f)
  ends_looked h = holds_looked (λ u _. holds-from (λ _ _. tt) (h u))

  pub ends-change : (f : Tables → Tables) → Ends F (change f)
  ends-change f = holds-change f (λ _ _. tt)

  pub ends-cond : {A : Type 0} (b : Bool) {m n : Step A} → Ends F m → Ends F n → Ends F (cond b m n)
  ends-cond b h g = holds-cond b (λ _. h) (λ _. g)

  pub ends-each : {A : Type 0} {f : A → Act} → ((x : A) → Ends F (f x)) → (l : List A) → Ends F (each f l)
  ends-each h l = holds-each (λ _ _. Unit {0}) (λ x _. h x) l

  -- 17 is how a driver call may end a call, and 14 how one may that must not fail.
  module _ (short : F AnswersRanOut) where
    pub ends-try : {m : Step Answer} → Drives m → Ends F (try m)
    ends-try d = holds-try d (λ _ _. short)

    pub ends-must : ((code : ℕ) → F (DriverFailed code)) → {m : Step Answer} → Drives m → Ends F (must m)
    ends-must fails d = holds-must d (λ _ _. short) (λ code _ _. fails code)
