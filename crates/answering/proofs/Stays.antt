-- The triple of steps that keep `I`, a fact about the tables: it is true after them if it was before, and they end a call only where `F` holds then.
-- One rule for each way that a step is made.
use mathlib.Core.Bool.{Bool, cond}
use mathlib.Core.List.{List}
use Prim.Native.Nat.{ℕ}
use Rattle.words.specs.declared.Answer.{Answer}
use Rattle.tables.specs.Values.{Tables}
use Rattle.tables.specs.Steps.{Step, Act, ◌>>=◌, give, end, end_if, each, tables, change}
use Rattle.tables.specs.Driver.{must, try, is_complete}
use Rattle.tables.specs.declared.Outcome.{Outcome}
use Rattle.tables.specs.declared.Outcome.TheVariants.{DriverFailed, AnswersRanOut}
use Rattle.keeping.specs.Holds.{Holds}
use Rattle.keeping.proofs.Holds.{
  Drives,
  holds-from,
  holds_to,
  holds_then,
  holds-give,
  holds-end,
  holds_looked,
  holds-change,
  holds-cond,
  holds-end_if,
  holds-each,
  holds_drive,
  holds-must,
  holds-try,
  holds-is_complete,
}

abbrev pub Stays : {A : Type 0} → (Tables → Type 0) → (Outcome → Tables → Type 0) → Step A → Type 0
Stays I F m = Holds I m (λ _. I) F

-- a call may end with `o` wherever `I` is true
abbrev pub May : (Tables → Type 0) → (Outcome → Tables → Type 0) → Outcome → Type 0
May I F o = (t : Tables) → I t → F o t

module _ {I : Tables → Type 0} {F : Outcome → Tables → Type 0} where
  pub stays_then : {A B : Type 0} {m : Step A} {f : A → Step B} → Stays I F m → ((a : A) → Stays I F (f a)) → Stays I F (m >>= f)
  stays_then h g = holds_then (λ _. I) h g

  pub stays-give : {A : Type 0} (a : A) → Stays I F (give a)
  stays-give a = holds-give a

  pub stays-end : {A : Type 0} (o : Outcome) → May I F o → Stays I F (end {A = A} o)
  stays-end o f = holds-from f (holds-end o)

  pub stays_looked : {B : Type 0} {f : Tables → Step B} → ((u : Tables) → Stays I F (f u)) → Stays I F (tables >>= f)
  stays_looked h = holds_looked (λ u i. holds-from (λ t e. rw e i) (h u))

  pub stays-change : (f : Tables → Tables) → ((t : Tables) → I t → I (f t)) → Stays I F (change f)
  stays-change f h = holds-change f h

  pub stays-cond : {A : Type 0} (b : Bool) {m n : Step A} → Stays I F m → Stays I F n → Stays I F (cond b m n)
  stays-cond b h g = holds-cond b (λ _. h) (λ _. g)

  pub stays-end_if : (b : Bool) (o : Outcome) → May I F o → Stays I F (end_if b o)
  stays-end_if b o f = holds_to (λ _ _ q. q.0) (holds-end_if b o (λ t i _. f t i))

  pub stays-each : {A : Type 0} {f : A → Act} → ((x : A) → Stays I F (f x)) → (l : List A) → Stays I F (each f l)
  stays-each h l = holds-each (λ _. I) (λ x _. h x) l

  -- 17 is how a driver call may end a call, and 14 how one may that must not fail.
  module _ (short : May I F AnswersRanOut) where
    pub stays_drive : {m : Step Answer} → Drives m → Stays I F m
    stays_drive d = holds_drive d short

    pub stays-try : {m : Step Answer} → Drives m → Stays I F (try m)
    stays-try d = holds-try d short

    pub stays-is_complete : (id : ℕ) → Stays I F (is_complete id)
    stays-is_complete id = holds-is_complete id short

    pub stays-must : ((code : ℕ) → May I F (DriverFailed code)) → {m : Step Answer} → Drives m → Stays I F (must m)
    stays-must fails d = holds-must d short fails
