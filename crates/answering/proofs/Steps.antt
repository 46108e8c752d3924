-- What the steps of each call may answer: 0 where they go on to the end, else what their rules may end a call with.
use mathlib.Core.Path.{◌≡◌}
use mathlib.Core.Bool.{true}
use mathlib.Core.List.{List}
use mathlib.Core.Option.{Option}
use Prim.Native.Nat.{ℕ, ◌*◌}
use lib.Dec.{eqb}
use Rattle.tables.specs.Values.{Tables}
use Rattle.tables.specs.Steps.{Ending, on, ends, Step}
use Rattle.tables.specs.Outcomes.{is}
use Rattle.tables.specs.NewPages.{at}
use Rattle.tables.specs.HandsBack.{outcome_of}
use Rattle.tables.specs.Open.{open_steps}
use Rattle.tables.specs.Malloc.{or_room, hand_over, malloc_steps}
use Rattle.tables.specs.Free.{free_steps}
use Rattle.tables.specs.Close.{close_steps}
use Rattle.tables.specs.declared.FreeRegion.{FreeRegion}
use Rattle.tables.specs.declared.LiveBuffer.{LiveBuffer}
use Rattle.tables.specs.declared.Outcome.{Outcome}
use Rattle.tables.specs.declared.Outcome.TheVariants.{
  RequestedExceedsVa,
  PagesFull,
  ZombiesFull,
  RootsFull,
  ReserveFailed,
  OutOfMemory,
  DriverFailed,
  Incredible,
  AnswersRanOut,
}
use Rattle.keeping.specs.Holds.{After}
use Rattle.keeping.proofs.Holds.{drives-unmap, drives-release, drives-sync, drives-giveback}
use Rattle.keeping.proofs.Kept.{Succeeds, malloc-succeeds, free-succeeds, open-succeeds}
use Rattle.answering.proofs.Ends.{
  Ends,
  ends_then,
  ends-give,
  ends_looked,
  ends-change,
  ends-cond,
  ends-each,
  ends-try,
  ends-must,
}
use Rattle.answering.proofs.Rules.{cleanup-ends, fit-ends, insert_free-ends, reserve_root-ends, make_room-ends, or_room-ends}

-- `F` holds of every success.
abbrev pub Done : (Outcome → Type 0) → Type 0
Done F = (o : Outcome) → is 0 o ≡ true → F o

-- So it holds of what steps answer that succeed where they go on.
answers : (F : Outcome → Type 0) → Done F → {m : Step Outcome} → Succeeds m → Ends F m → (xs : List ℕ) (k : ℕ) (t : Tables) →
    F (outcome_of (m xs k t).ending)
answers F done {m} s h xs k t = go (m xs k t).tables (m xs k t).ending (s.leaves xs k t tt) (h.leaves xs k t tt)
  where
    go : (u : Tables) (e : Ending Outcome) → After (λ o _. is 0 o ≡ true) (λ _ _. Unit {0}) u e → After (λ _ _. Unit {0}) (λ o _. F o) u e → F (outcome_of e)
    go u (on o) q f = done o q
    go u (ends o) q f = f

-- What make room may end a call with: 12 to 15, and 17.
pub record Met (F : Outcome → Type 0) : Type 0 where
  pub reserves : (va page : ℕ) → F (ReserveFailed va page)
  pub memory : (missing made : ℕ) → F (OutOfMemory missing made)
  pub fails : (code : ℕ) → F (DriverFailed code)
  pub incredible : F Incredible
  pub short : F AnswersRanOut

-- 8 to 11
pub record NoRoom (F : Outcome → Type 0) : Type 0 where
  pub exceeds : (size va : ℕ) → F (RequestedExceedsVa size va)
  pub pages : F PagesFull
  pub zombies : F ZombiesFull
  pub roots : F RootsFull

module _ (F : Outcome → Type 0) where
  opens : Met F → (initial stream : ℕ) → Ends F (open_steps initial stream)
  unfolding open_steps
  opens m initial stream =
      ends_then F (reserve_root-ends F m.short m.fails m.reserves m.incredible 0) (λ base.
      ends_looked F (λ t.
      ends_then F
      (ends-cond F (eqb initial 0) (ends-give F tt)
      (ends_then F (make_room-ends F m.short m.fails m.reserves m.incredible m.memory (initial * t.fields.page) stream) (λ _.
      ends-must F m.short m.fails (drives-sync stream)))) (λ _.
      ends-give F _)))

  pub open_steps-answer : Done F → Met F → (initial stream : ℕ) (xs : List ℕ) (k : ℕ) (t : Tables) →
      F (outcome_of (open_steps initial stream xs k t).ending)
  open_steps-answer done m initial stream = answers F done (open-succeeds initial stream) (opens m initial stream)

  module _ (m : Met F) (r : NoRoom F) (n s : ℕ) where
    or-room : (o : Option FreeRegion) → Ends F (or_room n s o)
    or-room = or_room-ends F m.short m.fails m.reserves m.incredible m.memory r.exceeds r.pages r.zombies r.roots n s

    hands-over : (q : FreeRegion) → Ends F (hand_over n s q)
    unfolding hand_over
    hands-over q =
        ends_then F (ends-change F _) (λ _.
        ends_then F (ends-change F _) (λ _.
        ends_then F (ends-change F _) (λ _. ends-give F _)))

    mallocs : Ends F (malloc_steps n s)
    unfolding malloc_steps
    mallocs =
        ends_then F (cleanup-ends F m.short) (λ _.
        ends_then F (fit-ends F m.short n s) (λ o.
        ends_then F (or-room o) hands-over))

    pub malloc_steps-answer : Done F → (xs : List ℕ) (k : ℕ) (t : Tables) → F (outcome_of (malloc_steps n s xs k t).ending)
    malloc_steps-answer done = answers F done (malloc-succeeds n s) mallocs

  module _ (short : F AnswersRanOut) (fails : (code : ℕ) → F (DriverFailed code)) (b : LiveBuffer) where
    frees : Ends F (free_steps b)
    unfolding free_steps
    frees =
        ends_then F (ends-change F _) (λ _.
        ends_then F (insert_free-ends F short fails b.start.0 b.size b.stream) (λ _. ends-give F _))

    pub free_steps-answer : Done F → (xs : List ℕ) (k : ℕ) (t : Tables) → F (outcome_of (free_steps b xs k t).ending)
    free_steps-answer done = answers F done (free-succeeds b) frees

  -- Only 17 ends a close early.
  pub close_steps-ends : F AnswersRanOut → Ends F close_steps
  unfolding close_steps
  close_steps-ends short =
      ends_looked F (λ t.
      ends_then F (ends-try F short (drives-sync 0)) (λ _.
      ends_then F (ends-each F (λ z. ends-try F short (drives-unmap z.start.0 z.size)) t.zombies) (λ _.
      ends_then F
      (ends-each F
      (λ g. ends_then F (ends-try F short (drives-unmap (at g) t.fields.page)) (λ _. ends-try F short (drives-release g.handle.0))) t.pages) (λ _.
      ends-each F (λ a. ends-try F short (drives-giveback a.0 t.fields.va)) t.roots))))
