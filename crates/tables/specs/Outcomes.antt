-- docs/RULES.md 4.1: the number, first and second of every outcome.
use Rattle.std.specs.Prelude.{Bool, ℕ, eqb}
use Rattle.tables.specs.declared.Numbers.{Numbers}
use Rattle.tables.specs.declared.Outcome.{Outcome}
use Rattle.tables.specs.declared.Outcome.TheVariants.{
  Opened,
  Allocated,
  Freed,
  Closed,
  PoolClosed,
  PoolStopped,
  NotWellFormed,
  ShortLog,
  IdsSpent,
  BadSize,
  SpansFull,
  RequestedExceedsVa,
  PagesFull,
  ZombiesFull,
  RootsFull,
  ReserveFailed,
  OutOfMemory,
  DriverFailed,
  Incredible,
  InvalidPointer,
  AnswersRanOut,
  BadConfiguration,
  SmallBuffersFull,
}

abbrev pub answers : ℕ → ℕ → ℕ → Numbers
answers n a b = record { number = n; first = a; second = b }

abbrev pub numbers : Outcome → Numbers
numbers (Opened base page) = answers 0 base.0 page
numbers (Allocated start size) = answers 0 start.0 size
numbers (Freed size stream) = answers 0 size stream
numbers (Closed failures) = answers 0 failures 0
numbers PoolClosed = answers 1 0 0
numbers PoolStopped = answers 2 0 0
numbers NotWellFormed = answers 3 0 0
numbers ShortLog = answers 4 0 0
numbers IdsSpent = answers 5 0 0
numbers (BadSize size) = answers 6 size 0
numbers SpansFull = answers 7 0 0
numbers (RequestedExceedsVa size va) = answers 8 size va
numbers PagesFull = answers 9 0 0
numbers ZombiesFull = answers 10 0 0
numbers RootsFull = answers 11 0 0
numbers (ReserveFailed va page) = answers 12 va page
numbers (OutOfMemory missing made) = answers 13 missing made
numbers (DriverFailed code) = answers 14 code 0
numbers Incredible = answers 15 0 0
numbers (InvalidPointer start) = answers 16 start.0 0
numbers AnswersRanOut = answers 17 0 0
numbers BadConfiguration = answers 19 0 0
numbers SmallBuffersFull = answers 20 0 0

abbrev pub is : ℕ → Outcome → Bool
is n o = eqb (numbers o).number n
