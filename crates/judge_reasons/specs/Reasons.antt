-- What a reason says, of the judge's state before a line and of the line's numbers (docs/RULES.md 8.3, 8.4).
use Rattle.std.specs.Prelude.{◌≡◌, Bool, true, false, ◌&&◌, List, ◌⊎◌, ℕ, ◌+◌, ◌%◌, ◌^◌, ◌≤◌, ◌<◌, leb, eqb}
use Rattle.std.proofs.Math.Option.{none, some}
use Rattle.lists.specs.Tests.{any}
use Rattle.trace.specs.Kinds.{OPEN, RESULT, SMALL}
use Rattle.trace.specs.declared.Line.{Line}
use Rattle.judge_rules.specs.Ranges.{inside, clear}
use Rattle.judge_rules.specs.Rules.{Judge, Reservation, Page, Live, is_in, is_mapped}
use Rattle.judge_reasons.specs.declared.Reason.{Reason}
use Rattle.judge_reasons.specs.declared.Reason.TheVariants.{
  NotOpened,
  OpenAgain,
  PageSizeZero,
  CallWithinCall,
  AsideWithinCall,
  RecordOutside,
  ResultOutside,
  AfterClose,
  BaseZero,
  EndsBeyond,
  Overlaps,
  OtherSize,
  NotAligned,
  NotWhole,
  NoBytes,
  HandleNotHeld,
  AlreadyHeld,
  InNoReservation,
  AlreadyMapped,
  BeyondLastAddress,
  NotMapped,
  OverLive,
  StillMapped,
  GivenOtherSize,
  HandleTwice,
  HandleOfLive,
  NotLive,
  FreedOtherSize,
  FreedOtherStream,
  NotAbove,
  NothingRecorded,
  AboveLast,
  NotReserved,
  PageInside,
  Unexplained,
}

-- a reservation with this base and size is held; one holds the page at `address`
abbrev pub is_reserved : List Reservation → ℕ → ℕ → Bool
is_reserved rs base size = any (λ r. eqb r.base base && eqb r.size size) rs

abbrev pub is_around : List Reservation → ℕ → ℕ → Bool
is_around rs address page = any (λ r. leb r.base address && leb (address + page) (r.base + r.size)) rs

-- the page at `address` is mapped to `handle`
abbrev pub is_mapped_to : List Page → ℕ → ℕ → Bool
is_mapped_to m address handle = any (λ p. eqb p.at address && eqb p.handle handle) m

-- a live buffer starts here; is of this size; and of this stream; has this address
abbrev pub is_start : List Live → ℕ → Bool
is_start bs start = any (λ b. eqb b.start start) bs

abbrev pub is_live : List Live → ℕ → ℕ → Bool
is_live bs start size = any (λ b. eqb b.start start && eqb b.size size) bs

abbrev pub is_live_on : List Live → ℕ → ℕ → ℕ → Bool
is_live_on bs start size stream = any (λ b. eqb b.start start && eqb b.size size && eqb b.stream stream) bs

abbrev pub is_in_live : List Live → ℕ → Bool
is_in_live bs x = any (λ b. leb b.start x && leb (x + 1) (b.start + b.size)) bs

-- the number is one of the line's first two
abbrev pub Named : Line → ℕ → Type 0
Named l n = (n ≡ l.first) ⊎ (n ≡ l.second)

abbrev pub Other : ℕ → ℕ → Type 0
Other a b = a ≡ b → ⊥

unfoldable pub IsTrue : Judge → Line → Reason → Type 0
-- R0
IsTrue s l NotOpened = (s.run.opened ≡ false) × Other l.kind OPEN
IsTrue s l OpenAgain = (s.run.opened ≡ true) × (l.kind ≡ OPEN)
IsTrue s l PageSizeZero = (l.kind ≡ OPEN) × (l.first ≡ 0)
IsTrue s l CallWithinCall = (s.run.waiting ≡ true) × ((OPEN ≤ l.kind) × (l.kind < RESULT))
IsTrue s l AsideWithinCall = (s.run.waiting ≡ true) × (SMALL ≤ l.kind)
IsTrue s l RecordOutside = (s.run.waiting ≡ false) × (l.kind < OPEN)
IsTrue s l ResultOutside = (s.run.waiting ≡ false) × (l.kind ≡ RESULT)
IsTrue s l AfterClose = s.run.over ≡ true
-- R1
IsTrue s l BaseZero = l.first ≡ 0
IsTrue s l (EndsBeyond base size) = (base ≡ l.first) × ((size ≡ l.second) × (2 ^ 63 < base + size))
IsTrue s l (Overlaps base size) = (is_reserved s.reservations base size ≡ true) × (clear l.first l.second base size ≡ false)
IsTrue s l (OtherSize size va) = (size ≡ l.second) × ((va ≡ s.run.va) × Other size va)
-- of several rules
IsTrue s l (NotAligned address page) = (address ≡ l.first) × ((page ≡ s.run.page) × Other (address % page) 0)
IsTrue s l (NotWhole bytes page) = (bytes ≡ l.second) × ((page ≡ s.run.page) × Other (bytes % page) 0)
IsTrue s l (NoBytes address) = (address ≡ l.first) × (l.second ≡ 0)
IsTrue s l (HandleNotHeld handle) = Named l handle × (is_in handle s.held ≡ false)
-- R2
IsTrue s l (AlreadyHeld handle) = (handle ≡ l.first) × (is_in handle s.held ≡ true)
-- R3
IsTrue s l (InNoReservation address) = (address ≡ l.first) × (is_around s.reservations address s.run.page ≡ false)
IsTrue s l (AlreadyMapped address handle) = (address ≡ l.first) × (is_mapped_to s.mapped address handle ≡ true)
-- R4, R6, R7
IsTrue s l (BeyondLastAddress address bytes) = (address ≡ l.first) × ((bytes ≡ l.second) × (2 ^ 64 ≤ address + bytes))
IsTrue s l (NotMapped address) =
    (inside l.first l.second address ≡ true) × ((address % s.run.page ≡ 0) × (is_mapped s.mapped address ≡ false))
IsTrue s l (OverLive start size) = (is_live s.live start size ≡ true) × (clear l.first l.second start size ≡ false)
-- R5
IsTrue s l (StillMapped handle address) = (handle ≡ l.first) × (is_mapped_to s.mapped address handle ≡ true)
-- R7
IsTrue s l (GivenOtherSize given asked) = (given ≡ l.second) × ((asked ≡ s.run.asked.first) × Other given asked)
IsTrue s l (HandleTwice handle address other) =
    Other address other
    × ((inside l.first l.second address ≡ true)
    × ((is_mapped_to s.mapped address handle ≡ true)
    × ((is_mapped_to s.mapped other handle ≡ true) × (inside l.first l.second other ≡ true))))
IsTrue s l (HandleOfLive handle address other) =
    Other address other
    × ((inside l.first l.second address ≡ true)
    × ((is_mapped_to s.mapped address handle ≡ true) × ((is_mapped_to s.mapped other handle ≡ true) × (is_in_live s.live other ≡ true))))
-- R8
IsTrue s l (NotLive address) = (address ≡ s.run.asked.first) × (is_start s.live address ≡ false)
IsTrue s l (FreedOtherSize address size there) =
    (address ≡ s.run.asked.first) × ((size ≡ l.first) × (Other size there × (is_live s.live address there ≡ true)))
IsTrue s l (FreedOtherStream address stream there) =
    (address ≡ s.run.asked.first) × ((stream ≡ l.second) × (Other stream there × (is_live_on s.live address l.first there ≡ true)))
-- R9
IsTrue s l (NotAbove id last) = (id ≡ l.first) × ((s.last ≡ some last) × (id ≤ last))
IsTrue s l (NothingRecorded id) = (id ≡ l.first) × (s.last ≡ none)
IsTrue s l (AboveLast id last) = (id ≡ l.first) × ((s.last ≡ some last) × (last < id))
-- R10
IsTrue s l (NotReserved base size) = (base ≡ l.first) × ((size ≡ l.second) × (is_reserved s.reservations base size ≡ false))
IsTrue s l (PageInside address) = (inside l.first l.second address ≡ true) × (is_mapped s.mapped address ≡ true)
IsTrue s l Unexplained = Unit {0}
