-- docs/RULES.md 8.9: what a trace means, from its lines alone and not from the judge's state. The lines so far are a list, the newest first.
use Rattle.std.specs.Prelude.{◌≡◌, true, cond, not, List, [], ◌∷◌, map, ℕ, ◌+◌, ◌%◌, ◌≤◌, ◌<◌, eqb}
use Rattle.std.proofs.Math.Option.{Option, none, some}
use Rattle.lists.specs.Tests.{All, Pairs, Member, filter, distinct}
use Rattle.trace.specs.declared.Line.{Line}
use Rattle.trace.specs.declared.Reading.{Reading}
use Rattle.trace.specs.declared.Reading.TheVariants.{Good, Malformed}
use Rattle.judge_rules.specs.Said.{said}
use Rattle.judge_rules.specs.Ranges.{pages}
use Rattle.judge_rules.specs.Rules.{Reservation}
use Rattle.judge_rules.specs.SoFar.{is_record, place, succeeds, page_size, call, reservations, Held, held, Mapped, mapped}
use Rattle.judge_rules.specs.declared.Call.TheVariants.{Malloc, Free, Close}

-- What the page at an address shows: a handle, by the line that mapped it there and by the line that created it. A page that is unmapped and mapped anew,
-- and a handle that is released and created anew, come from another line.
pub record Shown : Type 0 where
  pub handle : ℕ
  pub mapped : ℕ
  pub created : ℕ

-- the value of the first element with the key `x`
abbrev pub lookup : {A B : Type 0} → (A → ℕ) → (A → Option B) → List A → ℕ → Option B
lookup key value [] x = none
lookup key value (y ∷ l) x = cond (eqb (key y) x) (value y) (lookup key value l x)

-- the line that a held handle is from
abbrev pub created_by : List Held → ℕ → Option ℕ
created_by cs k = lookup (λ c. c.handle) (λ c. some c.created) cs k

-- nothing is shown by a handle that is not held
abbrev pub from : Mapped → Option ℕ → Option Shown
from m none = none
from m (some line) = some (record { handle = m.handle; mapped = m.mapped; created = line })

abbrev pub shown_by : List Held → List Mapped → ℕ → Option Shown
shown_by cs ms x = lookup (λ m. m.at) (λ m. from m (created_by cs m.handle)) ms x

abbrev pub shown : List Line → ℕ → Option Shown
shown h x = shown_by (held h) (mapped h) x

-- A live buffer, with what its pages showed, in order, when it was handed over.
pub record Buffer : Type 0 where
  pub start : ℕ
  pub size : ℕ
  pub stream : ℕ
  pub shown : List Shown

-- those that are there
abbrev pub there : {A : Type 0} → List (Option A) → List A
there [] = []
there (none ∷ l) = there l
there (some x ∷ l) = x ∷ there l

-- A malloc's result with 0 hands a buffer over; a free's ends the one at its address; a close's first record ends all, and the later ones find none.
abbrev pub handed_over : Line → List Line → Buffer
handed_over l before =
    record {
      start = l.first;
      size = l.second;
      stream = (call before).second;
      shown = there (map (shown before) (pages (page_size before) l.first l.second));
    }

-- those of `bs` that a record leaves
abbrev pub left_by : List Line → List Buffer → List Buffer
left_by before bs = cond (eqb (place (call before).call) (place Close)) [] bs

abbrev pub live : List Line → List Buffer
live [] = []
live (l ∷ before) =
    cond (succeeds Malloc l before) (handed_over l before ∷ live before)
    (cond (succeeds Free l before) (filter (λ b. not (eqb b.start (call before).first)) (live before))
    (cond (is_record (said l.kind)) (left_by before (live before))
    (live before)))

-- the address `x` is in the buffer; in the reservation
abbrev pub Holds : Buffer → ℕ → Type 0
Holds b x = (b.start ≤ x) × (x < b.start + b.size)

abbrev pub Reserves : Reservation → ℕ → Type 0
Reserves r x = (r.base ≤ x) × (x < r.base + r.size)

-- Two buffers, or two reservations, have no address in common; two buffers have no handle in common.
abbrev pub NoAddress : Buffer → Buffer → Type 0
NoAddress b c = (x : ℕ) → Holds b x → Holds c x → ⊥

abbrev pub NoReserved : Reservation → Reservation → Type 0
NoReserved r s = (x : ℕ) → Reserves r x → Reserves s x → ⊥

abbrev pub handles : Buffer → List ℕ
handles b = map (λ s. s.handle) b.shown

abbrev pub NoHandle : Buffer → Buffer → Type 0
NoHandle b c = (k : ℕ) → Member k (handles b) → Member k (handles c) → ⊥

-- the page at `x` lies in one of the reservations
pub record Within (p : ℕ) (rs : List Reservation) (x : ℕ) : Type 0 where
  pub reservation : Reservation
  pub one : Member reservation rs
  pub whole : (reservation.base ≤ x) × (x + p ≤ reservation.base + reservation.size)

-- A buffer, where the page size is `p`, `u x` is what the page at `x` shows and `rs` are the reservations that stand:
pub record Kept (p : ℕ) (u : ℕ → Option Shown) (rs : List Reservation) (b : Buffer) : Type 0 where
  -- it is whole pages;
  pub whole : (b.start % p ≡ 0) × (b.size % p ≡ 0)
  -- each shows what it showed at the hand-over: the handle, held since the same creation, by the same map, so that nothing has unmapped it since;
  pub same : map u (pages p b.start b.size) ≡ map some b.shown
  -- and lies in a reservation that is not given back.
  pub within : All (Within p rs) (pages p b.start b.size)

-- What holds of the live buffers `bs`:
pub record Sound (p : ℕ) (u : ℕ → Option Shown) (rs : List Reservation) (bs : List Buffer) : Type 0 where
  -- no two of them have an address in common;
  pub apart : Pairs NoAddress bs
  -- each keeps its pages;
  pub kept : All (Kept p u rs) bs
  -- no handle lies under two of them or twice under one;
  pub own : Pairs NoHandle bs
  pub once : All (λ b. distinct (handles b) ≡ true) bs
  -- and no two reservations that stand have an address in common.
  pub reserved : Pairs NoReserved rs

-- the same of the lines so far
abbrev pub SoundAfter : List Line → Type 0
SoundAfter h = Sound (page_size h) (shown h) (reservations h) (live h)

-- the lines of a trace behind those of `before`, the newest first; a malformed one says nothing
abbrev pub newest_first : List Line → List Reading → List Line
newest_first before [] = before
newest_first before (Good l ∷ t) = newest_first (l ∷ before) t
newest_first before (Malformed ∷ t) = newest_first before t
