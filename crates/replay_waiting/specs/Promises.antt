-- What `advance` does with a chunk, whatever may follow it.
use Rattle.std.specs.Prelude.{◌≡◌, true, false, Option, Some, None, List, [], ◌++◌, ℕ, ◌+◌, ◌≤◌, ◌<◌, length, take, drop}
use Rattle.tables.specs.declared.Pool.{Pool}
use Rattle.trace.specs.Form.{bad_line}
use Rattle.trace.specs.Put.{Put}
use Rattle.trace.specs.declared.Line.{Line}
use Rattle.replay_answers.specs.Promises.{KEPT, Keeps, Fed}
use Rattle.replay_lines.specs.Traced.{is_open}
use Rattle.replay_rules.specs.Replay.{ran}
use Rattle.replay_waiting.specs.Places.{waiting_at, over_at, waiting_of, is_ended, todo}
use Rattle.replay_waiting.specs.declared.Pending.{Pending}
use Rattle.replay_waiting.specs.declared.Place.{Place}
use Rattle.replay_waiting.specs.declared.Advanced.{Advanced}

-- nothing is printed, and no call is due
abbrev pub reading : ℕ → ℕ → Place → Advanced
reading at count place = record { at = at; filled = 0; due = None; count = count; place = place }

-- the run ends at a line that is malformed
abbrev pub stopped : ℕ → ℕ → ℕ → ℕ → Advanced
stopped at n count filled = record { at = at; filled = filled; due = None; count = count; place = over_at n count }

pub record Stops (at n count : ℕ) (out out' : List ℕ) (r : Advanced) : Type 0 where
  pub is : r ≡ stopped at n count r.filled
  pub puts : Put out out' 0 r.filled (bad_line n)

-- a call line is met, and the call that waited is due
abbrev pub due_at : Pending → Line → ℕ → ℕ → ℕ → Advanced
due_at w l at n count = record { at = at; filled = 0; due = Some w; count = count; place = waiting_at l n }

pub record Meets (w : Pending) (l : Line) (at n count : ℕ) (out out' : List ℕ) (r : Advanced) : Type 0 where
  pub bad : is_open l ≡ true → Stops at n count out out' r
  pub due : is_open l ≡ false → r ≡ due_at w l at n count

-- what is printed: by the call that is due, or else so
abbrev pub due_or : Option Pending → (Pending → List ℕ) → List ℕ → List ℕ
due_or None f xs = xs
due_or (Some w) f xs = f w

-- how many answers are then lent: none to the call that waits behind one that is due
abbrev pub left : Option Pending → ℕ → ℕ
left None count = count
left (Some w) count = 0

-- Whatever follows the chunk: what was printed and is then to be printed, or what the call that is due prints and is then to be printed, is what was to be
-- printed. `xs` are the answers lent before, `answers` those lent now.
pub record Goes (s : Place) (chunk : List ℕ) (at : ℕ) (xs cells out : List ℕ) (r : Advanced) : Type 0 where
  pub answers : List ℕ
  pub keeps : Keeps cells r.count answers
  pub same : (show : Pool → List ℕ) (p : Pool) (more : List ℕ)
      → due_or r.due (λ w. ran show p (waiting_of w answers) (λ q. todo show q r.place [] (drop r.at chunk ++ more)))
      (take r.filled out ++ todo show p r.place answers (drop r.at chunk ++ more))
      ≡ todo show p s xs (drop at chunk ++ more)

pub record Advances (s : Place) (chunk : List ℕ) (at : ℕ) (cells cells' out : List ℕ) (r : Advanced) : Type 0 where
  pub within : r.at ≤ length chunk
  pub moved : at < length chunk → at < r.at
  pub counted : r.place.line + at ≤ s.line + r.at
  pub lines : 1 ≤ r.place.line
  pub few : r.count ≤ KEPT
  pub next : r.place.count ≡ left r.due r.count
  pub filled : r.filled ≤ length out
  pub fed : Fed chunk → at < length chunk → is_ended r.place ≡ true
  pub goes : (xs : List ℕ) → Keeps cells s.count xs → Goes s chunk at xs cells' out r

-- the same of a place before the first line, and of one at which a call waits
pub record Begins (s : Place) (chunk : List ℕ) (at : ℕ) (out : List ℕ) (r : Advanced) : Type 0 where
  pub advances : s.over ≡ false → s.pending ≡ None → (cells : List ℕ) → Advances s chunk at cells cells out r

pub record GoesOn (s : Place) (w : Pending) (chunk : List ℕ) (at : ℕ) (cells cells' out : List ℕ) (r : Advanced) : Type 0 where
  pub advances : s.over ≡ false → s.pending ≡ Some w → Advances s chunk at cells cells' out r
