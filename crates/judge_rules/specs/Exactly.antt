-- docs/RULES.md 8.2, 8.6, 8.8: what a line must keep, and the first that does not. A line is held against what the lines before it say (SoFar), so nothing here
-- depends on the walk of Verdict.
use Rattle.std.specs.Prelude.{◌≡◌, Bool, true, false, cond, ◌||◌, not, List, [], ◌∷◌, map, ℕ, suc, ◌+◌, ◌<◌, leb, eqb, length, take, drop}
use Rattle.std.proofs.Math.Option.{Option, none, some}
use Rattle.words.specs.declared.Word.{Word}
use Rattle.words.specs.declared.Word.TheVariants.{
  Reserve,
  Create,
  Map,
  Access,
  Unmap,
  Release,
  Record as RecordEvent,
  Asked as AskedFor,
  Wait,
  Sync,
  Giveback,
}
use Rattle.trace.specs.declared.Line.{Line}
use Rattle.trace.specs.declared.Reading.{Reading}
use Rattle.trace.specs.declared.Reading.TheVariants.{Good, Malformed}
use Rattle.judge_rules.specs.Said.{said}
use Rattle.judge_rules.specs.Rules.{Page, Live, Judge, R0, R1, R2, R3, R4, R5, R6, R7, R8, R9_recorded, R9_asked, R10}
use Rattle.judge_rules.specs.Sizes.{
  most_reservations,
  most_held,
  most_live,
  most_mapped,
  too_many_reservations,
  too_many_held,
  too_many_live,
  too_many_mapped,
}
use Rattle.judge_rules.specs.SoFar.{page_size, va_size, call, waiting, over, reservations, held, Mapped, mapped, last}
use Rattle.judge_rules.specs.Meaning.{Buffer, left_by, live, newest_first}
use Rattle.judge_rules.specs.declared.Call.{Call}
use Rattle.judge_rules.specs.declared.Call.TheVariants.{Open, Malloc, Free, Close}
use Rattle.judge_rules.specs.declared.Said.{Said}
use Rattle.judge_rules.specs.declared.Said.TheVariants.{Record, Call as Calls, Result, Aside, Unknown}
use Rattle.judge_rules.specs.declared.Verdict.{Verdict}
use Rattle.judge_rules.specs.declared.Verdict.TheVariants.{Accepted, Rejected, Large}

-- What the rules are tests of, from the lines so far. They ask for no line's number.
abbrev pub plain_page : Mapped → Page
plain_page m = record { at = m.at; handle = m.handle }

abbrev pub plain : Buffer → Live
plain b = record { start = b.start; size = b.size; stream = b.stream }

-- there has been a line
abbrev pub begun : List Line → Bool
begun [] = false
begun (l ∷ before) = true

abbrev pub known : List Line → Judge
known h =
    record {
      run = record { opened = begun h; page = page_size h; va = va_size h; asked = call h; waiting = waiting h; over = over h };
      reservations = reservations h;
      held = map (λ k. k.handle) (held h);
      mapped = map plain_page (mapped h);
      live = map plain (live h);
      last = last h;
    }

-- A test, by the number that a verdict names it with.
pub record Test : Type 0 where
  pub number : ℕ
  pub passed : Bool

abbrev pub test : ℕ → Bool → Test
test n b = record { number = n; passed = b }

abbrev pub untested : Test
untested = test 0 true

-- The rule of a record with code 0, and of a result with 0.
abbrev pub rule_of_record : Word → Judge → Line → Test
rule_of_record Reserve s l = test 1 (R1 s l.first l.second)
rule_of_record Create s l = test 2 (R2 s l.first)
rule_of_record Map s l = test 3 (R3 s l.first l.second)
rule_of_record Unmap s l = test 4 (R4 s l.first l.second)
rule_of_record Release s l = test 5 (R5 s l.first)
rule_of_record Access s l = test 6 (R6 s l.first l.second)
rule_of_record RecordEvent s l = test 9 (R9_recorded s l.first)
rule_of_record AskedFor s l = test 9 (R9_asked s l.first)
rule_of_record Wait s l = test 9 (R9_asked s l.first)
rule_of_record Giveback s l = test 10 (R10 s l.first l.second)
rule_of_record Sync s l = untested

abbrev pub rule_of_result : Call → Judge → Line → Test
rule_of_result Malloc s l = test 7 (R7 s l.first l.second)
rule_of_result Free s l = test 8 (R8 s l.first l.second)
rule_of_result Open s l = untested
rule_of_result Close s l = untested

-- The size of what they add.
abbrev pub size_of_record : Word → Judge → Test
size_of_record Reserve s = test too_many_reservations (leb (suc (length s.reservations)) most_reservations)
size_of_record Create s = test too_many_held (leb (suc (length s.held)) most_held)
size_of_record Map s = test too_many_mapped (leb (suc (length s.mapped)) most_mapped)
size_of_record Unmap s = untested
size_of_record Release s = untested
size_of_record Access s = untested
size_of_record RecordEvent s = untested
size_of_record AskedFor s = untested
size_of_record Wait s = untested
size_of_record Giveback s = untested
size_of_record Sync s = untested

abbrev pub size_of_result : Call → Judge → Test
size_of_result Malloc s = test too_many_live (leb (suc (length s.live)) most_live)
size_of_result Free s = untested
size_of_result Open s = untested
size_of_result Close s = untested

-- a record or a result with a third number above 0 is not tested
abbrev pub if_done : Line → Test → Test
if_done l t = cond (eqb l.third 0) t untested

-- A record is held against the live buffers that it leaves: a close's against none.
abbrev pub at_record : List Line → Judge
at_record h =
    let s = known h in
    record {
      run = s.run;
      reservations = s.reservations;
      held = s.held;
      mapped = s.mapped;
      live = map plain (left_by h (live h));
      last = s.last;
    }

abbrev pub rule_of : Said → List Line → Line → Test
rule_of (Record w) h l = if_done l (rule_of_record w (at_record h) l)
rule_of Result h l = if_done l (rule_of_result (call h).call (known h) l)
rule_of (Calls c) h l = untested
rule_of Aside h l = untested
rule_of Unknown h l = untested

abbrev pub size_of : Said → List Line → Line → Test
size_of (Record w) h l = if_done l (size_of_record w (known h))
size_of Result h l = if_done l (size_of_result (call h).call (known h))
size_of (Calls c) h l = untested
size_of Aside h l = untested
size_of Unknown h l = untested

-- What is wrong with a line: it breaks a rule, or passes a size.
pub data Fault : Type 0 where
  breaks : ℕ → Fault
  passes : ℕ → Fault

-- R0, then its rule, then its size.
abbrev pub fault_of : List Line → Line → Option Fault
fault_of h l =
    cond (not (R0 (said l.kind) (known h).run l)) (some (breaks 0))
    (cond (not (rule_of (said l.kind) h l).passed) (some (breaks (rule_of (said l.kind) h l).number))
    (cond (not (size_of (said l.kind) h l).passed) (some (passes (size_of (said l.kind) h l).number))
    none))

-- A malformed line has no word, and a missing one none either: after no line at all an open is missing, within a call its result.
abbrev pub missing : List Line → Bool
missing h = not (begun h) || waiting h

abbrev pub fault_in : List Line → List Reading → Option Fault
fault_in h [] = cond (missing h) (some (breaks 0)) none
fault_in h (Malformed ∷ t) = some (breaks 0)
fault_in h (Good l ∷ t) = fault_of h l

-- What is wrong behind the first `n` lines of a trace.
abbrev pub fault : List Reading → ℕ → Option Fault
fault t n = fault_in (newest_first [] (take n t)) (drop n t)

-- Nothing is wrong with any line.
abbrev pub Faultless : List Reading → Type 0
Faultless t = (n : ℕ) → fault t n ≡ none

-- The line of number `n`, counted from 1, is the first with which something is wrong, and it is `f`.
pub record First (t : List Reading) (n : ℕ) (f : Fault) : Type 0 where
  pub before : ℕ
  pub number : n ≡ before + 1
  pub fails : fault t before ≡ some f
  pub others : (m : ℕ) → m < before → fault t m ≡ none

-- What a verdict says of a trace.
abbrev pub Says : List Reading → Verdict → Type 0
Says t Accepted = Faultless t
Says t (Rejected n rule) = First t n (breaks rule)
Says t (Large n which) = First t n (passes which)
