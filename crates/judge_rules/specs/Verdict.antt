-- docs/RULES.md 8.2, 8.5 to 8.8: the walk over a trace. A line meets R0, then the rule of its word, and only then the sizes.
use Rattle.std.specs.Prelude.{Bool, true, false, cond, not, ◌||◌, List, [], ◌∷◌, ℕ, suc, ◌+◌, leb, eqb, length}
use Rattle.std.proofs.Math.Option.{none, some}
use Rattle.lists.specs.Tests.{filter}
use Rattle.words.specs.declared.Word.{Word}
use Rattle.words.specs.declared.Word.TheVariants.{
  Reserve,
  Create,
  Map,
  Access,
  Unmap,
  Release,
  Record as RecordEvent,
  Asked as AskedFor,
  Wait,
  Sync,
  Giveback,
}
use Rattle.trace.specs.declared.Line.{Line}
use Rattle.trace.specs.declared.Reading.{Reading}
use Rattle.trace.specs.declared.Reading.TheVariants.{Good, Malformed}
use Rattle.judge_rules.specs.Said.{said, if_open, asked_by, nothing_asked}
use Rattle.judge_rules.specs.Ranges.{inside}
use Rattle.judge_rules.specs.Rules.{Reservation, Page, Live, Judge, R0, R1, R2, R3, R4, R5, R6, R7, R8, R9_recorded, R9_asked, R10}
use Rattle.judge_rules.specs.Sizes.{
  most_reservations,
  most_held,
  most_live,
  most_mapped,
  too_many_reservations,
  too_many_held,
  too_many_live,
  too_many_mapped,
}
use Rattle.judge_rules.specs.declared.Call.{Call}
use Rattle.judge_rules.specs.declared.Call.TheVariants.{Open, Malloc, Free, Close}
use Rattle.judge_rules.specs.declared.Run.{Run}
use Rattle.judge_rules.specs.declared.Said.{Said}
use Rattle.judge_rules.specs.declared.Said.TheVariants.{Record, Call as Calls, Result, Aside, Unknown}
use Rattle.judge_rules.specs.declared.Verdict.{Verdict}
use Rattle.judge_rules.specs.declared.Verdict.TheVariants.{Accepted, Rejected, Large}

-- what a line comes to: the state after it, the rule that it breaks, or what is too large after it
pub data Step : Type 0 where
  on : Judge → Step
  broken : ℕ → Step
  beyond : ℕ → Step

unfoldable pub ruled : ℕ → Bool → Step → Step
ruled rule met next = cond met next (broken rule)

unfoldable pub sized : ℕ → ℕ → ℕ → Judge → Step
sized which most count s = cond (leb count most) (on s) (beyond which)

-- the state with one part changed
abbrev pub with_run : Judge → Run → Judge
with_run s r = record { run = r; reservations = s.reservations; held = s.held; mapped = s.mapped; live = s.live; last = s.last }

abbrev pub with_reservations : Judge → List Reservation → Judge
with_reservations s r = record { run = s.run; reservations = r; held = s.held; mapped = s.mapped; live = s.live; last = s.last }

abbrev pub with_held : Judge → List ℕ → Judge
with_held s h = record { run = s.run; reservations = s.reservations; held = h; mapped = s.mapped; live = s.live; last = s.last }

abbrev pub with_mapped : Judge → List Page → Judge
with_mapped s m = record { run = s.run; reservations = s.reservations; held = s.held; mapped = m; live = s.live; last = s.last }

abbrev pub with_live : Judge → List Live → Judge
with_live s b = record { run = s.run; reservations = s.reservations; held = s.held; mapped = s.mapped; live = b; last = s.last }

abbrev pub with_last : Judge → ℕ → Judge
with_last s id = record { run = s.run; reservations = s.reservations; held = s.held; mapped = s.mapped; live = s.live; last = some id }

-- A record of code 0, its first and second number.
abbrev pub reserved : Judge → ℕ → ℕ → Judge
reserved s base size = with_reservations s (record { base = base; size = size } ∷ s.reservations)

abbrev pub placed : Judge → ℕ → ℕ → Judge
placed s address handle = with_mapped s (record { at = address; handle = handle } ∷ s.mapped)

abbrev pub unmapped : Judge → ℕ → ℕ → Judge
unmapped s address bytes = with_mapped s (filter (λ p. not (inside address bytes p.at)) s.mapped)

abbrev pub released : Judge → ℕ → Judge
released s handle = with_held s (filter (λ h. not (eqb h handle)) s.held)

abbrev pub given_back : Judge → ℕ → Judge
given_back s base = with_reservations s (filter (λ r. not (eqb r.base base)) s.reservations)

-- The rule first, and only then the size.
unfoldable pub recorded : Word → Judge → ℕ → ℕ → Step
recorded Reserve s a b = ruled 1 (R1 s a b) (sized too_many_reservations most_reservations (suc (length s.reservations)) (reserved s a b))
recorded Create s a b = ruled 2 (R2 s a) (sized too_many_held most_held (suc (length s.held)) (with_held s (a ∷ s.held)))
recorded Map s a b = ruled 3 (R3 s a b) (sized too_many_mapped most_mapped (suc (length s.mapped)) (placed s a b))
recorded Access s a b = ruled 6 (R6 s a b) (on s)
recorded Unmap s a b = ruled 4 (R4 s a b) (on (unmapped s a b))
recorded Release s a b = ruled 5 (R5 s a) (on (released s a))
recorded RecordEvent s a b = ruled 9 (R9_recorded s a) (on (with_last s a))
recorded AskedFor s a b = ruled 9 (R9_asked s a) (on s)
recorded Wait s a b = ruled 9 (R9_asked s a) (on s)
recorded Sync s a b = on s
recorded Giveback s a b = ruled 10 (R10 s a b) (on (given_back s a))

-- A result of answer 0, its first and second number.
abbrev pub handed : Judge → ℕ → ℕ → Judge
handed s a b = with_live s (record { start = a; size = b; stream = s.run.asked.second } ∷ s.live)

abbrev pub freed : Judge → Judge
freed s = with_live s (filter (λ b. not (eqb b.start s.run.asked.first)) s.live)

abbrev pub closed : Judge → Judge
closed s =
    with_run s (record { opened = s.run.opened; page = s.run.page; va = s.run.va; asked = s.run.asked; waiting = s.run.waiting; over = true })

unfoldable pub answered : Call → Judge → ℕ → ℕ → Step
answered Open s a b = on s
answered Malloc s a b = ruled 7 (R7 s a b) (sized too_many_live most_live (suc (length s.live)) (handed s a b))
answered Free s a b = ruled 8 (R8 s a b) (on (freed s))
answered Close s a b = on (closed s)

-- docs/RULES.md 8.7: the first record of a close ends all live buffers, whatever its code; the later ones find none.
abbrev pub ended : Call → Judge → Judge
ended Open s = s
ended Malloc s = s
ended Free s = s
ended Close s = with_live s []

-- a call line begins a run
abbrev pub called : Call → Judge → Line → Judge
called c s l =
    with_run s (record {
      opened = true;
      page = if_open c l.first s.run.page;
      va = if_open c l.second s.run.va;
      asked = asked_by (Calls c) l s.run.asked;
      waiting = true;
      over = s.run.over;
    })

-- a result line ends it
abbrev pub told : Judge → Judge
told s =
    with_run s (record { opened = s.run.opened; page = s.run.page; va = s.run.va; asked = s.run.asked; waiting = false; over = s.run.over })

-- A failed record has no rule but R0, and changes nothing else. A small buffer's line changes nothing, whatever its code.
unfoldable pub taken : Said → Judge → Line → Step
taken (Calls c) s l = on (called c s l)
taken (Record w) s l =
    cond (eqb l.third 0) (recorded w (ended s.run.asked.call s) l.first l.second) (on (ended s.run.asked.call s))
taken Result s l = cond (eqb l.third 0) (answered s.run.asked.call (told s) l.first l.second) (on (told s))
taken Aside s l = on s
taken Unknown s l = broken 0

unfoldable pub judged : Said → Judge → Line → Step
judged what s l = ruled 0 (R0 what s.run l) (taken what s l)

-- R0: a malformed line has no word.
abbrev pub step : Judge → Reading → Step
step s (Good l) = judged (said l.kind) s l
step s Malformed = broken 0

-- R0: a line that is missing has the number that it would have.
unfoldable pub at_end : ℕ → Judge → Verdict
at_end n s = cond (not s.run.opened || s.run.waiting) (Rejected (n + 1) 0) Accepted

-- line `n` came to a step: the verdict on what follows, or the verdict
abbrev pub onward : ℕ → Step → (Judge → Verdict) → Verdict
onward n (on s) next = next s
onward n (broken rule) next = Rejected n rule
onward n (beyond which) next = Large n which

-- the verdict on the rest of a trace, after `n` lines
abbrev pub verdict_from : ℕ → Judge → List Reading → Verdict
verdict_from n s [] = at_end n s
verdict_from n s (l ∷ t) = onward (n + 1) (step s l) (λ z. verdict_from (n + 1) z t)

abbrev pub start : Judge
start =
    record {
      run = record { opened = false; page = 0; va = 0; asked = nothing_asked; waiting = false; over = false };
      reservations = [];
      held = [];
      mapped = [];
      live = [];
      last = none;
    }

unfoldable pub verdict : List Reading → Verdict
verdict t = verdict_from 0 start t
