-- A make room that maps onto a page not unmapped: it puts the pages that it moves at the start of the range, over the new ones. The judge rejects its trace
-- at that map, by R3, and accepts the rule's. By computation.
use mathlib.Core.Path.{◌≡◌, refl}
use mathlib.Core.Bool.{cond}
use mathlib.Core.List.{List, [], ◌∷◌, ◌++◌, map}
use mathlib.Core.Option.{Option, some, none}
use Prim.Native.Nat.{ℕ, ◌+◌, ◌-◌, ◌/◌}
use lib.Dec.{leb}
use Rattle.words.specs.Answers.{of_pair, lent}
use Rattle.cells.specs.Table.{entries, pack}
use Rattle.tables.specs.Bounds.{LOG}
use Rattle.tables.specs.Values.{tables_of, in_order, pool_of}
use Rattle.tables.specs.Steps.{Step, ◌>>=◌, ◌>>◌, give, tables}
use Rattle.tables.specs.Driver as Driver
use Rattle.tables.specs.Driver.{must}
use Rattle.tables.specs.InsertHole.{insert_hole}
use Rattle.tables.specs.InsertFree.{from, without_free, insert_free}
use Rattle.tables.specs.TakeRange as TakeRange
use Rattle.tables.specs.NewPages.{Room, map_page, unmake, roll_back, created, make_pages, insert_new}
use Rattle.tables.specs.Pull.{settle, pull_one, pull_order, pull, pages_in, move_pages, pull_in}
use Rattle.tables.specs.MakeRoom.{missing, fill, make_room}
use Rattle.tables.specs.Cleanup.{clean, cleanup}
use Rattle.tables.specs.Fit.{take_over, or_other, fit}
use Rattle.tables.specs.WellFormed.{allowed, ceilings_kept, sound, well_formed}
use Rattle.tables.specs.HandsBack.{finished, admitted}
use Rattle.tables.specs.Open.{open_steps, bad_configuration, open_finished, open_pool}
use Rattle.tables.specs.Malloc.{room_refused, or_room, hand_over, malloc_steps, malloc_by}
use Rattle.tables.specs.Free.{free_steps, free_found, free}
use Rattle.tables.specs.Close.{close_steps, close_finished, close}
use Rattle.tables.specs.Calls.{mallocs, frees, answer as answers}
use Rattle.tables.specs.declared.FreeRegion.{FreeRegion}
use Rattle.tables.specs.declared.Outcome.{Outcome}
use Rattle.trace.specs.Kinds.{malloc_line}
use Rattle.trace.specs.declared.Reading.TheVariants.{Good}
use Rattle.judge_rules.specs.Said.{said}
use Rattle.judge_rules.specs.Ranges.{pages}
use Rattle.judge_rules.specs.Rules.{R0, R1, R2, R3, R4, R5, R6, R7, R8, R9_recorded, R9_asked, R10, whole_pages, none_live, no_handle_twice, credible, in_reservation}
use Rattle.judge_rules.specs.Verdict.{ruled, sized, recorded, answered, taken, judged, at_end, verdict}
use Rattle.judge_rules.specs.declared.Verdict.{Verdict}
use Rattle.judge_rules.specs.declared.Verdict.TheVariants.{Accepted, Rejected}
use Rattle.agreement.specs.Runs.{Lent, Opening, opened, entry, trace_of}

-- The rule's lines, but for the address that the pages are mapped from.
abbrev pulls_over : Room → ℕ → List FreeRegion → Step FreeRegion
pulls_over o lacks others = do
  let a = o.start + o.missing
  zs ← pull (pull_order o.stream others) o.stream lacks
  t ← tables
  move_pages (pages_in t.fields.page zs) o.start
  must (Driver.access a lacks)
  insert_free a lacks o.stream

abbrev fills_over : Room → Option FreeRegion → Step FreeRegion
fills_over o none = do
  t ← tables
  pulls_over o o.size t.free
fills_over o (some r) = do
  t ← tables
  cond (leb o.size r.size) (give r) (pulls_over o (o.size - r.size) (without_free (from r) t.free))

abbrev rooms_over : ℕ → ℕ → Option FreeRegion → Step FreeRegion
rooms_over n s (some r) = give r
rooms_over n s none = do
  room_refused n
  t ← tables
  a ← TakeRange.take_range n
  let o : Room = record { start = a; size = n; missing = missing n t; stream = s }
  make_pages (o.missing / t.fields.page) o a
  r ← insert_new o
  fills_over o r

abbrev maps_over : ℕ → ℕ → Step Outcome
maps_over n s = do
  cleanup
  o ← fit n s
  r ← rooms_over n s o
  hand_over n s r

-- Page 4, va_size 16: a buffer is handed over at 1000 and freed; then 8 bytes are asked for on another stream, of which 4 are missing.
abbrev opening : Opening
opening = record { granularity = 4; override = 0; va = 16; initial = 0; stream = 0; answers = 0 ∷ 1000 ∷ []; log = LOG }

abbrev first : Lent
first = record { call = mallocs 4 1; answers = 0 ∷ 71 ∷ 0 ∷ 0 ∷ 0 ∷ 0 ∷ 0 ∷ 0 ∷ []; log = LOG }

abbrev second : Lent
second = record { call = frees 1000; answers = 0 ∷ 0 ∷ []; log = LOG }

-- a page created, mapped, accessed, recorded; the other region asked for and waited for; its page mapped, accessed, recorded
abbrev third : List ℕ
third = 0 ∷ 72 ∷ 0 ∷ 0 ∷ 0 ∷ 0 ∷ 0 ∷ 0 ∷ 0 ∷ 0 ∷ 0 ∷ 0 ∷ 0 ∷ 0 ∷ 0 ∷ 0 ∷ 0 ∷ 0 ∷ []

-- the verdict on the three calls, the last by `steps`
unfoldable tried_by : (ℕ → ℕ → Step Outcome) → Verdict
unfolding ◌>>=◌ entries pack tables_of in_order pool_of of_pair lent Driver.reserve Driver.create Driver.map Driver.access Driver.unmap Driver.release Driver.record_event Driver.ask Driver.wait Driver.sync Driver.giveback insert_hole insert_free TakeRange.smallest_hole TakeRange.cut_hole TakeRange.credible TakeRange.reserve_root TakeRange.take_hole TakeRange.take_range map_page unmake roll_back created insert_new settle pull_one pull_in fill make_room clean cleanup take_over or_other fit allowed ceilings_kept sound well_formed finished admitted open_steps bad_configuration open_finished open_pool room_refused or_room hand_over malloc_steps malloc_by free_steps free_found free close_steps close_finished close said pages whole_pages none_live no_handle_twice credible in_reservation ruled sized R0 R1 R2 R3 R4 R5 R6 R7 R8 R9_recorded R9_asked R10 recorded answered taken judged at_end verdict
tried_by steps =
    let p = (answers (opened opening).pool first.call first.answers LOG).pool in
    let q = (answers p second.call second.answers LOG).pool in
    verdict (map Good (trace_of opening (first ∷ second ∷ []) ++ entry (malloc_line 8 2) (malloc_by steps q 8 2 third LOG)))

rule_accepted : tried_by malloc_steps ≡ Accepted
unfolding tried_by
rule_accepted = refl

over_rejected : tried_by maps_over ≡ Rejected 20 3
unfolding tried_by
over_rejected = refl
