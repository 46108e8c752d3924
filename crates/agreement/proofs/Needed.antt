-- No premise can be left out: for each a small run that has the others, by computation, and the judge rejects it. ManyMapped has that of the premise on
-- mapped pages, which takes more calls.
use mathlib.Core.Path.{◌≡◌, refl}
use mathlib.Core.Bool.{Bool, true, false}
use mathlib.Core.List.{List, [], ◌∷◌, map}
use Prim.Native.Nat.{ℕ}
use Rattle.lists.specs.Tests.{every}
use Rattle.words.specs.Answers.{of_pair, lent}
use Rattle.cells.specs.Table.{entries, pack}
use Rattle.tables.specs.Bounds.{LOG}
use Rattle.tables.specs.Values.{tables_of, in_order, pool_of}
use Rattle.tables.specs.Steps.{◌>>=◌}
use Rattle.tables.specs.Outcomes.{is}
use Rattle.tables.specs.Driver as Driver
use Rattle.tables.specs.InsertHole.{insert_hole}
use Rattle.tables.specs.InsertFree.{insert_free}
use Rattle.tables.specs.TakeRange as TakeRange
use Rattle.tables.specs.NewPages.{map_page, unmake, roll_back, created, insert_new}
use Rattle.tables.specs.Pull.{settle, pull_one, pull_in}
use Rattle.tables.specs.MakeRoom.{fill, make_room}
use Rattle.tables.specs.Cleanup.{clean, cleanup}
use Rattle.tables.specs.Fit.{take_over, or_other, fit}
use Rattle.tables.specs.WellFormed.{allowed, ceilings_kept, sound, well_formed}
use Rattle.tables.specs.HandsBack.{finished, admitted}
use Rattle.tables.specs.Open.{open_steps, bad_configuration, open_finished, open_pool}
use Rattle.tables.specs.Malloc.{room_refused, or_room, hand_over, malloc_steps, malloc_by}
use Rattle.tables.specs.Free.{free_steps, free_found, free}
use Rattle.tables.specs.Close.{close_steps, close_finished, close}
use Rattle.tables.specs.Calls.{Call, mallocs, frees, closes}
use Rattle.trace.specs.declared.Reading.TheVariants.{Good}
use Rattle.judge_rules.specs.Said.{said}
use Rattle.judge_rules.specs.Ranges.{pages}
use Rattle.judge_rules.specs.Rules.{R0, R1, R2, R3, R4, R5, R6, R7, R8, R9_recorded, R9_asked, R10, whole_pages, none_live, no_handle_twice, credible, in_reservation}
use Rattle.judge_rules.specs.Verdict.{ruled, sized, recorded, answered, taken, judged, at_end, verdict}
use Rattle.judge_rules.specs.declared.Verdict.{Verdict}
use Rattle.judge_rules.specs.declared.Verdict.TheVariants.{Rejected}
use Rattle.agreement.specs.Runs.{Lent, Opening, opened, trace_of}
use Rattle.agreement.specs.Premises as Premises

-- Whether the opening of a run succeeds, which premises it has, and the verdict on its trace.
record Tried : Type 0 where
  opens : Bool
  driver : Bool
  credible : Bool
  mapped : Bool
  verdict : Verdict

-- pages of 4 bytes in roots of `va`, the first at 1000; each call with its answers
abbrev opening : ℕ → Opening
opening va = record { granularity = 4; override = 0; va = va; initial = 0; stream = 0; answers = 0 ∷ 1000 ∷ []; log = LOG }

abbrev asks : Call → List ℕ → Lent
asks c xs = record { call = c; answers = xs; log = LOG }

unfoldable tried : Opening → List Lent → Tried
unfolding ◌>>=◌ entries pack tables_of in_order pool_of of_pair lent Driver.reserve Driver.create Driver.map Driver.access Driver.unmap Driver.release Driver.record_event Driver.ask Driver.wait Driver.sync Driver.giveback insert_hole insert_free TakeRange.smallest_hole TakeRange.cut_hole TakeRange.credible TakeRange.reserve_root TakeRange.take_hole TakeRange.take_range map_page unmake roll_back created insert_new settle pull_one pull_in fill make_room clean cleanup take_over or_other fit allowed ceilings_kept sound well_formed finished admitted open_steps bad_configuration open_finished open_pool room_refused or_room hand_over malloc_steps malloc_by free_steps free_found free close_steps close_finished close said pages whole_pages none_live no_handle_twice credible in_reservation ruled sized R0 R1 R2 R3 R4 R5 R6 R7 R8 R9_recorded R9_asked R10 recorded answered taken judged at_end verdict Premises.reliable Premises.credible Premises.mapped_after
tried o cs =
    let lines = trace_of o cs in
    record {
      opens = is 0 (opened o).outcome;
      driver = every Premises.reliable lines;
      credible = every Premises.credible lines;
      mapped = Premises.few_mapped [] lines;
      verdict = verdict (map Good lines);
    }

-- The driver fails only by refusing a reservation or by code 2 while creating a page. An unmap fails: the second page is not created, and the first one's
-- handle is released while it is still mapped.
unmap-fails : tried (opening 8) (asks (mallocs 8 1) (0 ∷ 71 ∷ 0 ∷ 0 ∷ 2 ∷ 0 ∷ 1 ∷ 0 ∷ 0 ∷ 0 ∷ []) ∷ [])
    ≡ record { opens = true; driver = false; credible = true; mapped = true; verdict = Rejected 9 5 }
unfolding tried
unmap-fails = refl

-- A release fails: the handle is still held when it comes again.
release-fails : tried (opening 8)
    (asks (mallocs 8 1) (0 ∷ 71 ∷ 0 ∷ 0 ∷ 2 ∷ 0 ∷ 0 ∷ 0 ∷ 1 ∷ 0 ∷ [])
    ∷ asks (mallocs 4 1) (0 ∷ 71 ∷ 0 ∷ 0 ∷ 0 ∷ 0 ∷ 0 ∷ 0 ∷ [])
    ∷ [])
    ≡ record { opens = true; driver = false; credible = true; mapped = true; verdict = Rejected 12 2 }
unfolding tried
release-fails = refl

-- A map fails, of the first of two pages that are moved: the close unmaps their old range, then the second page, which is still active there.
map-fails : tried (opening 16)
    (asks (mallocs 8 1) (0 ∷ 71 ∷ 0 ∷ 0 ∷ 0 ∷ 72 ∷ 0 ∷ 0 ∷ 0 ∷ 0 ∷ 0 ∷ 0 ∷ [])
    ∷ asks (frees 1000) (0 ∷ 0 ∷ [])
    ∷ asks (mallocs 8 2) (0 ∷ 0 ∷ 0 ∷ 0 ∷ 0 ∷ 0 ∷ 1 ∷ 0 ∷ [])
    ∷ asks closes (0 ∷ 0 ∷ 0 ∷ 0 ∷ 0 ∷ 0 ∷ 0 ∷ 0 ∷ 0 ∷ 0 ∷ [])
    ∷ [])
    ≡ record { opens = true; driver = false; credible = true; mapped = true; verdict = Rejected 24 4 }
unfolding tried
map-fails = refl

-- A wait fails, for the second of two regions that are pulled: the close unmaps the first one, then its page, which is still active there.
wait-fails : tried (opening 16)
    (asks (mallocs 4 1) (0 ∷ 71 ∷ 0 ∷ 0 ∷ 0 ∷ 0 ∷ 0 ∷ 0 ∷ [])
    ∷ asks (mallocs 4 2) (0 ∷ 72 ∷ 0 ∷ 0 ∷ 0 ∷ 0 ∷ 0 ∷ 0 ∷ [])
    ∷ asks (frees 1000) (0 ∷ 0 ∷ [])
    ∷ asks (frees 1004) (0 ∷ 0 ∷ [])
    ∷ asks (mallocs 8 1) (0 ∷ 0 ∷ 1 ∷ 0 ∷ [])
    ∷ asks closes (0 ∷ 0 ∷ 0 ∷ 0 ∷ 0 ∷ 0 ∷ 0 ∷ 0 ∷ 0 ∷ 0 ∷ 0 ∷ 0 ∷ 0 ∷ 0 ∷ [])
    ∷ [])
    ≡ record { opens = true; driver = false; credible = true; mapped = true; verdict = Rejected 29 4 }
unfolding tried
wait-fails = refl

-- Its answers are credible. A handle comes twice in one call; a root comes again.
handle-again : tried (opening 8) (asks (mallocs 8 1) (0 ∷ 71 ∷ 0 ∷ 0 ∷ 0 ∷ 71 ∷ []) ∷ [])
    ≡ record { opens = true; driver = true; credible = false; mapped = true; verdict = Rejected 7 2 }
unfolding tried
handle-again = refl

root-again : tried (opening 4)
    (asks (mallocs 4 1) (0 ∷ 71 ∷ 0 ∷ 0 ∷ 0 ∷ 0 ∷ 0 ∷ 0 ∷ [])
    ∷ asks (mallocs 4 1) (0 ∷ 1000 ∷ [])
    ∷ [])
    ≡ record { opens = true; driver = true; credible = false; mapped = true; verdict = Rejected 11 1 }
unfolding tried
root-again = refl

-- The opening succeeds. A page size of 0 is refused, and no line of a trace.
page-zero : tried (record { granularity = 0; override = 0; va = 8; initial = 0; stream = 0; answers = []; log = LOG }) []
    ≡ record { opens = false; driver = true; credible = true; mapped = true; verdict = Rejected 1 0 }
unfolding tried
page-zero = refl
