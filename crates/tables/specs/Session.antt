-- A session: calls one after the other, each with the answers lent to it, what it answers and leaves in the log, and the pool's tables after it.
use Rattle.std.specs.Prelude.{cond, ◌||◌, List, [], ◌∷◌, ℕ, eqb}
use Rattle.words.specs.Words.{number}
use Rattle.words.specs.Answers.{of_pair, lent}
use Rattle.words.specs.declared.Address.{Address}
use Rattle.words.specs.declared.Record.{Record}
use Rattle.words.specs.declared.Word.TheVariants.{Reserve, Create, Asked}
use Rattle.cells.specs.Table.{entries, pack}
use Rattle.tables.specs.Bounds.{LOG}
use Rattle.tables.specs.Values.{
  Tables,
  fields,
  free_of,
  pack_free,
  live_of,
  pack_live,
  holes_of,
  pack_holes,
  zombies_of,
  pack_zombies,
  pages_of,
  pack_pages,
  roots_of,
  pack_roots,
  tables_of,
  in_order,
  at_entry,
  pool_of,
}
use Rattle.tables.specs.Outcomes.{numbers}
use Rattle.tables.specs.declared.Numbers.{Numbers}
use Rattle.tables.specs.Steps.{Step, ◌>>=◌}
use Rattle.tables.specs.Driver.{reserve, create, map, access, unmap, release, record_event, ask, wait, sync, giveback}
use Rattle.tables.specs.InsertHole.{insert_hole}
use Rattle.tables.specs.InsertFree.{insert_free}
use Rattle.tables.specs.TakeRange.{smallest_hole, cut_hole, credible, reserve_root, take_hole, take_range}
use Rattle.tables.specs.NewPages.{map_page, unmake, roll_back, created, insert_new}
use Rattle.tables.specs.Pull.{settle, pull_one, pull_in}
use Rattle.tables.specs.MakeRoom.{fill, make_room}
use Rattle.tables.specs.Cleanup.{clean, cleanup}
use Rattle.tables.specs.Fit.{take_over, or_other, fit}
use Rattle.tables.specs.WellFormed.{allowed, ceilings_kept, sound, well_formed}
use Rattle.tables.specs.HandsBack.{Reply, finished, admitted}
use Rattle.tables.specs.Open.{open_steps, bad_configuration, open_finished, open_pool}
use Rattle.tables.specs.Malloc.{room_refused, or_room, hand_over, malloc_steps, malloc_by}
use Rattle.tables.specs.Free.{free_steps, free_found, free}
use Rattle.tables.specs.Close.{close_steps, close_finished, close}
use Rattle.tables.specs.Calls.{Call, answer_by}
use Rattle.tables.specs.declared.FreeRegion.{FreeRegion}
use Rattle.tables.specs.declared.LiveBuffer.{LiveBuffer}
use Rattle.tables.specs.declared.Hole.{Hole}
use Rattle.tables.specs.declared.Zombie.{Zombie}
use Rattle.tables.specs.declared.Page.{Page}
use Rattle.tables.specs.declared.Pool.{Pool}
use Rattle.tables.specs.declared.Outcome.{Outcome}

pub data Request : Type 0 where
  -- page size, va_size, initial pages
  opens : ℕ → ℕ → ℕ → Request
  calls : Call → Request

pub record Row : Type 0 where
  pub request : Request
  pub answers : List ℕ
  pub records : List Record
  pub result : Numbers
  pub state : ℕ
  pub tables : Tables

-- As in replay (docs/RULES.md 7.3); a malloc goes by `steps`. Whoever unfolds this unfolds all the rules.
unfoldable pub replied_by : (ℕ → ℕ → Step Outcome) → Pool → Request → List ℕ → Reply
unfolding ◌>>=◌ entries pack tables_of in_order pool_of of_pair lent reserve create map access unmap release record_event ask wait sync giveback insert_hole insert_free smallest_hole cut_hole credible reserve_root take_hole take_range map_page unmake roll_back created insert_new settle pull_one pull_in fill make_room clean cleanup take_over or_other fit allowed ceilings_kept sound well_formed finished admitted open_steps bad_configuration open_finished open_pool room_refused or_room hand_over malloc_steps malloc_by free_steps free_found free close_steps close_finished close
replied_by steps p (opens page va initial) xs = open_pool page 0 va initial 0 xs LOG
replied_by steps p (calls c) xs = answer_by steps p c xs LOG

abbrev pub shown : Request → List ℕ → Reply → Row
shown q xs r =
    record { request = q; answers = xs; records = r.records; result = numbers r.outcome; state = r.pool.state; tables = at_entry r.pool }

-- what the calls of a session answer and leave
abbrev pub played_by : (ℕ → ℕ → Step Outcome) → Pool → List Row → List Row
played_by steps p [] = []
played_by steps p (r ∷ l) =
    let a = replied_by steps p r.request r.answers in
    shown r.request r.answers a ∷ played_by steps a.pool l

abbrev pub played : Pool → List Row → List Row
played = played_by malloc_steps

-- The answers that a call's records show, as replay takes them (docs/RULES.md 7.1).
abbrev pub value_in : Record → ℕ
value_in r = cond (eqb r.kind (number Reserve) || eqb r.kind (number Create)) r.first (cond (eqb r.kind (number Asked)) r.second 0)

abbrev pub answers_in : List Record → List ℕ
answers_in [] = []
answers_in (r ∷ l) = r.code ∷ value_in r ∷ answers_in l

-- a row whose answers are those that its records show
abbrev pub row_of : Request → List Record → Numbers → ℕ → Tables → Row
row_of q rs o s t = record { request = q; answers = answers_in rs; records = rs; result = o; state = s; tables = t }

abbrev pub open_row : ℕ → ℕ → ℕ → List Record → Numbers → ℕ → Tables → Row
open_row page va initial = row_of (opens page va initial)

abbrev pub row : Call → List Record → Numbers → ℕ → Tables → Row
row c = row_of (calls c)

-- page size, va_size, counter, then the tables: free, live, holes, zombies, pages, roots
abbrev pub holding : ℕ → ℕ → ℕ → List FreeRegion → List LiveBuffer → List Hole → List Zombie → List Page → List Address → Tables
holding page va counter free live holes zombies pages roots =
    record { fields = fields page va counter; free = free; live = live; holes = holes; zombies = zombies; pages = pages; roots = roots }
