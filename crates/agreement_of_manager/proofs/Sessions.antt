-- A session of the layer, computed: small buffers between calls of the pool, one dropped and one left for the close; a size of 0, which leaves no line; a
-- pointer inside a root, whose 15 leaves only its record and stops the pool; then a refusal, the close, and a call after it.
use mathlib.Core.Path.{◌≡◌, refl, sym, subst}
use mathlib.Core.Bool.{true}
use mathlib.Core.List.{List, [], ◌∷◌, ◌++◌, map}
use Prim.Native.Nat.{ℕ}
use lib.ListN.{take, drop}
use Rattle.words.specs.Words.{number}
use Rattle.words.specs.declared.Word.{Word}
use Rattle.words.specs.declared.Word.TheVariants.{Reserve, Create, Map, Access, Unmap, Release, Record as RecordEvent, Sync, Giveback}
use Rattle.tables.specs.Bounds.{LOG}
use Rattle.tables.specs.Outcomes.{is}
use Rattle.tables.specs.Session.{replied_by}
use Rattle.tables.specs.Calls.{Call, mallocs, frees, closes}
use Rattle.trace.specs.Form.{line}
use Rattle.trace.specs.Kinds.{SMALL, DROPSMALL, open_line, malloc_line, free_line, close_line, result_line}
use Rattle.trace.specs.declared.Line.{Line}
use Rattle.trace.specs.declared.Reading.TheVariants.{Good}
use Rattle.judge_rules.specs.Said.{said}
use Rattle.judge_rules.specs.Ranges.{pages}
use Rattle.judge_rules.specs.Rules as Rules
use Rattle.judge_rules.specs.Rules.{R0, R1, R2, R3, R6, R7, R9_recorded, whole_pages, none_live, no_handle_twice, in_reservation}
use Rattle.judge_rules.specs.Verdict.{ruled, sized, recorded, answered, taken, judged, verdict}
use Rattle.judge_rules.specs.declared.Verdict.TheVariants.{Accepted, Rejected}
use Rattle.agreement.specs.Runs.{Opening}
use Rattle.agreement.specs.Premises.{Premises, reliable, credible, mapped_after}
use Rattle.cells.specs.Table.{entries, pack}
use Rattle.manager_rules.specs.Sizes.{request}
use Rattle.manager_rules.specs.WellFormed.{own_sound, own_kept}
use Rattle.manager_rules.specs.HandsBack.{admitted}
use Rattle.manager_rules.specs.Open.{open_manager}
use Rattle.manager_rules.specs.Malloc.{whole_malloc, incredible, small_answered, small_malloc, served, malloc}
use Rattle.manager_rules.specs.Free.{whole_free, drop_answered, free_found, free}
use Rattle.manager_rules.specs.Close.{close_served, close}
use Rattle.manager_rules.specs.Runs.{Lent}
use Rattle.agreement_of_manager.specs.LayerRuns.{opened, trace_of}
use Rattle.agreement_of_manager.proofs.Accepted.{accepted}

-- pages of 4 bytes, one root of 40 at 1000
abbrev opening : Opening
opening = record { granularity = 4; override = 0; va = 40; initial = 0; stream = 0; answers = 0 ∷ 1000 ∷ []; log = LOG }

abbrev lend : Call → List ℕ → Lent
lend c xs = record { call = c; answers = xs; log = LOG }

-- each answer a code and a value
abbrev calls : List Lent
calls =
    lend (mallocs 3 1) (0 ∷ 5000 ∷ [])
    ∷ lend (mallocs 6 1) (0 ∷ 71 ∷ 0 ∷ 0 ∷ 0 ∷ 72 ∷ 0 ∷ 0 ∷ 0 ∷ 0 ∷ 0 ∷ 0 ∷ [])
    ∷ lend (mallocs 0 1) []
    ∷ lend (mallocs 2 1) (0 ∷ 6000 ∷ [])
    ∷ lend (frees 5000) (0 ∷ 0 ∷ [])
    ∷ lend (mallocs 1 1) (0 ∷ 1004 ∷ [])
    ∷ lend (mallocs 5 1) []
    ∷ lend closes (0 ∷ 0 ∷ 0 ∷ 0 ∷ 0 ∷ 0 ∷ 0 ∷ 0 ∷ 0 ∷ 0 ∷ 0 ∷ 0 ∷ 0 ∷ 0 ∷ [])
    ∷ lend (frees 1000) []
    ∷ []

abbrev driver : Word → ℕ → ℕ → ℕ → Line
driver word first second code = line (number word) first second code

abbrev session : List Line
session =
    open_line 4 40 0 ∷ driver Reserve 1000 40 0 ∷ result_line 1000 4 0
    ∷ line SMALL 5000 3 0
    ∷ malloc_line 8 1 ∷ driver Create 71 4 0 ∷ driver Map 1000 71 0 ∷ driver Create 72 4 0 ∷ driver Map 1004 72 0
    ∷ driver Access 1000 8 0 ∷ driver RecordEvent 0 1 0 ∷ result_line 1000 8 0
    ∷ line SMALL 6000 2 0
    ∷ line DROPSMALL 5000 3 0
    ∷ line SMALL 1004 1 0
    ∷ malloc_line 8 1 ∷ result_line 0 0 2
    ∷ line DROPSMALL 6000 2 0
    ∷ close_line ∷ driver Sync 0 0 0 ∷ driver Unmap 1000 4 0 ∷ driver Release 71 0 0 ∷ driver Unmap 1004 4 0
    ∷ driver Release 72 0 0 ∷ driver Giveback 1000 40 0 ∷ result_line 0 0 0
    ∷ free_line 1000 ∷ result_line 0 0 1
    ∷ []

session-is : trace_of opening calls ≡ session
unfolding replied_by entries pack request own_sound own_kept admitted open_manager whole_malloc incredible small_answered small_malloc served malloc whole_free drop_answered free_found free close_served close
session-is = refl

session-opens : is 0 (opened opening).outcome ≡ true
unfolding replied_by open_manager
session-opens = refl

-- The premises can be met, with the 15 of a small malloc: no result is 15.
session-meets : Premises session
unfolding said reliable credible mapped_after
session-meets = record { driver = refl; credible = refl; mapped = refl }

session_accepted : verdict (map Good session) ≡ Accepted
session_accepted =
    subst (λ ls. verdict (map Good ls) ≡ Accepted) session-is (accepted opening calls session-opens (subst Premises (sym session-is) session-meets))

-- The close's drop behind its line is within a run: rejected there.
drop-within : verdict (map Good (take 17 session ++ close_line ∷ line DROPSMALL 6000 2 0 ∷ drop 19 session)) ≡ Rejected 19 0
unfolding said pages whole_pages none_live no_handle_twice in_reservation ruled sized R0 R1 R2 R3 R7 R9_recorded R6 recorded answered taken judged verdict Rules.credible
drop-within = refl
