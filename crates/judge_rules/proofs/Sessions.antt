-- Worked traces as theorems about the definitions, by computation: each rule rejects at its line, each size at its own. So a judge of constant verdict, one
-- that skips a rule or one that stops counting fails here.
use mathlib.Core.Path.{◌≡◌, refl}
use mathlib.Core.Bool.{true, false}
use mathlib.Core.List.{List, [], ◌∷◌, ◌++◌, map}
use mathlib.Core.Option.{none}
use Prim.Native.Nat.{ℕ, zero, suc, ◌+◌, ◌*◌}
use lib.ListN.{set, take, drop}
use Rattle.words.specs.Words.{number}
use Rattle.words.specs.declared.Word.{Word}
use Rattle.words.specs.declared.Word.TheVariants.{Reserve, Create, Map, Access, Unmap, Release, Record as RecordEvent, Asked as AskedFor, Wait, Sync, Giveback}
use Rattle.trace.specs.Form.{line}
use Rattle.trace.specs.Kinds.{SMALL, DROPSMALL, open_line, malloc_line, free_line, close_line, result_line}
use Rattle.trace.specs.declared.Reading.{Reading}
use Rattle.trace.specs.declared.Reading.TheVariants.{Good, Malformed}
use Rattle.judge_rules.specs.Said.{said}
use Rattle.judge_rules.specs.Ranges.{pages}
use Rattle.judge_rules.specs.Rules.{R0, R1, R2, R3, R4, R5, R6, R7, R8, R9_recorded, R9_asked, R10, Judge, Page, whole_pages, none_live, no_handle_twice, credible, in_reservation}
use Rattle.judge_rules.specs.Verdict.{on, broken, beyond, ruled, sized, recorded, answered, taken, judged, step, at_end, verdict}
use Rattle.judge_rules.specs.declared.Call.TheVariants.{Malloc}
use Rattle.judge_rules.specs.declared.Verdict.TheVariants.{Accepted, Rejected, Large}

-- the lines of a trace, by their words
abbrev driver : Word → ℕ → ℕ → ℕ → Reading
driver word first second code = Good (line (number word) first second code)

abbrev opening : ℕ → ℕ → ℕ → Reading
opening page va initial = Good (open_line page va initial)

abbrev malloc : ℕ → ℕ → Reading
malloc bytes stream = Good (malloc_line bytes stream)

abbrev free : ℕ → Reading
free address = Good (free_line address)

abbrev close : Reading
close = Good close_line

abbrev result : ℕ → ℕ → ℕ → Reading
result first second answer = Good (result_line first second answer)

abbrev small : ℕ → ℕ → ℕ → Reading
small pointer size code = Good (line SMALL pointer size code)

abbrev dropped : ℕ → ℕ → ℕ → Reading
dropped pointer size code = Good (line DROPSMALL pointer size code)

-- the example of a trace
abbrev example : List Reading
example =
    opening 4 40 0 ∷ driver Reserve 1000 40 0 ∷ result 1000 4 0
    ∷ malloc 4 1 ∷ driver Create 71 4 0 ∷ driver Map 1000 71 0 ∷ driver Access 1000 4 0 ∷ driver RecordEvent 0 1 0
    ∷ result 1000 4 0 ∷ []

example_accepted : verdict example ≡ Accepted
unfolding said pages whole_pages none_live no_handle_twice credible in_reservation ruled sized R0 R1 R2 R3 R4 R5 R6 R7 R8 R9_recorded R9_asked R10 recorded answered taken judged at_end verdict
example_accepted = refl

-- the session A to N
abbrev pub session : List Reading
session =
    opening 4 40 0 ∷ driver Reserve 1000 40 0 ∷ result 1000 4 0
    ∷ malloc 8 1 ∷ driver Create 71 4 0 ∷ driver Map 1000 71 0 ∷ driver Create 72 4 0 ∷ driver Map 1004 72 0
    ∷ driver Access 1000 8 0 ∷ driver RecordEvent 0 1 0 ∷ result 1000 8 0
    ∷ malloc 4 2 ∷ driver Create 73 4 0 ∷ driver Map 1008 73 0 ∷ driver Access 1008 4 0 ∷ driver RecordEvent 1 2 0
    ∷ result 1008 4 0
    ∷ malloc 4 1 ∷ driver Create 74 4 0 ∷ driver Map 1012 74 0 ∷ driver Access 1012 4 0 ∷ driver RecordEvent 2 1 0
    ∷ result 1012 4 0
    ∷ free 1000 ∷ driver RecordEvent 3 1 0 ∷ result 8 1 0
    ∷ free 1012 ∷ driver RecordEvent 4 1 0 ∷ result 4 1 0
    ∷ malloc 12 1 ∷ driver Map 1016 71 0 ∷ driver Map 1020 72 0 ∷ driver Map 1024 74 0 ∷ driver Access 1016 12 0
    ∷ driver RecordEvent 5 1 0 ∷ result 1016 12 0
    ∷ malloc 4 2 ∷ driver AskedFor 3 1 0 ∷ driver Unmap 1000 8 0 ∷ driver AskedFor 4 0 0 ∷ driver Create 0 4 2
    ∷ result 4 0 13
    ∷ malloc 44 1 ∷ driver AskedFor 4 0 0 ∷ result 44 40 8
    ∷ free 1000 ∷ result 1000 0 16
    ∷ malloc 6 1 ∷ result 6 0 6
    ∷ malloc 0 1 ∷ result 0 0 6
    ∷ malloc 40 1 ∷ driver AskedFor 4 1 0 ∷ driver Unmap 1012 4 0 ∷ driver Reserve 1040 40 0
    ∷ driver Create 76 4 0 ∷ driver Map 1040 76 0 ∷ driver Create 77 4 0 ∷ driver Map 1044 77 0
    ∷ driver Create 0 4 2 ∷ driver Unmap 1040 4 0 ∷ driver Release 76 0 0 ∷ driver Unmap 1044 4 0
    ∷ driver Release 77 0 0 ∷ result 40 8 13
    ∷ free 1016 ∷ driver RecordEvent 6 1 0 ∷ result 12 1 0
    ∷ malloc 16 1 ∷ driver Create 75 4 0 ∷ driver Map 1028 75 0 ∷ driver Access 1028 4 0
    ∷ driver RecordEvent 7 1 0 ∷ result 1016 16 0 ∷ []

a-to-n : verdict session ≡ Accepted
unfolding said pages whole_pages none_live no_handle_twice credible in_reservation ruled sized R0 R1 R2 R3 R4 R5 R6 R7 R8 R9_recorded R9_asked R10 recorded answered taken judged at_end verdict
a-to-n = refl

-- open, one malloc and its free, close
abbrev whole : List Reading
whole =
    opening 4 40 0 ∷ driver Reserve 1000 40 0 ∷ result 1000 4 0
    ∷ malloc 8 1 ∷ driver Create 71 4 0 ∷ driver Map 1000 71 0 ∷ driver Create 72 4 0 ∷ driver Map 1004 72 0
    ∷ driver Access 1000 8 0 ∷ driver RecordEvent 0 1 0 ∷ result 1000 8 0
    ∷ free 1000 ∷ driver RecordEvent 1 1 0 ∷ result 8 1 0
    ∷ close ∷ driver Sync 0 0 0 ∷ driver Unmap 1000 4 0 ∷ driver Release 71 0 0 ∷ driver Unmap 1004 4 0
    ∷ driver Release 72 0 0 ∷ driver Giveback 1000 40 0 ∷ result 0 0 0 ∷ []

whole_accepted : verdict whole ≡ Accepted
unfolding said pages whole_pages none_live no_handle_twice credible in_reservation ruled sized R0 R1 R2 R3 R4 R5 R6 R7 R8 R9_recorded R9_asked R10 recorded answered taken judged at_end verdict
whole_accepted = refl

-- One line damaged: rejected there, or where it first shows. R0: page size 0; a word that is none; a malformed line; open again; a call within a run;
-- no result; no line at all; after a close, a call and its result, a record, and another result.
r0 : map verdict
    (set whole 0 (opening 0 40 0)
    ∷ set whole 9 (Good (line 19 0 0 0))
    ∷ set whole 9 Malformed
    ∷ set whole 14 (opening 4 40 0)
    ∷ set whole 4 (free 1000)
    ∷ take 21 whole
    ∷ []
    ∷ (whole ++ malloc 4 1 ∷ result 0 0 1 ∷ [])
    ∷ (whole ++ malloc 4 1 ∷ driver Sync 0 0 3 ∷ result 0 0 1 ∷ [])
    ∷ (whole ++ malloc 4 1 ∷ result 4 0 1 ∷ [])
    ∷ [])
    ≡ Rejected 1 0 ∷ Rejected 10 0 ∷ Rejected 10 0 ∷ Rejected 15 0 ∷ Rejected 5 0 ∷ Rejected 22 0 ∷ Rejected 1 0 ∷ Accepted ∷ Rejected 24 0 ∷ Rejected 24 0 ∷ []
unfolding said pages whole_pages none_live no_handle_twice credible in_reservation ruled sized R0 R1 R2 R3 R4 R5 R6 R7 R8 R9_recorded R9_asked R10 recorded answered taken judged at_end verdict
r0 = refl

-- Small buffers' lines: between calls and behind a close, with codes of failure too; as the first line; inside a call; and for its result.
asides : map verdict
    ((take 3 whole ++ small 16 2 0 ∷ dropped 16 2 0 ∷ drop 3 whole ++ small 24 2 0 ∷ [])
    ∷ (take 3 whole ++ small 0 2 2 ∷ drop 3 whole ++ dropped 24 2 9 ∷ malloc 4 1 ∷ result 0 0 1 ∷ small 16 2 0 ∷ [])
    ∷ (small 16 2 0 ∷ whole)
    ∷ (take 4 whole ++ small 16 2 0 ∷ drop 4 whole)
    ∷ set whole 13 (dropped 16 2 0)
    ∷ [])
    ≡ Accepted ∷ Accepted ∷ Rejected 1 0 ∷ Rejected 5 0 ∷ Rejected 14 0 ∷ []
unfolding said pages whole_pages none_live no_handle_twice credible in_reservation ruled sized R0 R1 R2 R3 R4 R5 R6 R7 R8 R9_recorded R9_asked R10 recorded answered taken judged at_end verdict
asides = refl

-- R1: a base that is no page multiple, another size, an overlap, an end above 2^63
r1 : map verdict
    (set whole 1 (driver Reserve 1001 40 0)
    ∷ set whole 1 (driver Reserve 1000 44 0)
    ∷ set whole 6 (driver Reserve 1036 40 0)
    ∷ set whole 1 (driver Reserve 9223372036854775772 40 0)
    ∷ [])
    ≡ Rejected 2 1 ∷ Rejected 2 1 ∷ Rejected 7 1 ∷ Rejected 2 1 ∷ []
unfolding said pages whole_pages none_live no_handle_twice credible in_reservation ruled sized R0 R1 R2 R3 R4 R5 R6 R7 R8 R9_recorded R9_asked R10 recorded answered taken judged at_end verdict
r1 = refl

-- R2: a handle that is held
r2 : map verdict
    (set whole 6 (driver Create 71 4 0)
    ∷ [])
    ≡ Rejected 7 2 ∷ []
unfolding said pages whole_pages none_live no_handle_twice credible in_reservation ruled sized R0 R1 R2 R3 R4 R5 R6 R7 R8 R9_recorded R9_asked R10 recorded answered taken judged at_end verdict
r2 = refl

-- R3: a mapped page, one in no reservation, one not aligned, a handle not held, and one whose creation failed
r3 : map verdict
    (set whole 7 (driver Map 1000 72 0)
    ∷ set whole 7 (driver Map 1040 72 0)
    ∷ set whole 7 (driver Map 1006 72 0)
    ∷ set whole 7 (driver Map 1004 73 0)
    ∷ set whole 4 (driver Create 71 4 2)
    ∷ [])
    ≡ Rejected 8 3 ∷ Rejected 8 3 ∷ Rejected 8 3 ∷ Rejected 8 3 ∷ Rejected 6 3 ∷ []
unfolding said pages whole_pages none_live no_handle_twice credible in_reservation ruled sized R0 R1 R2 R3 R4 R5 R6 R7 R8 R9_recorded R9_asked R10 recorded answered taken judged at_end verdict
r3 = refl

-- R4: a live page, one not mapped, no page
r4 : map verdict
    (set whole 12 (driver Unmap 1004 4 0)
    ∷ set whole 16 (driver Unmap 1008 4 0)
    ∷ set whole 16 (driver Unmap 1000 0 0)
    ∷ [])
    ≡ Rejected 13 4 ∷ Rejected 17 4 ∷ Rejected 17 4 ∷ []
unfolding said pages whole_pages none_live no_handle_twice credible in_reservation ruled sized R0 R1 R2 R3 R4 R5 R6 R7 R8 R9_recorded R9_asked R10 recorded answered taken judged at_end verdict
r4 = refl

-- R5: a mapped handle, one not held
r5 : map verdict
    (set whole 16 (driver Release 71 0 0)
    ∷ set whole 19 (driver Release 70 0 0)
    ∷ [])
    ≡ Rejected 17 5 ∷ Rejected 20 5 ∷ []
unfolding said pages whole_pages none_live no_handle_twice credible in_reservation ruled sized R0 R1 R2 R3 R4 R5 R6 R7 R8 R9_recorded R9_asked R10 recorded answered taken judged at_end verdict
r5 = refl

-- R6: a page too many
r6 : map verdict
    (set whole 8 (driver Access 1000 12 0)
    ∷ [])
    ≡ Rejected 9 6 ∷ []
unfolding said pages whole_pages none_live no_handle_twice credible in_reservation ruled sized R0 R1 R2 R3 R4 R5 R6 R7 R8 R9_recorded R9_asked R10 recorded answered taken judged at_end verdict
r6 = refl

-- R7: another size; a handle twice in the buffer; in the session a live overlap, a page not mapped, another live buffer's handle
r7 : map verdict
    (set whole 10 (result 1000 4 0)
    ∷ set whole 7 (driver Map 1004 71 0)
    ∷ set session 16 (result 1000 4 0)
    ∷ set session 16 (result 1012 4 0)
    ∷ set session 13 (driver Map 1008 71 0)
    ∷ [])
    ≡ Rejected 11 7 ∷ Rejected 11 7 ∷ Rejected 17 7 ∷ Rejected 17 7 ∷ Rejected 17 7 ∷ []
unfolding said pages whole_pages none_live no_handle_twice credible in_reservation ruled sized R0 R1 R2 R3 R4 R5 R6 R7 R8 R9_recorded R9_asked R10 recorded answered taken judged at_end verdict
r7 = refl

-- R8: another stream, an address inside the buffer
r8 : map verdict
    (set whole 13 (result 8 2 0)
    ∷ set whole 11 (free 1004)
    ∷ [])
    ≡ Rejected 14 8 ∷ Rejected 14 8 ∷ []
unfolding said pages whole_pages none_live no_handle_twice credible in_reservation ruled sized R0 R1 R2 R3 R4 R5 R6 R7 R8 R9_recorded R9_asked R10 recorded answered taken judged at_end verdict
r8 = refl

-- R9: a recorded id that does not rise, an asked one before any, a waited one above the last
r9 : map verdict
    (set whole 12 (driver RecordEvent 0 1 0)
    ∷ set whole 8 (driver AskedFor 0 1 0)
    ∷ set whole 12 (driver Wait 1 1 0)
    ∷ [])
    ≡ Rejected 13 9 ∷ Rejected 9 9 ∷ Rejected 13 9 ∷ []
unfolding said pages whole_pages none_live no_handle_twice credible in_reservation ruled sized R0 R1 R2 R3 R4 R5 R6 R7 R8 R9_recorded R9_asked R10 recorded answered taken judged at_end verdict
r9 = refl

-- R10: another base, another size, a page still mapped
r10 : map verdict
    (set whole 20 (driver Giveback 1004 40 0)
    ∷ set whole 20 (driver Giveback 1000 36 0)
    ∷ set whole 16 (driver Giveback 1000 40 0)
    ∷ [])
    ≡ Rejected 21 10 ∷ Rejected 21 10 ∷ Rejected 17 10 ∷ []
unfolding said pages whole_pages none_live no_handle_twice credible in_reservation ruled sized R0 R1 R2 R3 R4 R5 R6 R7 R8 R9_recorded R9_asked R10 recorded answered taken judged at_end verdict
r10 = refl

-- a close with the buffer live: its first record ends it, a failed one too
close-ends : map verdict
    ((take 11 whole ++ drop 14 whole)
    ∷ (take 11 whole ++ close ∷ driver Sync 0 0 9 ∷ drop 16 whole)
    ∷ (take 11 whole ++ close ∷ drop 16 whole)
    ∷ [])
    ≡ Accepted ∷ Accepted ∷ Accepted ∷ []
unfolding said pages whole_pages none_live no_handle_twice credible in_reservation ruled sized R0 R1 R2 R3 R4 R5 R6 R7 R8 R9_recorded R9_asked R10 recorded answered taken judged at_end verdict
close-ends = refl

-- Sizes. `n` lines, the first as `f k`, the next as `f (k + 1)`
abbrev many : (ℕ → Reading) → ℕ → ℕ → List Reading
many f k zero = []
many f k (suc n) = f k ∷ many f (k + 1) n

-- beyond the sizes, and just within them
too_many-reservations : verdict (opening 4 40 0 ∷ many (λ i. driver Reserve (1000 + i * 40) 40 0) 0 17) ≡ (Large 18 1)
unfolding said pages whole_pages none_live no_handle_twice credible in_reservation ruled sized R0 R1 R2 R3 R4 R5 R6 R7 R8 R9_recorded R9_asked R10 recorded answered taken judged at_end verdict
too_many-reservations = refl

enough-reservations : verdict (opening 4 40 0 ∷ many (λ i. driver Reserve (1000 + i * 40) 40 0) 0 16 ++ result 0 0 0 ∷ []) ≡ Accepted
unfolding said pages whole_pages none_live no_handle_twice credible in_reservation ruled sized R0 R1 R2 R3 R4 R5 R6 R7 R8 R9_recorded R9_asked R10 recorded answered taken judged at_end verdict
enough-reservations = refl

too_many-handles : verdict (opening 4 40 0 ∷ many (λ i. driver Create i 4 0) 0 257) ≡ (Large 258 2)
unfolding said pages whole_pages none_live no_handle_twice credible in_reservation ruled sized R0 R1 R2 R3 R4 R5 R6 R7 R8 R9_recorded R9_asked R10 recorded answered taken judged at_end verdict
too_many-handles = refl

enough-handles : verdict (opening 4 40 0 ∷ many (λ i. driver Create i 4 0) 0 256 ++ result 0 0 0 ∷ []) ≡ Accepted
unfolding said pages whole_pages none_live no_handle_twice credible in_reservation ruled sized R0 R1 R2 R3 R4 R5 R6 R7 R8 R9_recorded R9_asked R10 recorded answered taken judged at_end verdict
enough-handles = refl

abbrev mallocs : ℕ → ℕ → List Reading
mallocs k zero = []
mallocs k (suc n) = malloc 4 1 ∷ driver Create k 4 0 ∷ driver Map (4 + k * 4) k 0 ∷ result (4 + k * 4) 4 0 ∷ mallocs (k + 1) n

too_many-live : verdict (opening 4 4000 0 ∷ driver Reserve 4 4000 0 ∷ result 0 0 0 ∷ mallocs 0 129) ≡ (Large 519 3)
unfolding said pages whole_pages none_live no_handle_twice credible in_reservation ruled sized R0 R1 R2 R3 R4 R5 R6 R7 R8 R9_recorded R9_asked R10 recorded answered taken judged at_end verdict
too_many-live = refl

enough-live : verdict (opening 4 4000 0 ∷ driver Reserve 4 4000 0 ∷ result 0 0 0 ∷ mallocs 0 128) ≡ Accepted
unfolding said pages whole_pages none_live no_handle_twice credible in_reservation ruled sized R0 R1 R2 R3 R4 R5 R6 R7 R8 R9_recorded R9_asked R10 recorded answered taken judged at_end verdict
enough-live = refl

-- 4,096 mapped pages, from a state: a trace of so many maps takes more steps than one check may
abbrev mapped_pages : ℕ → List Page
mapped_pages zero = []
mapped_pages (suc n) = record { at = n * 4 + 4; handle = 7 } ∷ mapped_pages n

abbrev full : ℕ → Judge
full n =
    record {
      run = record { opened = true; page = 4; va = 20000; asked = record { call = Malloc; first = 4; second = 1 }; waiting = true; over = false };
      reservations = record { base = 4; size = 20000 } ∷ [];
      held = 7 ∷ [];
      mapped = mapped_pages n;
      live = [];
      last = none;
    }

too_many-mapped : step (full 4096) (driver Map 16388 7 0) ≡ beyond 4
unfolding said pages whole_pages none_live no_handle_twice credible in_reservation ruled sized R0 R1 R2 R3 R4 R5 R6 R7 R8 R9_recorded R9_asked R10 recorded answered taken judged at_end verdict
too_many-mapped = refl

enough-mapped : step (full 4095) (driver Map 16384 7 0) ≡ on (full 4096)
unfolding said pages whole_pages none_live no_handle_twice credible in_reservation ruled sized R0 R1 R2 R3 R4 R5 R6 R7 R8 R9_recorded R9_asked R10 recorded answered taken judged at_end verdict
enough-mapped = refl

rule-before-size : step (full 4096) (driver Map 16384 7 0) ≡ broken 3
unfolding said pages whole_pages none_live no_handle_twice credible in_reservation ruled sized R0 R1 R2 R3 R4 R5 R6 R7 R8 R9_recorded R9_asked R10 recorded answered taken judged at_end verdict
rule-before-size = refl
