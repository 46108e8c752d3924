-- The three misreadings of docs/RULES.md 9.3. For each: the rule's steps misread, a session, and its last call by the rule and by the misreading. All
-- by computation.
use mathlib.Core.Path.{◌≡◌, refl}
use mathlib.Core.Bool.{cond}
use mathlib.Core.List.{List, [], ◌∷◌, ◌++◌}
use Prim.Native.Nat.{ℕ, zero, suc, ◌+◌, ◌-◌}
use lib.Dec.{ltb, eqb}
use lib.ListN.{length, get_or}
use Rattle.lists.specs.Order.{put}
use Rattle.words.specs.Words.{reserve, create, map, access, unmap, recorded, asked, wait, sync}
use Rattle.tables.specs.Values.{address, opened, closed_pool, region, buffer, hole, zombie, page, empty_zombie}
use Rattle.tables.specs.Outcomes.{answers}
use Rattle.tables.specs.Steps.{Step, Act, ◌>>=◌, ◌>>◌, give, end_if, nothing, tables, change_free, change_live, count_on}
use Rattle.tables.specs.Driver.{is_complete}
use Rattle.tables.specs.InsertFree.{from, put_free, without_free}
use Rattle.tables.specs.Cleanup.{clean, cleanup}
use Rattle.tables.specs.Fit.{fit}
use Rattle.tables.specs.Malloc.{or_room, hand_over}
use Rattle.tables.specs.Calls.{mallocs, frees}
use Rattle.tables.specs.Session.{Row, open_row, row, played, played_by, holding, replied_by, calls}
use Rattle.tables.specs.declared.FreeRegion.{FreeRegion}
use Rattle.tables.specs.declared.Outcome.{Outcome}
use Rattle.tables.specs.declared.Outcome.TheVariants.{Allocated, RequestedExceedsVa}

-- what `l` and its last call leave, by the rule and by `misread`
abbrev Apart : (ℕ → ℕ → Step Outcome) → List Row → Row → Row → Type 0
Apart misread l right wrong =
    (played closed_pool (l ++ right ∷ []) ≡ l ++ right ∷ []) × (played_by misread closed_pool (l ++ right ∷ []) ≡ l ++ wrong ∷ [])

-- 1. 8 before the fit.
abbrev pub refuses_first : ℕ → ℕ → Step Outcome
refuses_first n s = do
  cleanup
  t ← tables
  end_if (ltb t.fields.va n) (RequestedExceedsVa n t.fields.va)
  o ← fit n s
  r ← or_room n s o
  hand_over n s r

-- page size 4, va_size 4
abbrev two_roots : List Row
two_roots =
    open_row 4 4 0
    (reserve 1000 4 0 ∷ [])
    (answers 0 1000 4) opened
    (holding 4 4 0 [] [] (hole 1000 4 ∷ []) [] [] (address 1000 ∷ [])) ∷
    row (mallocs 4 1)
    (create 71 4 0 ∷ map 1000 71 0 ∷ access 1000 4 0 ∷ recorded 0 1 0 ∷ [])
    (answers 0 1000 4) opened
    (holding 4 4 1 [] (buffer 1000 4 1 ∷ []) [] [] (page 1000 71 ∷ []) (address 1000 ∷ [])) ∷
    row (mallocs 4 1)
    (reserve 1004 4 0 ∷ create 72 4 0 ∷ map 1004 72 0 ∷ access 1004 4 0 ∷ recorded 1 1 0 ∷ [])
    (answers 0 1004 4) opened
    (holding 4 4 2 [] (buffer 1000 4 1 ∷ buffer 1004 4 1 ∷ []) [] [] (page 1000 71 ∷ page 1004 72 ∷ []) (address 1000 ∷ address 1004 ∷ [])) ∷
    row (frees 1000)
    (recorded 2 1 0 ∷ [])
    (answers 0 4 1) opened
    (holding 4 4 3 (region 1000 4 1 2 ∷ []) (buffer 1004 4 1 ∷ []) [] [] (page 1000 71 ∷ page 1004 72 ∷ []) (address 1000 ∷ address 1004 ∷ [])) ∷
    row (frees 1004)
    (recorded 3 1 0 ∷ [])
    (answers 0 4 1) opened
    (holding 4 4 4 (region 1000 8 1 3 ∷ []) [] [] [] (page 1000 71 ∷ page 1004 72 ∷ []) (address 1000 ∷ address 1004 ∷ [])) ∷
    []

pub refuses-first :
    Apart refuses_first two_roots
    (row (mallocs 8 1) [] (answers 0 1000 8) opened
    (holding 4 4 4 [] (buffer 1000 8 1 ∷ []) [] [] (page 1000 71 ∷ page 1004 72 ∷ []) (address 1000 ∷ address 1004 ∷ [])))
    (row (mallocs 8 1) [] (answers 8 8 4) opened
    (holding 4 4 4 (region 1000 8 1 3 ∷ []) [] [] [] (page 1000 71 ∷ page 1004 72 ∷ []) (address 1000 ∷ address 1004 ∷ [])))
unfolding replied_by
refuses-first = (refl, refl)

-- page size 4, va_size 16, two initial pages
abbrev initial : List Row
initial =
    open_row 4 16 2
    (reserve 1000 16 0 ∷ create 71 4 0 ∷ map 1000 71 0 ∷ create 72 4 0 ∷ map 1004 72 0 ∷ access 1000 8 0 ∷ recorded 0 0 0 ∷ sync 0 0 0 ∷ [])
    (answers 0 1000 4) opened
    (holding 4 16 1 (region 1000 8 0 0 ∷ []) [] (hole 1008 8 ∷ []) [] (page 1000 71 ∷ page 1004 72 ∷ []) (address 1000 ∷ [])) ∷
    []

-- 2. A new id for what hand over leaves.
abbrev fresh_tail : ℕ → FreeRegion → Act
fresh_tail n r =
    cond (eqb r.size n) nothing (do
      t ← tables
      change_free (put_free (region (from r + n) (r.size - n) r.stream t.fields.counter))
      count_on)

abbrev pub renumbers_tail : ℕ → ℕ → Step Outcome
renumbers_tail n s = do
  cleanup
  o ← fit n s
  r ← or_room n s o
  change_free (without_free (from r))
  fresh_tail n r
  change_live (put (λ b. b.start.0) (buffer (from r) n s))
  give (Allocated (address (from r)) n)

pub renumbers-tail :
    Apart renumbers_tail initial
    (row (mallocs 4 1) (asked 0 1 0 ∷ []) (answers 0 1000 4) opened
    (holding 4 16 1 (region 1004 4 1 0 ∷ []) (buffer 1000 4 1 ∷ []) (hole 1008 8 ∷ []) [] (page 1000 71 ∷ page 1004 72 ∷ []) (address 1000 ∷ [])))
    (row (mallocs 4 1) (asked 0 1 0 ∷ []) (answers 0 1000 4) opened
    (holding 4 16 2 (region 1004 4 1 1 ∷ []) (buffer 1000 4 1 ∷ []) (hole 1008 8 ∷ []) [] (page 1000 71 ∷ page 1004 72 ∷ []) (address 1000 ∷ [])))
unfolding replied_by
renumbers-tail = (refl, refl)

-- 3. The walk goes on from a place that was just filled: at most `n` turns, from place `i` on.
abbrev walk_on : ℕ → ℕ → Act
walk_on zero i = nothing
walk_on (suc n) i = do
  t ← tables
  cond (ltb i (length t.zombies)) (do
    let z = get_or t.zombies i empty_zombie
    c ← is_complete z.id.0
    cond c (clean i z) nothing
    walk_on n (i + 1)) nothing

abbrev pub walks_on : ℕ → ℕ → Step Outcome
walks_on n s = do
  t ← tables
  walk_on (length t.zombies) 0
  o ← fit n s
  r ← or_room n s o
  hand_over n s r

abbrev two_zombies : List Row
two_zombies =
    initial ++
    row (mallocs 4 1)
    (asked 0 0 0 ∷ asked 0 0 0 ∷ wait 0 1 0 ∷ map 1008 71 0 ∷ access 1008 4 0 ∷ recorded 1 1 0 ∷ [])
    (answers 0 1008 4) opened
    (holding 4 16 2 (region 1004 4 0 0 ∷ []) (buffer 1008 4 1 ∷ []) (hole 1012 4 ∷ []) (zombie 1000 4 0 ∷ []) (page 1004 72 ∷ page 1008 71 ∷ []) (address 1000 ∷ [])) ∷
    row (mallocs 4 1)
    (asked 0 0 0 ∷ asked 0 0 0 ∷ asked 0 0 0 ∷ wait 0 1 0 ∷ map 1012 72 0 ∷ access 1012 4 0 ∷ recorded 2 1 0 ∷ [])
    (answers 0 1012 4) opened
    (holding 4 16 3 [] (buffer 1008 4 1 ∷ buffer 1012 4 1 ∷ []) [] (zombie 1000 4 0 ∷ zombie 1004 4 0 ∷ []) (page 1008 71 ∷ page 1012 72 ∷ []) (address 1000 ∷ [])) ∷
    []

pub walks-on :
    Apart walks_on two_zombies
    (row (mallocs 20 1) (asked 0 1 0 ∷ unmap 1000 4 0 ∷ asked 0 1 0 ∷ unmap 1004 4 0 ∷ []) (answers 8 20 16) opened
    (holding 4 16 3 [] (buffer 1008 4 1 ∷ buffer 1012 4 1 ∷ []) (hole 1000 8 ∷ []) [] (page 1008 71 ∷ page 1012 72 ∷ []) (address 1000 ∷ [])))
    (record {
      request = calls (mallocs 20 1);
      answers = 0 ∷ 1 ∷ 0 ∷ 0 ∷ 0 ∷ 1 ∷ 0 ∷ 0 ∷ [];
      records = asked 0 1 0 ∷ unmap 1000 4 0 ∷ [];
      result = answers 8 20 16;
      state = opened;
      tables = holding 4 16 3 [] (buffer 1008 4 1 ∷ buffer 1012 4 1 ∷ []) (hole 1000 4 ∷ []) (zombie 1004 4 0 ∷ []) (page 1008 71 ∷ page 1012 72 ∷ []) (address 1000 ∷ []);
    })
unfolding replied_by
walks-on = (refl, refl)
