-- What A to N alone would not show, in one session with one proof by computation: initial pages, a split tail that keeps its id (B), a rollback with
-- less missing than requested, of which the whole range comes back (C), a buffer over two roots (D), a fit above va_size (G), and a close.
use mathlib.Core.Path.{◌≡◌, refl}
use mathlib.Core.List.{List, [], ◌∷◌}
use Rattle.words.specs.Words.{reserve, create, map, access, unmap, release, recorded, asked, sync, giveback}
use Rattle.tables.specs.Values.{address, closed, opened, closed_pool, no_tables, region, buffer, hole, page}
use Rattle.tables.specs.Outcomes.{answers}
use Rattle.tables.specs.Calls.{mallocs, frees, closes}
use Rattle.tables.specs.Session.{Row, open_row, row, played, holding, replied_by}

abbrev beyond : List Row
beyond =
    -- A
    open_row 4 8 2
    (reserve 1000 8 0 ∷ create 71 4 0 ∷ map 1000 71 0 ∷ create 72 4 0 ∷ map 1004 72 0 ∷ access 1000 8 0 ∷ recorded 0 0 0 ∷ sync 0 0 0 ∷ [])
    (answers 0 1000 4) opened
    (holding 4 8 1 (region 1000 8 0 0 ∷ []) [] [] []
    (page 1000 71 ∷ page 1004 72 ∷ []) (address 1000 ∷ [])) ∷
    -- B
    row (mallocs 4 1)
    (asked 0 1 0 ∷ [])
    (answers 0 1000 4) opened
    (holding 4 8 1 (region 1004 4 1 0 ∷ []) (buffer 1000 4 1 ∷ []) [] []
    (page 1000 71 ∷ page 1004 72 ∷ []) (address 1000 ∷ [])) ∷
    -- C
    row (mallocs 8 1)
    (reserve 1008 8 0 ∷ create 0 4 2 ∷ [])
    (answers 13 4 0) opened
    (holding 4 8 1 (region 1004 4 1 0 ∷ []) (buffer 1000 4 1 ∷ []) (hole 1008 8 ∷ []) []
    (page 1000 71 ∷ page 1004 72 ∷ []) (address 1000 ∷ address 1008 ∷ [])) ∷
    -- D
    row (mallocs 8 1)
    (create 73 4 0 ∷ map 1008 73 0 ∷ access 1008 4 0 ∷ recorded 1 1 0 ∷ [])
    (answers 0 1004 8) opened
    (holding 4 8 2 [] (buffer 1000 4 1 ∷ buffer 1004 8 1 ∷ []) [] []
    (page 1000 71 ∷ page 1004 72 ∷ page 1008 73 ∷ []) (address 1000 ∷ address 1008 ∷ [])) ∷
    -- E
    row (frees 1004)
    (recorded 2 1 0 ∷ [])
    (answers 0 8 1) opened
    (holding 4 8 3 (region 1004 8 1 2 ∷ []) (buffer 1000 4 1 ∷ []) [] []
    (page 1000 71 ∷ page 1004 72 ∷ page 1008 73 ∷ []) (address 1000 ∷ address 1008 ∷ [])) ∷
    -- F
    row (frees 1000)
    (recorded 3 1 0 ∷ [])
    (answers 0 4 1) opened
    (holding 4 8 4 (region 1000 12 1 3 ∷ []) [] [] []
    (page 1000 71 ∷ page 1004 72 ∷ page 1008 73 ∷ []) (address 1000 ∷ address 1008 ∷ [])) ∷
    -- G
    row (mallocs 12 1)
    []
    (answers 0 1000 12) opened
    (holding 4 8 4 [] (buffer 1000 12 1 ∷ []) [] []
    (page 1000 71 ∷ page 1004 72 ∷ page 1008 73 ∷ []) (address 1000 ∷ address 1008 ∷ [])) ∷
    -- H
    row closes
    (sync 0 0 0 ∷ unmap 1000 4 0 ∷ release 71 0 0 ∷ unmap 1004 4 0 ∷ release 72 0 0 ∷ unmap 1008 4 0 ∷ release 73 0 0 ∷ giveback 1000 8 0 ∷
    giveback 1008 8 0 ∷ [])
    (answers 0 0 0) closed (no_tables 0 0) ∷
    []

pub follows : played closed_pool beyond ≡ beyond
unfolding replied_by
follows = refl
