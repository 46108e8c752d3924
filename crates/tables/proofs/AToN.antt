-- docs/RULES.md 9, A to N: one table, with one proof by computation. Each row has the call, the records that it leaves (their answers are what it was
-- lent), what it answers, and every table and the counter after it.
use mathlib.Core.Path.{◌≡◌, refl}
use mathlib.Core.List.{List, [], ◌∷◌}
use Rattle.tables.specs.Values.{address, opened, closed_pool, region, buffer, hole, zombie, page}
use Rattle.tables.specs.Outcomes.{answers}
use Rattle.words.specs.Words.{reserve, create, map, access, unmap, release, recorded, asked}
use Rattle.tables.specs.Calls.{mallocs, frees}
use Rattle.tables.specs.Session.{Row, open_row, row, played, holding, replied_by}

abbrev pub a_to_n : List Row
a_to_n =
    -- open
    open_row 4 40 0
    (reserve 1000 40 0 ∷ [])
    (answers 0 1000 4) opened
    (holding 4 40 0 [] [] (hole 1000 40 ∷ []) []
    [] (address 1000 ∷ [])) ∷
    -- A
    row (mallocs 8 1)
    (create 71 4 0 ∷ map 1000 71 0 ∷ create 72 4 0 ∷ map 1004 72 0 ∷ access 1000 8 0 ∷ recorded 0 1 0 ∷ [])
    (answers 0 1000 8) opened
    (holding 4 40 1 [] (buffer 1000 8 1 ∷ []) (hole 1008 32 ∷ []) []
    (page 1000 71 ∷ page 1004 72 ∷ []) (address 1000 ∷ [])) ∷
    -- B
    row (mallocs 4 2)
    (create 73 4 0 ∷ map 1008 73 0 ∷ access 1008 4 0 ∷ recorded 1 2 0 ∷ [])
    (answers 0 1008 4) opened
    (holding 4 40 2 [] (buffer 1000 8 1 ∷ buffer 1008 4 2 ∷ []) (hole 1012 28 ∷ []) []
    (page 1000 71 ∷ page 1004 72 ∷ page 1008 73 ∷ []) (address 1000 ∷ [])) ∷
    -- C
    row (mallocs 4 1)
    (create 74 4 0 ∷ map 1012 74 0 ∷ access 1012 4 0 ∷ recorded 2 1 0 ∷ [])
    (answers 0 1012 4) opened
    (holding 4 40 3 [] (buffer 1000 8 1 ∷ buffer 1008 4 2 ∷ buffer 1012 4 1 ∷ []) (hole 1016 24 ∷ []) []
    (page 1000 71 ∷ page 1004 72 ∷ page 1008 73 ∷ page 1012 74 ∷ []) (address 1000 ∷ [])) ∷
    -- D
    row (frees 1000)
    (recorded 3 1 0 ∷ [])
    (answers 0 8 1) opened
    (holding 4 40 4 (region 1000 8 1 3 ∷ []) (buffer 1008 4 2 ∷ buffer 1012 4 1 ∷ []) (hole 1016 24 ∷ []) []
    (page 1000 71 ∷ page 1004 72 ∷ page 1008 73 ∷ page 1012 74 ∷ []) (address 1000 ∷ [])) ∷
    -- E
    row (frees 1012)
    (recorded 4 1 0 ∷ [])
    (answers 0 4 1) opened
    (holding 4 40 5 (region 1000 8 1 3 ∷ region 1012 4 1 4 ∷ []) (buffer 1008 4 2 ∷ []) (hole 1016 24 ∷ []) []
    (page 1000 71 ∷ page 1004 72 ∷ page 1008 73 ∷ page 1012 74 ∷ []) (address 1000 ∷ [])) ∷
    -- F
    row (mallocs 12 1)
    (map 1016 71 0 ∷ map 1020 72 0 ∷ map 1024 74 0 ∷ access 1016 12 0 ∷ recorded 5 1 0 ∷ [])
    (answers 0 1016 12) opened
    (holding 4 40 6 [] (buffer 1008 4 2 ∷ buffer 1016 12 1 ∷ []) (hole 1028 12 ∷ []) (zombie 1000 8 3 ∷ zombie 1012 4 4 ∷ [])
    (page 1008 73 ∷ page 1016 71 ∷ page 1020 72 ∷ page 1024 74 ∷ []) (address 1000 ∷ [])) ∷
    -- G
    row (mallocs 4 2)
    (asked 3 1 0 ∷ unmap 1000 8 0 ∷ asked 4 0 0 ∷ create 0 4 2 ∷ [])
    (answers 13 4 0) opened
    (holding 4 40 6 [] (buffer 1008 4 2 ∷ buffer 1016 12 1 ∷ []) (hole 1000 8 ∷ hole 1028 12 ∷ []) (zombie 1012 4 4 ∷ [])
    (page 1008 73 ∷ page 1016 71 ∷ page 1020 72 ∷ page 1024 74 ∷ []) (address 1000 ∷ [])) ∷
    -- H
    row (mallocs 44 1)
    (asked 4 0 0 ∷ [])
    (answers 8 44 40) opened
    (holding 4 40 6 [] (buffer 1008 4 2 ∷ buffer 1016 12 1 ∷ []) (hole 1000 8 ∷ hole 1028 12 ∷ []) (zombie 1012 4 4 ∷ [])
    (page 1008 73 ∷ page 1016 71 ∷ page 1020 72 ∷ page 1024 74 ∷ []) (address 1000 ∷ [])) ∷
    -- I
    row (frees 1000)
    []
    (answers 16 1000 0) opened
    (holding 4 40 6 [] (buffer 1008 4 2 ∷ buffer 1016 12 1 ∷ []) (hole 1000 8 ∷ hole 1028 12 ∷ []) (zombie 1012 4 4 ∷ [])
    (page 1008 73 ∷ page 1016 71 ∷ page 1020 72 ∷ page 1024 74 ∷ []) (address 1000 ∷ [])) ∷
    -- J
    row (mallocs 6 1)
    []
    (answers 6 6 0) opened
    (holding 4 40 6 [] (buffer 1008 4 2 ∷ buffer 1016 12 1 ∷ []) (hole 1000 8 ∷ hole 1028 12 ∷ []) (zombie 1012 4 4 ∷ [])
    (page 1008 73 ∷ page 1016 71 ∷ page 1020 72 ∷ page 1024 74 ∷ []) (address 1000 ∷ [])) ∷
    -- K
    row (mallocs 0 1)
    []
    (answers 6 0 0) opened
    (holding 4 40 6 [] (buffer 1008 4 2 ∷ buffer 1016 12 1 ∷ []) (hole 1000 8 ∷ hole 1028 12 ∷ []) (zombie 1012 4 4 ∷ [])
    (page 1008 73 ∷ page 1016 71 ∷ page 1020 72 ∷ page 1024 74 ∷ []) (address 1000 ∷ [])) ∷
    -- L
    row (mallocs 40 1)
    (asked 4 1 0 ∷ unmap 1012 4 0 ∷ reserve 1040 40 0 ∷ create 76 4 0 ∷ map 1040 76 0 ∷ create 77 4 0 ∷ map 1044 77 0 ∷
    create 0 4 2 ∷ unmap 1040 4 0 ∷ release 76 0 0 ∷ unmap 1044 4 0 ∷ release 77 0 0 ∷ [])
    (answers 13 40 8) opened
    (holding 4 40 6 [] (buffer 1008 4 2 ∷ buffer 1016 12 1 ∷ []) (hole 1000 8 ∷ hole 1012 4 ∷ hole 1028 52 ∷ []) []
    (page 1008 73 ∷ page 1016 71 ∷ page 1020 72 ∷ page 1024 74 ∷ []) (address 1000 ∷ address 1040 ∷ [])) ∷
    -- M
    row (frees 1016)
    (recorded 6 1 0 ∷ [])
    (answers 0 12 1) opened
    (holding 4 40 7 (region 1016 12 1 6 ∷ []) (buffer 1008 4 2 ∷ []) (hole 1000 8 ∷ hole 1012 4 ∷ hole 1028 52 ∷ []) []
    (page 1008 73 ∷ page 1016 71 ∷ page 1020 72 ∷ page 1024 74 ∷ []) (address 1000 ∷ address 1040 ∷ [])) ∷
    -- N
    row (mallocs 16 1)
    (create 75 4 0 ∷ map 1028 75 0 ∷ access 1028 4 0 ∷ recorded 7 1 0 ∷ [])
    (answers 0 1016 16) opened
    (holding 4 40 8 [] (buffer 1008 4 2 ∷ buffer 1016 16 1 ∷ []) (hole 1000 8 ∷ hole 1012 4 ∷ hole 1044 36 ∷ []) []
    (page 1008 73 ∷ page 1016 71 ∷ page 1020 72 ∷ page 1024 74 ∷ page 1028 75 ∷ []) (address 1000 ∷ address 1040 ∷ [])) ∷
    []

pub follows : played closed_pool a_to_n ≡ a_to_n
unfolding replied_by
follows = refl
