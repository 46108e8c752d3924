-- An input that comes in chunks: what is read is a chunk and, of its last line, a part.
use Rattle.std.specs.Prelude.{true, false, cond, List, [], ◌∷◌, ◌++◌, ℕ, ◌+◌, eqb}
use Rattle.trace.specs.Machine.{after, fresh, is_fresh, line_at}
use Rattle.trace.specs.declared.Partial.{Partial}
use Rattle.trace.specs.declared.Reach.{Reach}
use Rattle.trace.specs.declared.Reading.{Reading}

-- the end of the input: a line that has begun counts
abbrev pub ending : Partial → List Reading
ending p = cond (is_fresh p) [] (line_at p ∷ [])

-- what the rest of an input says, a part of its first line read
abbrev pub lines_from : Partial → List ℕ → List Reading
lines_from p [] = ending p
lines_from p (b ∷ l) = cond (eqb b 10) (line_at p ∷ lines_from fresh l) (lines_from (after p b) l)

-- a chunk: the lines that end in it
abbrev pub ended_in : Partial → List ℕ → List Reading
ended_in p [] = []
ended_in p (b ∷ l) = cond (eqb b 10) (line_at p ∷ ended_in fresh l) (ended_in (after p b) l)

-- and the part of a line that is left behind it
abbrev pub left_of : Partial → List ℕ → Partial
left_of p [] = p
left_of p (b ∷ l) = cond (eqb b 10) (left_of fresh l) (left_of (after p b) l)

-- chunk after chunk
abbrev pub chunked : Partial → List (List ℕ) → List Reading
chunked p [] = ending p
chunked p (c ∷ cs) = ended_in p c ++ chunked (left_of p c) cs

-- how far a line goes in what is left of a chunk, whose first byte is at place `at`
abbrev pub reached : ℕ → Partial → List ℕ → Reach
reached at p [] = record { at = at; partial = p; ended = false }
reached at p (b ∷ l) =
    cond (eqb b 10)
    (record { at = at + 1; partial = p; ended = true })
    (reached (at + 1) (after p b) l)
