-- docs/RULES.md 4.5: what a malloc leaves that answers 8 to 13.
use Rattle.std.specs.Prelude.{◌≡◌, true, List, [], ◌∷◌, ◌++◌, ℕ}
use Rattle.std.proofs.Math.Option.{some, none}
use Rattle.tables.specs.Values.{Tables, address, opened, pool_of, at_entry, with_holes, with_roots}
use Rattle.tables.specs.Outcomes.{is}
use Rattle.tables.specs.InsertHole.{insert_hole}
use Rattle.tables.specs.TakeRange.{smallest_hole, credible}
use Rattle.tables.specs.Cleanup.{cleanup}
use Rattle.tables.specs.HandsBack.{Reply}
use Rattle.tables.specs.declared.Hole.{Hole}
use Rattle.tables.specs.declared.Pool.{Pool}
use Rattle.answering.specs.Answers.{among}

-- the tables that cleanup, a malloc's first step, leaves
abbrev pub cleaned : Pool → List ℕ → Tables
cleaned p xs = (cleanup xs 0 (at_entry p)).tables

-- the numbers of a malloc that has taken no range
abbrev pub before_room : List ℕ
before_room = 8 ∷ 9 ∷ 10 ∷ 11 ∷ 12 ∷ []

-- one root more, at `b`, and all of its range a hole
abbrev pub with_root : ℕ → Tables → Tables
with_root b t = with_holes (insert_hole b t.fields.va t.holes) (with_roots (t.roots ++ address b ∷ []) t)

-- `n` bytes were taken from the tables `t`, and are a hole again: the pool that is left, open.
pub data TakenBack (n : ℕ) (t : Tables) : Pool → Type 0 where
  -- from the smallest hole that was large enough: every table is as it was
  from_hole : (h : Hole) → smallest_hole n t.holes ≡ some h → TakenBack n t (pool_of opened t)
  -- no hole was large enough, so from a new root, which stays
  from_root : (b : ℕ) → smallest_hole n t.holes ≡ none → credible b t ≡ true → TakenBack n t (pool_of opened (with_root b t))

-- A malloc of `n` bytes leaves the pool open, with the tables as cleanup left them where it answers 8 to 12, and with what it took put back where it
-- answers 13.
pub record Leaves (p : Pool) (n : ℕ) (xs : List ℕ) (r : Reply) : Type 0 where
  pub before : among before_room r.outcome ≡ true → r.pool ≡ pool_of opened (cleaned p xs)
  pub memory : is 13 r.outcome ≡ true → TakenBack n (cleaned p xs) r.pool
