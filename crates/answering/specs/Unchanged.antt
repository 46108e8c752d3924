-- docs/RULES.md 4.5: the numbers that leave a pool as it came.
use Rattle.std.specs.Prelude.{◌≡◌, true, List, [], ◌∷◌, ℕ}
use Rattle.tables.specs.Outcomes.{is}
use Rattle.tables.specs.HandsBack.{Reply}
use Rattle.tables.specs.declared.Pool.{Pool}
use Rattle.answering.specs.Answers.{among}

-- the tests at entry (docs/RULES.md 4.2)
abbrev pub refusals : List ℕ
refusals = 1 ∷ 2 ∷ 3 ∷ 4 ∷ 5 ∷ 6 ∷ 7 ∷ 16 ∷ 19 ∷ []

-- The tests at entry leave pool and log as they were, 17 the pool.
pub record Unchanged (p : Pool) (r : Reply) : Type 0 where
  pub refused : among refusals r.outcome ≡ true → (r.pool ≡ p) × (r.records ≡ [])
  pub short : is 17 r.outcome ≡ true → r.pool ≡ p
