-- While no call line is met, the waiting call gathers its answers and nothing is printed.
use mathlib.Core.Path.{◌≡◌, refl}
use mathlib.Core.Bool.{Bool, true, false}
use mathlib.Core.List.{List, [], ◌∷◌, ◌++◌}
use Prim.Native.Nat.{ℕ, ◌+◌}
use Rattle.trace.specs.declared.Reading.{Reading}
use Rattle.trace.specs.declared.Reading.TheVariants.{Good, Malformed}
use Rattle.tables.specs.declared.Pool.{Pool}
use Rattle.replay_answers.specs.Lending.{Passed, passed, is_driver, is_passed_over, answer_in}
use Rattle.replay_rules.specs.Replay.{Waiting, replay_from}

-- the waiting call with other answers
abbrev pub lent : Waiting → List ℕ → Waiting
lent w xs = record { number = w.number; call = w.call; answers = xs }

-- what is printed from what the lines come to
abbrev pub replay_passed : (Pool → List ℕ) → Pool → Waiting → Passed → List ℕ
replay_passed show p w q = replay_from show p (lent w q.answers) q.number q.rest

module _ (show : Pool → List ℕ) (p : Pool) (w : Waiting) where
  pub replay-passed : (xs : List ℕ) (n : ℕ) (ls : List Reading) → replay_from show p (lent w xs) n ls ≡ replay_passed show p w (passed xs n ls)
  replay-passed xs n [] = refl
  replay-passed xs n (Malformed ∷ ls) = refl
  replay-passed xs n (Good l ∷ ls) = go (is_driver l) (is_passed_over l) refl refl (replay-passed (xs ++ answer_in l) (n + 1) ls) (replay-passed xs (n + 1) ls)
    where
      go : (d r : Bool) → is_driver l ≡ d → is_passed_over l ≡ r
          → replay_from show p (lent w (xs ++ answer_in l)) (n + 1) ls ≡ replay_passed show p w (passed (xs ++ answer_in l) (n + 1) ls)
          → replay_from show p (lent w xs) (n + 1) ls ≡ replay_passed show p w (passed xs (n + 1) ls)
          → replay_from show p (lent w xs) n (Good l ∷ ls) ≡ replay_passed show p w (passed xs n (Good l ∷ ls))
      go true r e f driver result = rw e driver
      go false true e f driver result = rw (e, f) result
      go false false e f driver result = simp (e, f)
