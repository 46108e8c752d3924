-- A call answers with the answers that are kept what it answers with all of them, if the records that it makes with these fit a log.
use mathlib.Core.Path.{◌≡◌}
use mathlib.Core.Bool.{Bool, true, false, cond}
use mathlib.Core.List.{List}
use Prim.Native.Nat.{ℕ, ◌*◌, ◌≤◌}
use lib.ListN.{length, take}
use Rattle.tables.specs.Bounds.{LOG}
use Rattle.tables.specs.HandsBack.{Reply}
use Rattle.tables.specs.declared.Pool.{Pool}
use Rattle.spare_answers.proofs.Calls.{call-spare, open-spare}
use Rattle.replay_answers.specs.Promises.{KEPT}
use Rattle.replay_lines.specs.Traced.{is_open, call_of}
use Rattle.replay_rules.specs.Replay.{Waiting, answered}
use Rattle.replay_rules.proofs.Passed.{lent}

pub answered-spare : (p : Pool) (w : Waiting) (xs : List ℕ) → length (answered p (lent w (take (2 * KEPT) xs))).records ≤ LOG
    → answered p (lent w (take (2 * KEPT) xs)) ≡ answered p (lent w xs)
unfolding answered
answered-spare p w xs = go (is_open w.call) (open-spare xs _ _ _ _ _) (call-spare xs p (call_of w.call))
  where
    go : (a : Bool) {o o' c c' : Reply} → (length o.records ≤ LOG → o ≡ o') → (length c.records ≤ LOG → c ≡ c')
        → length (cond a o c).records ≤ LOG → cond a o c ≡ cond a o' c'
    go true h i n = h n
    go false h i n = i n
