-- The places of a line lie in the tables.
use mathlib.Core.Path.{◌≡◌}
use mathlib.Core.Logic.{◌⊎◌, inl, inr, ⊎_elim}
use Prim.Native.Nat.{ℕ, ◌≤◌, ◌<◌}
use native.Mathlib.Omega.{arith}
use borrow.Author.Tests.{lt-ltb, le-ltb}
use lib.ListN.{get_or-eq_default}
use Rattle.lists.proofs.Tests.{cases_lt}
use Rattle.words.specs.declared.Word.{Word}
use Rattle.judge_rules.specs.Said.{said, kinds}
use Rattle.judge_rules.specs.declared.Call.{Call}
use Rattle.judge_rules.specs.declared.Call.TheVariants.{Open, Malloc, Free, Close}
use Rattle.judge_rules.specs.declared.Said.{Said}
use Rattle.judge_rules.specs.declared.Said.TheVariants.{Record, Call as Calls, Result, Aside, Unknown}
use Rattle.summary_counts.specs.Counts.{answer_places, shown_number, answer_place_of, failure_places}

pub shown-few : (n : ℕ) → shown_number n ≤ 20
shown-few n = go (cases_lt n 20)
  where
    go : (n < 20) ⊎ (20 ≤ n) → shown_number n ≤ 20
    go (inl h) = rw (lt-ltb n 20 h) (omega arith)
    go (inr h) = rw (le-ltb n 20 h) (omega arith)

pub answer-fits : (w : Said) (c : Call) (n : ℕ) → answer_place_of w c n < answer_places
answer-fits Result Open n = omega (arith, shown-few n)
answer-fits Result Malloc n = omega (arith, shown-few n)
answer-fits Result Free n = omega (arith, shown-few n)
answer-fits Result Close n = omega (arith, shown-few n)
answer-fits (Record w) c n = omega arith
answer-fits (Calls d) c n = omega arith
answer-fits Aside c n = omega arith
answer-fits Unknown c n = omega arith

unknown : (k : ℕ) → failure_places ≤ k → said k ≡ Unknown
unfolding said
unknown k h = get_or-eq_default kinds Unknown h

-- a kind that stands for something is none beyond the table
known-fits : (k : ℕ) → (said k ≡ Unknown → ⊥) → k < failure_places
known-fits k d = ⊎_elim (λ h. h) (λ h. absurd (d (unknown k h))) (cases_lt k failure_places)

pub record-fits : (k : ℕ) (w : Word) → said k ≡ Record w → k < failure_places
record-fits k w e = known-fits k (λ u. let z : ◌≡◌ {A = ℕ} 0 1 = cc in absurd (omega arith))

pub aside-fits : (k : ℕ) → said k ≡ Aside → k < failure_places
aside-fits k e = known-fits k (λ u. let z : ◌≡◌ {A = ℕ} 0 1 = cc in absurd (omega arith))
