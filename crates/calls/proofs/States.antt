-- The state that an outcome leaves, by its number.
use mathlib.Core.Path.{◌≡◌, refl, ap, sym}
use mathlib.Core.Bool.{Bool, true, false, cond, ◌||◌}
use Prim.Native.Nat.{ℕ}
use native.Mathlib.Omega.{arith}
use Rattle.std.specs.Prelude.{Some, None, Option as State}
use Rattle.tables.specs.Values.{opened, stopped}
use Rattle.tables.specs.Outcomes.{is}
use Rattle.tables.specs.declared.Outcome.{Outcome}
use Rattle.calls.specs.Leaving.{state_after, opened_after}

-- the state, `z` where there is none
abbrev state_or : ℕ → State ℕ → ℕ
state_or z None = z
state_or z (Some n) = n

none-some : {A : Type 0} {n : ℕ} → ◌≡◌ {A = State ℕ} None (Some n) → A
none-some e = let z : ◌≡◌ {A = ℕ} 0 1 = cc in absurd (omega arith)

by-test : (b : Bool) (n : ℕ) → cond b None (Some n) ≡ None → b ≡ true
by-test true n e = refl
by-test false n e = none-some (sym e)

by_state : (b : Bool) (n s : ℕ) → cond b None (Some n) ≡ Some s → (b ≡ false) × (s ≡ n)
by_state true n s e = none-some e
by_state false n s e = (refl, ap (state_or s) (sym e))

module _ (o : Outcome) where
  pub is-short : state_after o ≡ None → is 17 o ≡ true
  is-short e = by-test (is 17 o) _ e

  pub is-left : {s : ℕ} → state_after o ≡ Some s → (is 17 o ≡ false) × (s ≡ cond (is 14 o || is 15 o) stopped opened)
  is-left {s} e = by_state (is 17 o) _ s e

  pub is-short-open : opened_after o ≡ None → is 17 o ≡ true
  is-short-open e = by-test (is 17 o) _ e

  pub is-left-open : {s : ℕ} → opened_after o ≡ Some s → (is 17 o ≡ false) × (s ≡ cond (is 0 o) opened stopped)
  is-left-open {s} e = by_state (is 17 o) _ s e
