-- Two tests in order, as the code makes them and as a rule has them.
use mathlib.Core.Path.{◌≡◌, refl, ap, sym}
use mathlib.Core.Bool.{Bool, true, false, cond}
use Prim.Native.Nat.{ℕ}
use native.Mathlib.Omega.{arith}
use Rattle.std.specs.Prelude.{Result, Ok, Err}
use Rattle.tables.specs.HandsBack.{Reply, refused}
use Rattle.tables.specs.declared.Pool.{Pool}
use Rattle.tables.specs.declared.Outcome.{Outcome}
use Rattle.calls.specs.Refusing.{first_of}

abbrev refusal : Outcome → Result (Unit {0}) Outcome → Outcome
refusal o (Ok u) = o
refusal o (Err q) = q

ok-err : {A : Type 0} {o : Outcome} → ◌≡◌ {A = Result (Unit {0}) Outcome} (Ok tt) (Err o) → A
ok-err e = let z : ◌≡◌ {A = ℕ} 0 1 = cc in absurd (omega arith)

module _ (p : Pool) (x y : Outcome) (w : Reply) where
  pub tests-stop : (a b : Bool) (o : Outcome) → first_of a x b y ≡ Err o → cond a (refused p x) (cond b (refused p y) w) ≡ refused p o
  tests-stop true b o e = ap (λ r. refused p (refusal o r)) e
  tests-stop false true o e = ap (λ r. refused p (refusal o r)) e
  tests-stop false false o e = ok-err e

  pub tests-pass : (a b : Bool) → first_of a x b y ≡ Ok tt →
      (a ≡ false) × ((b ≡ false) × (cond a (refused p x) (cond b (refused p y) w) ≡ w))
  tests-pass true b e = ok-err (sym e)
  tests-pass false true e = ok-err (sym e)
  tests-pass false false e = (refl, (refl, refl))
