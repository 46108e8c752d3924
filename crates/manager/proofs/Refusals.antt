-- What tells a refusal from none, and what one hands on.
use mathlib.Core.Path.{◌≡◌, refl, sym, ◌∙◌}
use mathlib.Core.List.{List}
use Prim.Native.Nat.{ℕ}
use native.Mathlib.Omega.{arith}
use Rattle.std.specs.Prelude.{Result, Ok, Err}
use Rattle.words.proofs.Log.{written_none}
use Rattle.tables.specs.declared.Outcome.{Outcome}
use Rattle.manager_rules.specs.HandsBack.{Reply, refused}
use Rattle.manager_rules.specs.declared.Manager.{Manager}
use Rattle.manager.specs.Behind.{Hands}

abbrev Ended : Type 0
Ended = Result (Unit {0}) Outcome

-- what is refused does not go on
pub not_on : {A : Type 0} {o : Outcome} → ◌≡◌ {A = Ended} (Err o) (Ok tt) → A
not_on e = let z : ◌≡◌ {A = ℕ} 0 1 = cc in absurd (omega arith)

-- it is refused with one outcome
pub refused-once : {o q : Outcome} → ◌≡◌ {A = Ended} (Err o) (Err q) → o ≡ q
refused-once e = cc

-- nothing changed, nothing logged
pub hands-refused : {w : Reply} (m : Manager) (o : Outcome) {log log' : List ℕ} → w ≡ refused m o → log' ≡ log → Hands w log m (Err o) log'
hands-refused m o {log} e u = rw e (record { answer = refl; cells = u ∙ sym (written_none log 0) })
