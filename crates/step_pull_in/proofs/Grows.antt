-- Pulling takes out no zombie: those that there were stand before the parts taken, which are a part of the table's list.
use mathlib.Core.Path.{◌≡◌}
use mathlib.Core.List.{List, [], ◌∷◌}
use Prim.Native.Nat.{ℕ, ◌-◌, ◌≤◌}
use native.Mathlib.Omega.{arith}
use lib.Dec.{eqb}
use lib.ListN.{length, length-append, length-drop, take, drop}
use lib.Seq.{take_all}
use Rattle.tables.specs.Values.{Tables}
use Rattle.tables.specs.Pull.{pull_one, pull}
use Rattle.tables.specs.declared.FreeRegion.{FreeRegion}
use Rattle.tables.specs.declared.Outcome.{Outcome}
use Rattle.keeping.specs.Holds.{Holds}
use Rattle.step_pull.specs.Promises.{part_of}
use Rattle.keeping.proofs.Holds.{holds_then, holds-change, holds-give, holds-cond}
use Rattle.keeping.proofs.Pull.{holds-settle}

module _ (n : ℕ) where
  -- at least `n` zombies
  abbrev Grown : Tables → Type 0
  Grown t = n ≤ length t.zombies

  abbrev Anyhow : Outcome → Tables → Type 0
  Anyhow o t = Unit {0}

  grows-one : (s lacks : ℕ) (r : FreeRegion) → Holds Grown (pull_one s lacks r) (λ _. Grown) Anyhow
  unfolding pull_one
  grows-one s lacks r =
      holds_then (λ _. Grown) (holds-change _ (λ t h. h))
      (λ _. holds_then (λ _. Grown) (holds-settle s r (λ t h. tt) (λ c t h. tt))
      (λ _. holds_then (λ _. Grown) (holds-change _ (λ t h. omega (arith, length-append t.zombies (part_of lacks r ∷ []))))
      (λ _. holds_then (λ _. Grown) (holds-change _ (λ t h. h)) (λ _. holds-give _))))

  pub grows : (l : List FreeRegion) (s lacks : ℕ) → Holds Grown (pull l s lacks) (λ _. Grown) Anyhow
  grows [] s lacks = holds-give []
  grows (r ∷ l) s lacks =
      holds-cond (eqb lacks 0) (λ _. holds-give [])
      (λ _. holds_then (λ _. Grown) (grows-one s lacks r)
      (λ z. holds_then (λ _. Grown) (grows l s (lacks - z.size)) (λ zs. holds-give (z ∷ zs))))

-- the end of a list, as the code takes it
pub end-of : {A : Type 0} (n : ℕ) (l m : List A) → l ≡ m → take (length l - n) (drop n l) ≡ drop n m
end-of n l m e = rw e (take_all (length m - n) (drop n m) (simp length-drop (omega arith)))
