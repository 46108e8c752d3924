-- What holds in each case holds: of a test, of the numbers below a bound, of the elements of a list.
use mathlib.Core.Path.{◌≡◌, refl}
use mathlib.Core.Bool.{Bool, true, false, cond, ◌&&◌}
use mathlib.Core.List.{List, [], ◌∷◌}
use Prim.Native.Nat.{ℕ, zero, suc, ◌<◌}
use native.Mathlib.Omega.{arith}
use native.Mathlib.Decide.{ℕ_discrete}
use lib.ListN.{get_or}
use Rattle.lists.specs.Tests.{every}
use Rattle.lists.proofs.Tests.{both}

-- a test, and what it is known to be in each case
pub by-test {ℓ} : {A : Type ℓ} (P : A → Type 0) (t : Bool) {x y : A} → (t ≡ true → P x) → (t ≡ false → P y) → P (cond t x y)
by-test P true f g = f refl
by-test P false f g = g refl

-- a test that stands in several places
pub on {ℓ} : (P : Bool → Type ℓ) (t : Bool) → P true → P false → P t
on P true a b = a
on P false a b = b

-- a test that each number below `n` passes
abbrev pub each_below : (ℕ → Bool) → ℕ → Bool
each_below p zero = true
each_below p (suc n) = p n && each_below p n

pub below-passes : (p : ℕ → Bool) (n k : ℕ) → each_below p n ≡ true → k < n → p k ≡ true
below-passes p zero k t h = absurd (omega arith)
below-passes p (suc n) k t h =
    let q = both (p n) (each_below p n) t in
    elim (ℕ_discrete k n) [ yes e ↦ rw e q.0 | no d ↦ below-passes p n k q.1 (omega arith) ]

-- a test that each element passes, and what stands where there is none
pub get_or-passes : {A : Type 0} (p : A → Bool) (l : List A) (k : ℕ) (d : A) → every p l ≡ true → p d ≡ true → p (get_or l k d) ≡ true
get_or-passes p [] k d t h = h
get_or-passes p (x ∷ l) zero d t h = (both (p x) (every p l) t).0
get_or-passes p (x ∷ l) (suc k) d t h = get_or-passes p l k d (both (p x) (every p l) t).1 h
