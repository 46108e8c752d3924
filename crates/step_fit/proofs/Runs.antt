-- Every step runs from every point, and in one way only: so a step whose value goes through a function before it is handed on can be taken apart.
use mathlib.Core.Path.{◌≡◌, refl}
use mathlib.Core.List.{List}
use Prim.Native.Nat.{ℕ, ◌+◌}
use native.Mathlib.Omega.{arith}
use lib.ListN.{length}
use Rattle.words.specs.Log.{written}
use Rattle.tables.specs.Steps.{Ending, on, ends, Step, ◌>>=◌, give}
use Rattle.tables.specs.declared.Outcome.{Outcome}
use Rattle.driving.specs.Ran.{Ran, Point, point}
use Rattle.driving.proofs.Ran.{next, stop, gave, ran-once}

-- where a step leads to from a point, and that it does
abbrev pub reached : {A : Type 0} → Step A → List ℕ → Point → Point
reached m xs s =
    let w = m xs s.made s.tables in
    point (s.made + length w.records) w.tables (written s.log s.made w.records)

pub runs : {A : Type 0} (m : Step A) (xs : List ℕ) (s : Point) (e : Ending A) → (m xs s.made s.tables).ending ≡ e → Ran m xs s e (reached m xs s)
runs m xs s e h =
    let w = m xs s.made s.tables in
    record { records = w.records; goes = λ i. record { ending = h i; tables = w.tables; records = w.records }; log = refl; made = refl }

-- A step whose value goes through `g` and is then handed on: it goes on as that value does, and ends where it ends.
module _ {A B C : Type 0} {xs : List ℕ} {s v : Point} (m : Step A) (g : A → B) (f : B → Step C) where
  pub map_next : {b : B} {e : Ending C} {u : Point} → Ran (m >>= λ a. give (g a)) xs s (on b) v → Ran (f b) xs v e u → Ran (m >>= λ a. f (g a)) xs s e u
  map_next {b} {e} {u} r q = go (m xs s.made s.tables).ending refl
    where
      go : (x : Ending A) → (m xs s.made s.tables).ending ≡ x → Ran (m >>= λ a. f (g a)) xs s e u
      go (on a) h =
          let ran = runs m xs s (on a) h in
          let same = ran-once r (next (λ a. give (g a)) ran gave) in
          let value : b ≡ g a = cc in
          next (λ a. f (g a)) ran (rw (value, same.1) at q)
      go (ends o) h =
          let same = ran-once r (stop (λ a. give (g a)) (runs m xs s (ends o) h)) in
          let z : ◌≡◌ {A = ℕ} 0 1 = cc in
          absurd (omega arith)

  pub map-stop : {o : Outcome} → Ran (m >>= λ a. give (g a)) xs s (ends o) v → Ran (m >>= λ a. f (g a)) xs s (ends o) v
  map-stop {o} r = go (m xs s.made s.tables).ending refl
    where
      go : (x : Ending A) → (m xs s.made s.tables).ending ≡ x → Ran (m >>= λ a. f (g a)) xs s (ends o) v
      go (on a) h =
          let same = ran-once r (next (λ a. give (g a)) (runs m xs s (on a) h) gave) in
          let z : ◌≡◌ {A = ℕ} 0 1 = cc in
          absurd (omega arith)
      go (ends p) h =
          let ran = runs m xs s (ends p) h in
          let same = ran-once r (stop (λ a. give (g a)) ran) in
          let outcome : o ≡ p = cc in
          rw (same.1, outcome) (stop (λ a. f (g a)) ran)
