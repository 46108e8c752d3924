-- A triple over steps: from tables of which `P` holds, a step that goes on with `a` leaves tables of which `Q a` holds, and one that ends the call with
-- `o` leaves tables of which `E o` holds; whatever the answers, and however many driver calls came before.
use Rattle.std.specs.Prelude.{List, ℕ}
use Rattle.tables.specs.Values.{Tables}
use Rattle.tables.specs.Steps.{Ending, on, ends, Step}
use Rattle.tables.specs.declared.Outcome.{Outcome}

abbrev pub After : {A : Type 0} → (A → Tables → Type 0) → (Outcome → Tables → Type 0) → Tables → Ending A → Type 0
After Q E t (on a) = Q a t
After Q E t (ends o) = E o t

pub record Holds {A : Type 0} (P : Tables → Type 0) (m : Step A) (Q : A → Tables → Type 0) (E : Outcome → Tables → Type 0) : Type 0 where
  pub leaves : (xs : List ℕ) (k : ℕ) (t : Tables) → P t → After Q E (m xs k t).tables (m xs k t).ending
