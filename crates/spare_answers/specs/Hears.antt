-- docs/RULES.md 2.2: answers that no driver call takes are not looked at.
use Rattle.std.specs.Prelude.{◌≡◌, List, ℕ, ◌+◌, ◌<◌, length}
use Rattle.words.specs.Answers.{lent}
use Rattle.tables.specs.Values.{Tables}
use Rattle.tables.specs.Steps.{Step}

-- Two lists of answers that agree in the answers to the driver calls that a step makes are the same to it.
pub record Hears {A : Type 0} (m : Step A) : Type 0 where
  pub hears : (xs ys : List ℕ) (k : ℕ) (t : Tables) → ((i : ℕ) → i < length (m xs k t).records → lent xs (k + i) ≡ lent ys (k + i)) → m xs k t ≡ m ys k t
