-- A table's cells: a list laid out in a fixed number of cells.
use Rattle.std.specs.Prelude.{◌≡◌, List, ◌++◌, ℕ, ◌-◌, ◌≤◌, length, replicate, take}

-- the `n` cells of a table that holds `l`: its elements in order, then `z`
abbrev pub packed {ℓ} : {A : Type ℓ} → ℕ → A → List A → List A
packed n z l = l ++ replicate (n - length l) z

-- what each table's cells and count are below the entry points: at most `n` elements, and `z` in every other cell
pub record Filled {A : Type 0} (n : ℕ) (z : A) (cells : List A) (count : ℕ) : Type 0 where
  pub most : count ≤ n
  pub whole : cells ≡ packed n z (take count cells)
