-- The cells are those in use and those behind them.
use Rattle.std.specs.Prelude.{◌≡◌, ℕ, List, ◌++◌, ◌≤◌, length, take, drop}
use Rattle.std.proofs.Common.{subst, sym}
use Rattle.std.proofs.lemmas.List.{take-append-drop, length-take-le}

module _ {T : Type 0} (k : ℕ) (cells : List T) where
  pub cells-whole : take k cells ++ drop k cells ≡ cells
  cells-whole = take-append-drop k cells

  pub len-whole : {n : ℕ} → k ≤ n → length cells ≡ n → length (take k cells) ≡ k
  len-whole le all = length-take-le k cells (subst (λ m. k ≤ m) (sym all) le)
