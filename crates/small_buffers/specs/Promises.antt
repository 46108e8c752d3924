-- What is left of a number when another is taken off it; nothing, where it is too small.
use Rattle.std.specs.Prelude.{◌≡◌, ℕ, ◌+◌, ◌<◌, Option, Some, None}

abbrev pub TakenOff : ℕ → ℕ → Option ℕ → Type 0
TakenOff bytes sizes (Some left) = left + sizes ≡ bytes
TakenOff bytes sizes None = bytes < sizes
