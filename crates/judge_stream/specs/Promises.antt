-- What a read makes of how far the input is judged.
use Rattle.std.specs.Prelude.{ℕ, ◌+◌, ◌≤◌, Option, IfSome}

-- the bytes of one read at the most
abbrev pub most_read : ℕ
most_read = 65536

-- of `n` bytes there are no more lines than bytes
abbrev pub Serves : Option ℕ → ℕ → ℕ → Type 0
Serves r lines lines' = IfSome r (λ n. (lines' ≤ lines + n) × (n ≤ most_read))
