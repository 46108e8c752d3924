-- docs/RULES.md 12.2: what a size in bytes asks for.
use Rattle.std.specs.Prelude.{cond, ◌||◌, ℕ, ◌+◌, ◌-◌, ◌%◌, ltb, eqb}
use Rattle.manager_rules.specs.Values.{BYTES}

-- the next multiple of the page size, or the size itself where it is one
abbrev pub rounded : ℕ → ℕ → ℕ
rounded page n = cond (eqb (n % page) 0) n (n + (page - n % page))

pub data Request : Type 0 where
  -- 6: no bytes, or too many
  unfit : Request
  -- a buffer of the driver's own
  smaller : Request
  -- so many bytes of the pool, in whole pages
  whole : ℕ → Request

-- A size above the largest is refused before it is rounded.
unfoldable pub request : ℕ → ℕ → Request
request page n =
    cond (eqb n 0) unfit
    (cond (ltb n page) smaller
    (cond (ltb BYTES n || ltb BYTES (rounded page n)) unfit (whole (rounded page n))))
