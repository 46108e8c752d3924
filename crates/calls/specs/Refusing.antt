-- docs/RULES.md 4.2: what is tested at entry beside 1 to 5.
use Rattle.std.specs.Prelude.{Result, Ok, Err, Bool, cond, ◌||◌, not, ℕ, ◌%◌, leb, eqb}
use Rattle.tables.specs.Bounds.{SPANS}
use Rattle.tables.specs.HandsBack.{short_log}
use Rattle.tables.specs.Open.{bad_configuration}
use Rattle.tables.specs.declared.Outcome.{Outcome}
use Rattle.tables.specs.declared.Outcome.TheVariants.{BadSize, SpansFull, ShortLog, BadConfiguration}

-- Two tests in order, each with what it ends the call with.
abbrev pub first_of : Bool → Outcome → Bool → Outcome → Result (Unit {0}) Outcome
first_of a x b y = cond a (Err x) (cond b (Err y) (Ok tt))

-- 4, then 19.
abbrev pub open_refused : ℕ → ℕ → ℕ → ℕ → ℕ → Result (Unit {0}) Outcome
open_refused granularity override va initial room =
    first_of (short_log room) ShortLog (bad_configuration granularity override va initial) BadConfiguration

-- 6, then 7.
abbrev pub size_refused : ℕ → ℕ → ℕ → Result (Unit {0}) Outcome
size_refused page spans n = first_of (eqb n 0 || not (eqb (n % page) 0)) (BadSize n) (leb SPANS spans) SpansFull
