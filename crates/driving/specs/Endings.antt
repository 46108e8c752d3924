-- How a step of a call ends, by what its code hands back.
use Rattle.std.specs.Prelude.{Result, Ok, Err}
use Rattle.tables.specs.Steps.{Ending, on, ends}
use Rattle.tables.specs.declared.Outcome.{Outcome}

abbrev pub ending : {A : Type 0} → Result A Outcome → Ending A
ending (Ok a) = on a
ending (Err o) = ends o
