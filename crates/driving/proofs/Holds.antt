-- What the rules keep, the code keeps: a triple over a step holds of what code that walks it leaves.
use mathlib.Core.List.{List}
use Prim.Native.Nat.{ℕ}
use Rattle.tables.specs.Values.{Tables}
use Rattle.tables.specs.Steps.{Ending, Step}
use Rattle.tables.specs.declared.Outcome.{Outcome}
use Rattle.keeping.specs.Holds.{After, Holds}
use Rattle.driving.specs.Ran.{Point, Ran}

pub holds-ran : {A : Type 0} {P : Tables → Type 0} {m : Step A} {Q : A → Tables → Type 0} {E : Outcome → Tables → Type 0}
    {xs : List ℕ} {s : Point} {e : Ending A} {u : Point} → Holds P m Q E → Ran m xs s e u → P s.tables → After Q E u.tables e
holds-ran {xs = xs} {s = s} w r h = rw r.goes at (w.leaves xs s.made s.tables h)
