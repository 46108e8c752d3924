-- Laws of the counts: a change of the spans alone, and the ceilings as counts.
use mathlib.Core.List.{List}
use Prim.Native.Nat.{ℕ, ◌+◌, ◌≤◌}
use native.Mathlib.Omega.{arith}
use lib.ListN.{length}
use Rattle.tables.specs.Bounds.{SPANS}
use Rattle.tables.specs.Values.{Tables, with_free, with_live}
use Rattle.tables.specs.declared.FreeRegion.{FreeRegion}
use Rattle.tables.specs.declared.LiveBuffer.{LiveBuffer}
use Rattle.keeping.specs.Sound.{Ceilings}
use Rattle.keeping.specs.Counts.{Few}

-- the other tables count as before
pub few-spans : {k c d : ℕ} {t : Tables} (rs : List FreeRegion) (bs : List LiveBuffer) → Few k c t → length rs + length bs ≤ d →
    Few k d (with_live bs (with_free rs t))
few-spans rs bs h e = record { pages = h.pages; spans = e; zombies = h.zombies; holes = h.holes; roots = h.roots }

-- the ceilings are at most 128 spans, whatever pages are to come
pub few-ceilings : {k c : ℕ} {t : Tables} → c ≤ SPANS → Few k c t → Ceilings t
few-ceilings h f = record { pages = omega arith; spans = omega arith; zombies = f.zombies; holes = f.holes; roots = f.roots }

pub ceilings-few : {t : Tables} → Ceilings t → Few 0 SPANS t
ceilings-few h = record { pages = omega (arith, h.pages); spans = h.spans; zombies = h.zombies; holes = h.holes; roots = h.roots }
