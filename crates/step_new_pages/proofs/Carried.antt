-- As its pages are made the range stays in hand: what the rules keep, the code keeps.
use mathlib.Core.List.{List}
use Prim.Native.Nat.{ℕ, suc, ◌+◌, ◌-◌, ◌<◌}
use Rattle.words.specs.declared.Answer.TheVariants.{Done}
use Rattle.lists.proofs.Tests.{one_more}
use Rattle.tables.specs.Steps.{on}
use Rattle.tables.specs.NewPages.{Room, created, map_page}
use Rattle.driving.specs.Ran.{Point, Ran}
use Rattle.driving.proofs.Holds.{holds-ran}
use Rattle.keeping.specs.MakeRoom.{PagesTo}
use Rattle.keeping.proofs.NewPages.{checks-created, maps-page}

-- one page fewer to make, where a new handle was mapped
pub page-made : {xs : List ℕ} {s u : Point} (lost : ℕ → ℕ) (p f n : ℕ) (o : Room) (a g : ℕ) → 0 < n →
    PagesTo lost p f n o.start o.size a s.tables → Ran (created o a (Done g)) xs s (on tt) s → Ran (map_page a g) xs s (on tt) u →
    PagesTo lost p f (n - 1) o.start o.size (a + p) u.tables
page-made lost p f n o a g h w c m =
    let new = holds-ran (checks-created lost p f n o a (Done g)) c w in
    let more : PagesTo lost p f (suc (n - 1)) o.start o.size a _ = rw (one_more n h) at new.0 in
    holds-ran (maps-page lost p f (n - 1) o.start o.size a g) m (more, new.1)
