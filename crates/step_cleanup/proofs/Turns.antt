-- One turn of cleanup's walk, by how it goes, and one zombie cleaned: each is its steps in order.
use mathlib.Core.Bool.{true, false}
use mathlib.Core.List.{List}
use Prim.Native.Nat.{ℕ, ◌+◌, ◌-◌, ◌<◌}
use lib.ListN.{get_or}
use Rattle.lists.specs.Places.{swap_out}
use Rattle.lists.proofs.Tests.{one_more}
use Rattle.tables.specs.Values.{with_zombies, with_holes, empty_zombie}
use Rattle.tables.specs.InsertHole.{insert_hole}
use Rattle.tables.specs.Steps.{Ending, on, ends}
use Rattle.tables.specs.Driver.{is_complete, try, unmap}
use Rattle.tables.specs.Cleanup.{walk, clean}
use Rattle.tables.specs.declared.Outcome.{Outcome}
use Rattle.tables.specs.declared.Zombie.{Zombie}
use Rattle.driving.specs.Ran.{Ran, Point, point}
use Rattle.driving.proofs.Ran.{next, stop, looked, changed}

module _ {xs : List ℕ} {s u : Point} (n i : ℕ) (h : 0 < n) where
  -- no answer is left for the asking
  pub walk_out : {o : Outcome} → Ran (is_complete (get_or s.tables.zombies i empty_zombie).id.0) xs s (ends o) u → Ran (walk n i) xs s (ends o) u
  walk_out asked = rw (one_more n h) (next _ looked (stop _ asked))

  -- not complete
  pub walk-on : {e : Ending (Unit {0})} {w : Point} → Ran (is_complete (get_or s.tables.zombies i empty_zombie).id.0) xs s (on false) u →
      Ran (walk (n - 1) (i + 1)) xs u e w → Ran (walk n i) xs s e w
  walk-on asked r = rw (one_more n h) (next _ looked (next _ asked r))

  -- complete, and cleaned, which went on or ended
  module _ {v : Point} (asked : Ran (is_complete (get_or s.tables.zombies i empty_zombie).id.0) xs s (on true) u) where
    pub walk-clean : {e : Ending (Unit {0})} {w : Point} → Ran (clean i (get_or s.tables.zombies i empty_zombie)) xs u (on tt) v →
        Ran (walk (n - 1) i) xs v e w → Ran (walk n i) xs s e w
    walk-clean cleaned r = rw (one_more n h) (next _ looked (next _ asked (next _ cleaned r)))

    pub walk-stop : {o : Outcome} → Ran (clean i (get_or s.tables.zombies i empty_zombie)) xs u (ends o) v → Ran (walk n i) xs s (ends o) v
    walk-stop cleaned = rw (one_more n h) (next _ looked (next _ asked (stop _ cleaned)))

-- the unmap went on, or its answer was missing
module _ {xs : List ℕ} {s v : Point} (i : ℕ) (z : Zombie) where
  pub clean-on : Ran (try (unmap z.start.0 z.size)) xs (point s.made (with_zombies (swap_out i s.tables.zombies) s.tables) s.log) (on tt) v →
      Ran (clean i z) xs s (on tt) (point v.made (with_holes (insert_hole z.start.0 z.size v.tables.holes) v.tables) v.log)
  unfolding clean
  clean-on tried = next _ (changed _) (next _ tried (changed _))

  pub clean-stop : {o : Outcome} → Ran (try (unmap z.start.0 z.size)) xs (point s.made (with_zombies (swap_out i s.tables.zombies) s.tables) s.log) (ends o) v →
      Ran (clean i z) xs s (ends o) v
  unfolding clean
  clean-stop tried = next _ (changed _) (stop _ tried)
