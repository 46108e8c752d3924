-- The way of the rule: the prefix handed over.
use mathlib.Core.List.{List}
use Prim.Native.Nat.{ℕ}
use Rattle.lists.specs.Order.{put}
use Rattle.tables.specs.Values.{address, buffer, with_free, with_live}
use Rattle.tables.specs.Steps.{on}
use Rattle.tables.specs.InsertFree.{from, put_rest, without_free}
use Rattle.tables.specs.Malloc.{hand_over}
use Rattle.tables.specs.declared.FreeRegion.{FreeRegion}
use Rattle.tables.specs.declared.Outcome.TheVariants.{Allocated}
use Rattle.driving.specs.Ran.{Ran, Point, point}
use Rattle.driving.proofs.Ran.{next, gave, changed}

module _ {xs : List ℕ} {s : Point} where
  pub handed : (n m : ℕ) (r : FreeRegion) → let t = s.tables in
      Ran (hand_over n m r) xs s (on (Allocated (address (from r)) n))
      (point s.made
      (with_live (put (λ b. b.start.0) (buffer (from r) n m) t.live) (with_free (put_rest n r (without_free (from r) t.free)) t))
      s.log)
  unfolding hand_over
  handed n m r = next _ (changed _) (next _ (changed _) (next _ (changed _) gave))
