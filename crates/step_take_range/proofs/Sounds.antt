-- What the code leans on, read off the tables around it: what is put in has room, and what it leaves is kept.
use mathlib.Core.Path.{◌≡◌}
use mathlib.Core.Bool.{true, not}
use mathlib.Core.List.{List, [], ◌∷◌, ◌++◌}
use Prim.Native.Nat.{ℕ, ◌+◌, ◌-◌, ◌≤◌, ◌<◌, ◌%◌}
use native.Mathlib.Omega.{arith}
use borrow.Author.Tests.{leb-true}
use lib.Dec.{leb, eqb}
use lib.ListN.{length-append}
use Rattle.lists.proofs.Tests.{both}
use Rattle.words.specs.declared.Address.{Address}
use Rattle.tables.specs.Bounds.{END, ROOTS, VA}
use Rattle.tables.specs.Values.{holes_of, pack_holes, roots_of, pack_roots}
use Rattle.tables.specs.Kept.{KeptHoles, KeptRoots}
use Rattle.tables.specs.InsertHole.{insert_hole}
use Rattle.tables.specs.TakeRange.{cut_hole, credible_for}
use Rattle.tables.specs.Values.{Holes}
use Rattle.tables.specs.Values.{Roots}
use Rattle.tables.proofs.Packs.{holes-count, holes-kept, roots-count, roots_kept}
use Rattle.keeping.proofs.Holes.{length-hole, length-cut_hole}
use Rattle.step_take_range.specs.Promises.{Takeable}

-- a base that is believed leaves room for its root
pub credible-ends : (page va b : ℕ) (l : List Address) → va ≤ VA → credible_for page va b l ≡ true → b + va ≤ END
credible-ends page va b l small e =
    let f = both (not (eqb b 0)) _ e in
    let g = both (eqb (b % page) 0) _ f.1 in
    let h = both (leb b (END - va)) _ g.1 in
    omega (arith, leb-true b (END - va) h.0)

module _ {page va n : ℕ} {h : Holes} {r : Roots} (c : Takeable page va n h r) where
  pub kept-rest : (a m : ℕ) → KeptHoles (pack_holes (insert_hole a m (holes_of h)))
  kept-rest a m = holes-kept _ (omega (arith, length-hole a m (holes_of h), holes-count h c.holes, c.room))

  pub kept_cut : (a : ℕ) → KeptHoles (pack_holes (cut_hole n a (holes_of h)))
  kept_cut a = holes-kept _ (omega (arith, length-cut_hole n a (holes_of h), holes-count h c.holes, c.room))

  pub kept-root : (b : Address) → r.count < ROOTS → KeptRoots (pack_roots (roots_of r ++ b ∷ []))
  kept-root b room = roots_kept _ (omega (arith, length-append (roots_of r) (b ∷ []), roots-count r c.roots))
