-- The ways of fit, each its steps in order: a region of this stream; of another, one that is complete, none, or no answer left.
use mathlib.Core.Path.{◌≡◌, refl, ◌∙◌}
use mathlib.Core.Bool.{cond}
use mathlib.Core.List.{List, map}
use mathlib.Core.Option.{Option, some, none}
use Prim.Native.Nat.{ℕ, ◌<◌}
use native.Mathlib.Omega.{arith}
use borrow.Author.Tests.{eq-eqb}
use lib.Dec.{eqb}
use lib.ListN.{length, get_or, length-map, get_or-map}
use lib.Seq.{drop-cons}
use Rattle.tables.specs.Values.{with_free, empty_region}
use Rattle.tables.specs.Steps.{Ending, on, ends}
use Rattle.tables.specs.InsertFree.{from}
use Rattle.tables.specs.Pull.{own_of}
use Rattle.tables.specs.Fit.{candidates, smallest, ask_all, on_stream, take_over, or_other, fit}
use Rattle.tables.specs.declared.FreeRegion.{FreeRegion}
use Rattle.tables.specs.declared.Outcome.{Outcome}
use Rattle.regions.specs.Choosing.{taken_over}
use Rattle.driving.specs.Ran.{Ran, Point, point}
use Rattle.driving.proofs.Ran.{next, gave, looked, changed}
use Rattle.step_fit.specs.Promises.{smallest_complete}
use Rattle.step_fit.proofs.Runs.{map_next, map-stop}

-- every candidate was asked, which ended, found none, or found a region
module _ {xs : List ℕ} {s v : Point} (st : ℕ) (l : List FreeRegion) where
  pub other-stop : {p : Outcome} → Ran (smallest_complete l) xs s (ends p) v → Ran (or_other st l none) xs s (ends p) v
  unfolding or_other
  other-stop searched = map-stop (ask_all l) smallest (take_over st) searched

  pub other_none : Ran (smallest_complete l) xs s (on none) v → Ran (or_other st l none) xs s (on none) v
  unfolding or_other take_over
  other_none searched = map_next (ask_all l) smallest (take_over st) searched gave

  pub other-some : (r : FreeRegion) → Ran (smallest_complete l) xs s (on (some r)) v →
      Ran (or_other st l none) xs s (on (some (on_stream st r)))
      (point v.made (with_free (map (λ q. cond (eqb (from q) (from r)) (on_stream st q) q) v.tables.free) v.tables) v.log)
  unfolding or_other take_over
  other-some r searched = map_next (ask_all l) smallest (take_over st) searched (next _ (changed _) gave)

-- the region that was taken over, at its place
pub taken-over : (st : ℕ) (l : List FreeRegion) (i : ℕ) → i < length l →
    let r = get_or l i empty_region in
    get_or (taken_over st (from r) l) i empty_region ≡ on_stream st r
taken-over st l i h =
    let r = get_or l i empty_region in
    let f : FreeRegion → FreeRegion = λ q. cond (eqb (from q) (from r)) (on_stream st q) q in
    let k : i < length (map f l) = omega (arith, length-map l f) in
    let same : get_or (map f l) i empty_region ≡ get_or (map f l) i (f empty_region) =
    cc (drop-cons (map f l) i empty_region k, drop-cons (map f l) i (f empty_region) k) in
    same ∙ get_or-map f l i empty_region ∙ rw (eq-eqb (from r) (from r) refl)

module _ {xs : List ℕ} {s : Point} (n st : ℕ) where
  pub fit-own : (r : FreeRegion) → smallest (own_of st (candidates n s.tables.free)) ≡ some r → Ran (fit n st) xs s (on (some r)) s
  unfolding fit or_other
  fit-own r q =
      let w : Ran (or_other st (candidates n s.tables.free) (smallest (own_of st (candidates n s.tables.free)))) xs s (on (some r)) s = rw q gave in
      next _ looked w

  pub fit-other : {e : Ending (Option FreeRegion)} {u : Point} → smallest (own_of st (candidates n s.tables.free)) ≡ none →
      Ran (or_other st (candidates n s.tables.free) none) xs s e u → Ran (fit n st) xs s e u
  unfolding fit
  fit-other {e} {u} q r =
      let w : Ran (or_other st (candidates n s.tables.free) (smallest (own_of st (candidates n s.tables.free)))) xs s e u = rw q r in
      next _ looked w
