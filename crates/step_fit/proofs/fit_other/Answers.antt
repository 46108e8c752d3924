-- `step_fit::fit_other` meets its contract: each way out of it is a way of the rule, after the search of the candidates.
use mathlib.Core.Path.{ap, ◌∙◌}
use mathlib.Core.List.{map}
use Prim.Native.Nat.{◌<◌}
use native.Mathlib.Omega.{arith}
use lib.ListN.{length, get_or, length-map}
use Rattle.std.proofs.lemmas.Result.{err_from_is_err_and}
use Rattle.tables.specs.Values.{free_of, pack_free, empty_region}
use Rattle.tables.specs.Kept.{KeptFree}
use Rattle.cells.specs.Table.{chosen, Placed}
use Rattle.tables.specs.declared.FreeRegion.{FreeRegion}
use Rattle.tables.specs.Values.{FreeRegions}
use Rattle.tables.proofs.Packs.{free_pack, free-count, free-kept}
use Rattle.cells.proofs.Choices.{placed_at}
use Rattle.step_fit.proofs.Ways.{other-stop, other_none, other-some, taken-over}
use Rattle.step_fit.proofs.fit_other.Goals as goal

pub returns-in_err-found : goal.returns-in_err-found
returns-in_err-found c =
    let p = err_from_is_err_and c.from_residual.result c.from_residual.ensures.1 in
    let m = c.in_err-found.ensures in
    rw (p.1, p.2) (record { lent = m.lent; ran = λ t. other-stop c.args.stream _ (m.ran t); placed = tt; free = c.requires.0.free; most = m.most })

pub take_over-requires : goal.take_over-requires
take_over-requires c =
    let f = c.args.free.now in
    let k = c.requires.0 in
    let placed = placed_at (free_of f) c.in_ok-found.found c.in-Some.at c.in_ok-found.ensures.placed c.in-Some.is in
    ((k.free, omega (arith, placed, free-count f k.free)), k.rises)

pub returns-in-Some : goal.returns-in-Some
unfolding chosen Placed
returns-in-Some c =
    let f = c.args.free.now in
    let l = free_of f in
    let i = c.in-Some.at in
    let k = c.requires.0 in
    let m = c.in_ok-found.ensures in
    let within : i < length l = placed_at l c.in_ok-found.found i m.placed c.in-Some.is in
    let over = c.take_over.ensures in
    let is = ap free_of over ∙ free_pack _ in
    record {
      lent = m.lent;
      ran = λ t. rw (← taken-over c.args.stream l i within, ← is) at (other-some c.args.stream _ (get_or l i empty_region) (rw c.in-Some.is at (m.ran t)));
      placed = rw is (simp length-map within);
      free = rw over (kept_map f k.free _);
      most = m.most;
    }
  where
    kept_map : (f : FreeRegions) → KeptFree f → (g : FreeRegion → FreeRegion) → KeptFree (pack_free (map g (free_of f)))
    kept_map f k g = free-kept (map g (free_of f)) (omega (arith, length-map (free_of f) g, free-count f k, k.most))

pub returns-in_default : goal.returns-in_default
unfolding chosen Placed
returns-in_default c =
    let m = c.in_ok-found.ensures in
    rw c.in_default.is
    (record { lent = m.lent; ran = λ t. other_none c.args.stream _ (rw c.in_default.is at (m.ran t)); placed = tt; free = c.requires.0.free; most = m.most })
