-- `without_free` meets its contract: the region found is the only one of its start, and where none is found none is taken out.
use mathlib.Core.Path.{sym, ap, ◌∙◌}
use native.Mathlib.Omega.{arith}
use borrow.Author.Rules.{rules}
use Rattle.cells.specs.Table.{chosen, Placed}
use Rattle.tables.specs.Values.{free_of, pack_free}
use Rattle.tables.proofs.Packs.{free-count, free-whole}
use Rattle.regions.proofs.Without.{without_found, without_none}
use Rattle.regions.proofs.cutting.without_free.Goals as goal

pub remove_at-requires : goal.remove_at-requires
unfolding Placed
remove_at-requires c = (search rules, (c.requires.0, omega (arith, c.in-Some.ensures.placed, free-count c.args.free.now c.requires.0)))

pub returns-in-Some : goal.returns-in-Some
unfolding chosen Placed
returns-in-Some c =
    let known = c.in-Some.ensures in
    c.remove_at.ensures ∙ ap pack_free (sym (without_found c.args.start.0 (free_of c.args.free.now) c.requires.1 c.in-Some.at known.placed (sym known.is)))

pub returns-in_default : goal.returns-in_default
unfolding chosen
returns-in_default c =
    let l = free_of c.args.free.now in
    free-whole c.args.free.now c.requires.0 ∙ ap pack_free (sym (without_none c.args.start.0 l c.requires.1 (sym c.in_default.ensures.is)))
