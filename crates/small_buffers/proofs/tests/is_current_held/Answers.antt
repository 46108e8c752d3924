-- `small_buffers::tests::is_current_held` meets its contract. A count beyond the cells means all of them.
use mathlib.Core.Path.{◌≡◌, ap, ◌∙◌}
use lib.ListN.{take}
use Rattle.std.proofs.lemmas.List.{take_min}
use Rattle.cells.specs.Table.{entries}
use Rattle.small_buffers.proofs.Taken.{none_left}
use Rattle.small_buffers.proofs.tests.is_current_held.Goals as goal

pub returns : goal.returns
unfolding entries
returns c =
    let t = c.args.m.now.pool.live in
    let all : take c.min.result t.cells ≡ take t.count t.cells = ap (λ n. take n t.cells) c.min.ensures ∙ take_min t.count t.cells in
    c.eq.ensures ∙ none_left _ _ _ (rw (c.entries.ensures, all) at c.left_of.ensures)
