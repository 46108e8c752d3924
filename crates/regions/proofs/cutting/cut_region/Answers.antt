-- `cut_region` meets its contract: `cut-some` is the store of the rest, and `cut_all` the region taken out where nothing is left.
use mathlib.Core.Path.{◌≡◌, ap, sym, ◌∙◌}
use native.Mathlib.Omega.{arith}
use lib.ListN.{set, length-set}
use Rattle.lists.proofs.Cells.{packed-set}
use Rattle.cells.specs.Table.{entries, pack}
use Rattle.tables.specs.Bounds.{SPANS}
use Rattle.tables.specs.Values.{free_of, pack_free, empty_region}
use Rattle.tables.proofs.Packs.{free-count, free_cell}
use Rattle.regions.specs.Cutting.{region_at}
use Rattle.regions.proofs.CutRegion.{within, rest, cut_all, cut-some}
use Rattle.regions.proofs.cutting.cut_region.Goals as goal

pub rest_of-requires : goal.rest_of-requires
rest_of-requires c =
    let here = free_cell c.args.free.now c.args.at c.requires.placed in
    (omega arith, rw here at c.requires.ends)

pub returns-then-taken-r : goal.returns-then-taken-r
unfolding entries pack
returns-then-taken-r c =
    let t = c.args.free.now in
    let at = c.args.at in
    let l = free_of t in
    let here = free_cell t at c.requires.placed in
    let q = rest t at c.args.taken c.requires in
    let stored : set t.cells at q ≡ (pack_free (set l at q)).cells =
    ap (λ m. set m at q) c.requires.kept.whole ∙ packed-set SPANS empty_region l at q (within t at c.args.taken c.requires) in
    rw (cut-some t at c.args.taken c.requires (rw here c.if-taken-r.true), c.rest_of.ensures, ← here)
    (λ i. record { cells = stored i; count = (free-count t c.requires.kept ∙ sym (length-set l at q)) i })

pub returns-else-taken-r : goal.returns-else-taken-r
returns-else-taken-r c =
    let t = c.args.free.now in
    let at = c.args.at in
    let whole : (region_at t at).size ≡ c.args.taken = omega (arith, c.if-taken-r.false, ap (λ q. q.size) (free_cell t at c.requires.placed), c.requires.enough) in
    rw (cut_all t at c.args.taken c.requires whole) c.remove_at.ensures
