-- `pool_soundness::is_sound` meets its contract: its tests in a row are `tested`, which is `sound` of tables in order; what each leans on is known from those
-- before it.
use mathlib.Core.Path.{◌≡◌, sym, ◌∙◌}
use mathlib.Core.Bool.{true}
use Prim.Native.Nat.{◌≤◌, ◌<◌}
use Rattle.std.proofs.Common.{arith}
use Rattle.std.proofs.lemmas.Grind.{common_steps}
use Rattle.lists.proofs.Maps.{all-unmap}
use Rattle.tables.specs.Bounds.{VA, SPANS, HOLES}
use Rattle.tables.specs.Values.{tables_of, roots_of}
use Rattle.tables.specs.WellFormed.{allowed}
use Rattle.tables.specs.declared.Pool.{Pool}
use Rattle.keeping.proofs.WellFormedTests.{allowed_of}
use Rattle.pool_soundness.specs.Tests.{ranges_in, passes}
use Rattle.pool_soundness.specs.Walks.{of_hole}
use Rattle.pool_soundness.proofs.Ceilings.{counted}
use Rattle.pool_soundness.proofs.SpacedRanges.{Low}
use Rattle.pool_soundness.proofs.TestsAreSound.{tested-sound, all-holes, ranges_low, spans-paged}
use Rattle.pool_soundness.proofs.is_sound.Goals as goal

-- what the first test says
page-known : (p : Pool) → allowed p.page p.va ≡ true → (0 < p.page) × (p.va ≤ VA)
page-known p allows =
    let k = allowed_of p.page p.va allows in
    (k.0, k.1.1)

pub roots_sound-requires : goal.roots_sound-requires
roots_sound-requires c =
    let p = c.args.pool.now in
    ((counted p c.requires.p_value).roots, page-known p (sym c.is_allowed.ensures ∙ c.if-is_allowed.true))

pub ranges_sound-requires-clause-rooted : goal.ranges_sound-requires-clause-rooted
ranges_sound-requires-clause-rooted c =
    let p = c.args.pool.now in
    let allows : allowed p.page p.va ≡ true = grind (arith, common_steps) in
    let known = page-known p allows in
    record { few = (counted p c.requires.p_value).roots; paged = known.0; small = known.1; pass = grind (arith, common_steps) }

pub holes_untouched-requires : goal.holes_untouched-requires
unfolding tables_of
holes_untouched-requires c =
    let p = c.args.pool.now in
    let t = tables_of p in
    let passed : passes p.page p.va (roots_of p.roots) 0 (ranges_in t) ≡ true = grind (arith, common_steps) in
    let few : p.holes.count ≤ HOLES = omega (arith, (counted p c.requires.p_value).holes) in
    (few, all-unmap of_hole Low t.holes (all-holes t Low (ranges_low t passed)))

pub pages_match-requires-clause-count_bound : goal.pages_match-requires-clause-count_bound
pages_match-requires-clause-count_bound c =
    let p = c.args.pool.now in
    let allows : allowed p.page p.va ≡ true = grind (arith, common_steps) in
    (c.requires.p_value, (page-known p allows).0)

pub pages_match-requires-clause-all : goal.pages_match-requires-clause-all
unfolding tables_of
pages_match-requires-clause-all c =
    let p = c.args.pool.now in
    let t = tables_of p in
    let allows : allowed p.page p.va ≡ true = grind (arith, common_steps) in
    let passed : passes p.page p.va (roots_of p.roots) 0 (ranges_in t) ≡ true = grind (arith, common_steps) in
    spans-paged t (page-known p allows).0 passed

pub names_sound-requires : goal.names_sound-requires
names_sound-requires c =
    let k = counted c.args.pool.now c.requires.p_value in
    let few : c.args.pool.now.free.count ≤ SPANS = omega (arith, k.spans) in
    (few, (k.zombies, k.pages))

pub returns-then-pages_match : goal.returns-then-pages_match
unfolding tables_of
returns-then-pages_match c =
    rw (← tested-sound (tables_of c.args.pool.now) c.requires.in_order) (grind (arith, common_steps))

pub returns-else-pages_match : goal.returns-else-pages_match
unfolding tables_of
returns-else-pages_match c =
    rw (← tested-sound (tables_of c.args.pool.now) c.requires.in_order) (grind (arith, common_steps))
