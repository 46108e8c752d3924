-- `pool_soundness::roots::roots_disjoint` meets its contract.
use mathlib.Core.Path.{◌≡◌, ap, sym, ◌∙◌}
use mathlib.Core.Bool.{Bool, true}
use mathlib.Core.List.{◌∷◌}
use Rattle.std.proofs.Common.{rules, tests}
use Rattle.std.proofs.lemmas.Iterator.{YieldsList-from_slice}
use Rattle.std.proofs.lemmas.Iterator.Search.{all_from_yields_List}
use Rattle.lists.specs.Tests.{every, pairwise}
use Rattle.words.specs.declared.Address.{Address}
use Rattle.tables.specs.TakeRange.{apart}
use Rattle.plain_tables.proofs.Chosen.{every_is}
use Rattle.pool_soundness.proofs.roots.roots_disjoint.Goals as goal

pub loop-a-preserved : goal.loop-a-preserved
loop-a-preserved c =
    let va = c.args.va in
    let a = c.in-Some.a.now in
    let l = c.in-Some.rest.now in
    let test : Address → Bool = λ b. apart va a.0 b.0 in
    let left : c.loop-a.left.now ≡ a ∷ l = c.in-Some.ensures.cases.0 in
    let all : c.all.result ≡ every test l =
    all_from_yields_List test _ _ c.all.result c.all.ensures.ran (YieldsList-from_slice l c.iter.ensures.rest) (λ b r q k. search (rules, tests)) ∙ every_is test l in
    let passed : every test l ≡ true = sym all ∙ c.if-not-all.false in
    c.loop-a.invariant ∙ ap (pairwise (λ a b. apart va a.0 b.0)) left ∙ rw passed
