-- `small_buffers::tests::left_of` meets its contract: the chain gives the sizes of both, which are taken off.
use mathlib.Core.List.{map, ◌++◌}
use mathlib.Core.Path.{◌≡◌, ◌∙◌, ap₂}
use Prim.Native.Nat.{◌+◌}
use Rattle.std.proofs.Common.{rules, tests}
use Rattle.std.proofs.lemmas.Iterator.{YieldsList-from_slice, YieldsList-from_map}
use Rattle.std.proofs.lemmas.Iterator.Consumers.{YieldsList-at, YieldsList-from_chain}
use Rattle.lists.specs.Walks.{sum}
use Rattle.lists.proofs.Walks.{sum-append}
use Rattle.small_buffers.proofs.Taken.{taken_off, sum_mapped}
use Rattle.small_buffers.proofs.tests.left_of.Goals as goal

pub returns : goal.returns
returns c =
    let small = c.args.small.now in
    let live = c.args.live.now in
    let both : sum (λ x. x) (map (λ b. b.size) small ++ map (λ b. b.size) live) ≡ sum (λ b. b.size) small + sum (λ b. b.size) live =
    sum-append (λ x. x) (map (λ b. b.size) small) (map (λ b. b.size) live) ∙ ap₂ (λ m n. m + n) (sum_mapped (λ b. b.size) small) (sum_mapped (λ b. b.size) live) in
    rw both at
    (taken_off (λ b x r q k. search (rules, tests)) _ _ (map (λ b. b.size) small ++ map (λ b. b.size) live) c.args.bytes c.try_fold.result c.try_fold.ensures.ran
    (YieldsList-from_chain
    (YieldsList-at c.chain-all.ensures.first (YieldsList-from_map _ (λ b. b.size) (YieldsList-at c.map-sizes.ensures.source (YieldsList-from_slice small c.iter.ensures.rest)) c.map-sizes.ensures.closure (λ x r q k. search (rules, tests))))
    (YieldsList-at c.chain-all.ensures.second (YieldsList-from_map _ (λ b. b.size) (YieldsList-at c.map.ensures.source (YieldsList-from_slice live c.iter-2.ensures.rest)) c.map.ensures.closure (λ x r q k. search (rules, tests))))
    c.chain-all.ensures.first_done c.chain-all.ensures.second_done))
