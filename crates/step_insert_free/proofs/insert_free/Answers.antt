-- `step_insert_free::insert_free` meets its contract: its calls are the steps of the rule in order, on the region that merges.
use mathlib.Core.Path.{◌≡◌, ap, ◌∙◌}
use mathlib.Core.Bool.{not}
use native.Mathlib.Omega.{arith}
use Rattle.std.proofs.lemmas.Result.{err_from_is_err_and}
use Rattle.lists.specs.Tests.{filter}
use Rattle.tables.specs.Values.{region, free_of, pack_free, with_free}
use Rattle.tables.specs.Driver.{record_event}
use Rattle.tables.specs.InsertFree.{put_free, merges}
use Rattle.tables.specs.declared.FreeRegion.{FreeRegion}
use Rattle.tables.proofs.Packs.{free_pack, free-packed-count}
use Rattle.regions.proofs.Splitting.{split-merged}
use Rattle.step_insert_free.specs.Promises.{inserting}
use Rattle.step_insert_free.proofs.Ways.{insert-on, insert-stop}
use Rattle.step_insert_free.proofs.Sizes.{fewer, kept-others, kept_put}
use Rattle.step_insert_free.proofs.insert_free.Goals as goal

pub returns-in_err-must_tell : goal.returns-in_err-must_tell
unfolding record_event
returns-in_err-must_tell c =
    let a = c.args in
    let f = a.free.now in
    let far = filter (λ q. not (merges a.start.0 a.size a.stream q)) (free_of f) in
    let apart = c.split_merging-merged.ensures.apart in
    let others_are : free_of c.split_merging-merged.new.free ≡ far = ap free_of apart ∙ free_pack far in
    let p = err_from_is_err_and c.from_residual.result c.from_residual.ensures.1 in
    let d = c.in_err-must_tell.ensures in
    rw (p.1, p.2)
    (record {
      lent = d.lent;
      ran = λ t. rw others_are (insert-stop a.start.0 a.size a.stream (d.ran (with_free far (inserting f a.counter.now t))));
      free = rw apart (kept-others a.start.0 a.size a.stream f c.requires.0.free c.requires.0.room);
      most = omega (arith, d.made);
    })

pub put-requires : goal.put-requires
put-requires c =
    let a = c.args in
    let f = a.free.now in
    let apart = c.split_merging-merged.ensures.apart in
    let few = fewer a.start.0 a.size a.stream f c.requires.0.free c.requires.0.room in
    let others = free-packed-count (filter (λ q. not (merges a.start.0 a.size a.stream q)) (free_of f)) in
    let kept = kept-others a.start.0 a.size a.stream f c.requires.0.free c.requires.0.room in
    (omega arith, (rw (← apart) at kept, omega (arith, ap (λ t. t.count) apart, others, few)))

pub returns : goal.returns
unfolding record_event
returns c =
    let a = c.args in
    let f = a.free.now in
    let far = filter (λ q. not (merges a.start.0 a.size a.stream q)) (free_of f) in
    let s = c.split_merging-merged in
    let others_are : free_of s.new.free ≡ far = ap free_of s.ensures.apart ∙ free_pack far in
    let made : FreeRegion = region s.result.start.0 s.result.size a.stream a.counter.now in
    let put_is : c.put.new.self ≡ pack_free (put_free made far) = c.put.ensures ∙ ap (λ l. pack_free (put_free made l)) others_are in
    let free-are : free_of c.put.new.self ≡ put_free made far = ap free_of put_is ∙ free_pack _ in
    let q = split-merged a.start.0 a.size a.stream a.counter.now (free_of f) s.result s.new.free s.ensures in
    let d = c.in_ok-must_tell.ensures in
    record {
      lent = d.lent;
      ran = λ t. rw free-are (insert-on a.start.0 a.size a.stream made q (d.ran (with_free far (inserting f a.counter.now t))));
      free = rw put_is (kept_put a.start.0 a.size a.stream f c.requires.0.free c.requires.0.room made);
      most = omega (arith, d.made);
    }
