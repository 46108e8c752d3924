-- `summary_counts::Counts::count` meets its contract: a place and a store for each table, and the two peaks.
use mathlib.Core.Path.{◌≡◌, refl, ap, sym, ◌∙◌}
use Prim.Native.Nat.{◌+◌, ◌<◌}
use native.Mathlib.Omega.{arith}
use lib.ListN.{length, get_or}
use Rattle.std.proofs.Common.{rules}
use Rattle.summary_counts.specs.Counts.{counts_of, firsts_of, or_else}
use Rattle.summary_counts.specs.declared.tallies.Times.{Times}
use Rattle.summary_counts.proofs.Counting.{count-at, first-at, few_answers, adds}
use Rattle.summary_counts.proofs.OneMore.{few-more}
use Rattle.summary_counts.proofs.tallies.Counts.count.Goals as goal

pub add-requires : goal.add-requires
add-requires c =
    let v = c.args.self.now in
    let p = c.answer_place.result in
    omega (arith, count-at v.answers p, v.few_answers p, c.requires)

pub invariant_of-self : goal.invariant_of-self
invariant_of-self c =
    let v = c.args.self.now in
    let p = c.answer_place.result in
    let f = c.failure_place.result in
    let x = c.add.new.self in
    let inside : p < length v.answers = search rules in
    let count : x.count ≡ get_or (counts_of v.answers) p 0 + 1 = ap (λ (w : Times). w.count) c.add.ensures ∙ ap (λ n. n + 1) (sym (count-at v.answers p)) in
    let first : x.first ≡ or_else (get_or (firsts_of v.answers) p 0) (v.lines + 1) = ap (λ (w : Times). w.first) c.add.ensures ∙ ap (λ n. or_else n (v.lines + 1)) (sym (first-at v.answers p)) in
    let failing : f < length v.failures = search rules in
    record {
      few_answers = few_answers v.answers p (v.lines + 1) x inside count first v.lines v.few_answers;
      few_failures = few-more v.lines f v.failures failing v.few_failures;
    }

pub returns : goal.returns
returns c =
    let v = c.args.self.now in
    let p = c.answer_place.result in
    let f = c.failure_place.result in
    let x = c.add.new.self in
    let inside : p < length v.answers = search rules in
    let count : x.count ≡ get_or (counts_of v.answers) p 0 + 1 = ap (λ (w : Times). w.count) c.add.ensures ∙ ap (λ n. n + 1) (sym (count-at v.answers p)) in
    let first : x.first ≡ or_else (get_or (firsts_of v.answers) p 0) (v.lines + 1) = ap (λ (w : Times). w.first) c.add.ensures ∙ ap (λ n. or_else n (v.lines + 1)) (sym (first-at v.answers p)) in
    let failing : f < length v.failures = search rules in
    adds v c.args.call c.args.l p f x c.answer_place.ensures.value c.failure_place.ensures.value inside failing count first c.args.live c.args.mapped _ refl
    c.raise.ensures c.raise-2.ensures refl refl
