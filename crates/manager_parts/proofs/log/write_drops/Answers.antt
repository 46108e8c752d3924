-- `manager_parts::log::write_drops` meets its contract. The invariant: the log holds the records of the buffers passed, which with those of the others are all.
use mathlib.Core.Path.{refl, sym, ap, ◌∙◌}
use borrow.Author.Rules.{rules}
use lib.ListN.{get_or}
use Rattle.lists.proofs.Cells.{turn-all}
use Rattle.words.specs.Answers.{code_of}
use Rattle.manager_rules.specs.Free.{drop_record}
use Rattle.manager_rules.specs.Values.{empty_small}
use Rattle.manager_parts.proofs.Drops.{answered-none, answered-some, dropping-first, dropping-next, dropping-stop}
use Rattle.manager_parts.proofs.log.write_drops.Goals as goal

pub loop-made-init : goal.loop-made-init
loop-made-init c = (refl, dropping-first)

pub returns-in-Missing : goal.returns-in-Missing
returns-in-Missing c =
    let i = c.loop-made.made in
    let l = c.args.small.now in
    let said = c.drop_record-record.ensures ∙ ap (drop_record (get_or l i empty_small)) (c.code.ensures ∙ ap code_of c.at-answer.ensures) in
    let none = answered-none c.args.answers.now i (sym c.at-answer.ensures ∙ c.in-Missing.is) in
    let d = dropping-stop c.loop-made.invariant.1 (turn-all l i empty_small c.loop-made-test.true) c.write.ensures said none in
    record { counted = d.counted; wrote = d.wrote }

pub loop-made-preserved : goal.loop-made-preserved
loop-made-preserved c =
    let i = c.loop-made.made in
    let l = c.args.small.now in
    let said = c.drop_record-record.ensures ∙ ap (drop_record (get_or l i empty_small)) (c.code.ensures ∙ ap code_of c.at-answer.ensures) in
    let some = answered-some c.args.answers.now i (λ e. c.in_default.not-Missing (c.at-answer.ensures ∙ e)) in
    (search rules, dropping-next c.loop-made.invariant.1 (turn-all l i empty_small c.loop-made-test.true) c.write.ensures said some)
