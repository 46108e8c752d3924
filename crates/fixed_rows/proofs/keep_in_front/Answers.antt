-- `fixed_rows::keep_in_front` meets its contract: a turn writes the row over the first that is free, or leaves the rows as they are.
use Rattle.std.proofs.Common.{◌≡◌, ◌+◌, ◌<◌, length, get_or, set, sym, ◌∙◌, arith, of_calls, true, false, drop-set-lt}
use Rattle.std.specs.Fn.{CalledAtMut}
use Rattle.std.proofs.lemmas.List.{get_or_default, get_or-set_same, take-set}
use Rattle.std.proofs.RetainMut.{Called-Mut, sift_on, retain_mut_end}
use Rattle.fixed_rows.proofs.keep_in_front.Goals.{then-stays, else-stays}
use Rattle.fixed_rows.proofs.keep_in_front.Goals as goal

pub loop-at-preserved : goal.loop-at-preserved
loop-at-preserved g c =
    let l = c.loop-at in
    let R = CalledAtMut g.F.FnMut in
    let y = c.stays.new.arg2 in
    let within : l.at < length l.rows = omega arith in
    let called = Called-Mut g.F.FnMut c.stays.ensures in
    let turn = sift_on R c.args.stays c.args.rows.now l.stays c.stays.new.self l.rows l.kept l.at (get_or l.rows l.at c.index-rows-at.result) y l.invariant.0 within (get_or_default l.rows l.at _ _ within) l.invariant.2 in
    elim c.if-stays.branch [
      | then-stays w ↦
          let same : w.index-rows-at-then-stays.result ≡ y = w.index-rows-at-then-stays.is ∙ get_or-set_same l.rows l.at y _ within in
          (omega arith, search of_calls, rw (w.rows-is, w.kept-is, same) (turn true (rw w.if-stays.true at called)))
      | else-stays w ↦
          let left = turn false (rw w.if-stays.false at called) in (
            omega arith,
            search of_calls,
            rw (w.rows-is, w.kept-is) (
              sym (drop-set-lt (l.at + 1) (set l.rows l.at y) l.kept y (omega arith)) ∙ left.0,
              rw (take-set (set l.rows l.at y) l.kept y) at left.1,
            ),
          )
    ]

pub returns-clause-filtered : goal.returns-clause-filtered
returns-clause-filtered g c =
    let l = c.loop-at in
    retain_mut_end (CalledAtMut g.F.FnMut) _ _ l.stays l.rows l.kept l.at (omega arith) l.invariant.2
