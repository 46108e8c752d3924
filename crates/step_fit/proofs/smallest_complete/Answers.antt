-- `step_fit::smallest_complete` meets its contract. The invariant: what the rest of the search finds from here, with the best so far, the whole search finds.
use mathlib.Core.Path.{◌≡◌, ap, ◌∙◌}
use mathlib.Core.List.{[]}
use Prim.Native.Nat.{◌+◌, ◌≤◌, ◌<◌}
use native.Mathlib.Omega.{arith}
use lib.ListN.{length, get_or, drop, drop_of_length-le}
use Rattle.std.proofs.Common.{rules, tests}
use Rattle.std.proofs.lemmas.Result.{err_from_is_err_and}
use Rattle.lists.specs.Scan.{better, found}
use Rattle.lists.proofs.Least.{marks-on, marks-better}
use Rattle.tables.specs.Values.{free_of, with_free, empty_region}
use Rattle.tables.proofs.Packs.{free-count}
use Rattle.driving.proofs.Lent.{lent-then, room-left}
use Rattle.regions.proofs.Choosing.{place_of, mapped-place, place_found, place-placed}
use Rattle.step_fit.proofs.Turns.{search-ends, turn_small, turn_out, turn-complete, turn-not_yet}
use Rattle.step_fit.proofs.smallest_complete.Goals as goal
use Rattle.step_fit.proofs.smallest_complete.Goals.{then-requested-q+in_ok-is_complete+then-branch, else-requested-q, else-requested-q-via-then-requested-q+in_ok-is_complete+else-branch, else-requested-q-via-else-requested-q}

pub is_complete-requires : goal.is_complete-requires
is_complete-requires c =
    let v = c.loop-at in
    let below : v.at + 1 ≤ c.args.free.now.count =
    omega (arith, c.loop-at-test.true, ap length c.entries-q-items.ensures, free-count c.args.free.now c.requires.0) in
    room-left v.at 1 c.requires.1 v.invariant.0 v.invariant.1 below

pub returns-in_err-is_complete : goal.returns-in_err-is_complete
returns-in_err-is_complete c =
    let v = c.loop-at in
    let l = free_of c.args.free.now in
    let items = c.entries-q-items.ensures in
    let h : v.at < length l = rw items at c.loop-at-test.true in
    let p = err_from_is_err_and c.from_residual.result c.from_residual.ensures.1 in
    let d = c.in_err-is_complete.ensures in
    rw (p.1, p.2)
    (record {
      lent = lent-then v.invariant.0 d.lent;
      ran = λ t. v.invariant.3 t _ _ (turn_out l h c.args.requested v.best (rw items at c.if-requested-q.true) (rw items at (d.ran (with_free l t))));
      placed = tt;
      most = omega (arith, d.made, v.invariant.1, h, free-count c.args.free.now c.requires.0);
    })

pub loop-at-preserved : goal.loop-at-preserved
loop-at-preserved c =
    let v = c.loop-at in
    let n = c.args.requested in
    let l = free_of c.args.free.now in
    let items = c.entries-q-items.ensures in
    let h : v.at < length l = rw items at c.loop-at-test.true in
    elim c.if-requested-q.branch [
      | then-requested-q+in_ok-is_complete+then-branch w ↦
          let d = w.in_ok-is_complete.ensures in
          let best : c.if-requested-q.best ≡ better v.at (get_or l v.at empty_region).size v.best = w.best-is ∙ w.better_of-best.ensures ∙ rw items in (
            rw w.driver-is (lent-then v.invariant.0 d.lent),
            rw w.driver-is (omega (arith, d.made, v.invariant.1)),
            rw best (marks-better (λ q. q.size) empty_region l v.at v.best v.invariant.2),
            λ t e u r. v.invariant.3 t e u
                (turn-complete l h n v.best (rw items at w.if-requested-q.true) v.invariant.2 (rw (items, w.if-branch.true) at (d.ran (with_free l t))) (rw (w.driver-is, best, d.lent.answers) at r)),
          )
      | else-requested-q w ↦
          elim w.else-requested-q.branch [
            | else-requested-q-via-then-requested-q+in_ok-is_complete+else-branch w' ↦
                let d = w'.in_ok-is_complete.ensures in
                let driver = w.driver-is ∙ w'.driver-is in (
                  rw driver (lent-then v.invariant.0 d.lent),
                  rw driver (omega (arith, d.made, v.invariant.1)),
                  rw w.best-is (marks-on (λ q. q.size) empty_region l v.at v.best v.invariant.2),
                  λ t e u r. v.invariant.3 t e u
                      (turn-not_yet l h n v.best (rw items at w'.if-requested-q.true) (rw (items, w'.if-branch.false) at (d.ran (with_free l t))) (rw (driver, w.best-is, d.lent.answers) at r)),
                )
            | else-requested-q-via-else-requested-q w' ↦
                let driver = w.driver-is ∙ w'.driver-is in (
                  rw driver v.invariant.0,
                  rw driver (omega (arith, v.invariant.1)),
                  rw w.best-is (marks-on (λ q. q.size) empty_region l v.at v.best v.invariant.2),
                  λ t e u r. v.invariant.3 t e u (turn_small l h n v.best (rw items at w'.if-requested-q.false) (rw (driver, w.best-is) at r)),
                )
          ]
    ]

pub returns : goal.returns
returns c =
    let v = c.loop-at in
    let l = free_of c.args.free.now in
    let b = v.best in
    let n = free-count c.args.free.now c.requires.0 in
    let past : length l ≤ v.at = rw c.entries-q-items.ensures at c.loop-at-test.false in
    let end : v.at ≤ length l = rw c.entries-q-items.ensures at v.auto.at-end in
    let none : drop v.at l ≡ [] = drop_of_length-le l {i = v.at} past in
    let at : c.map.result ≡ place_of b = mapped-place b c.map.result c.map.ensures.cases (λ x i p. search (rules, tests)) in
    record {
      lent = v.invariant.0;
      ran = λ t. rw (at, place_found empty_region l b) (v.invariant.3 t _ _ (rw none (search-ends (found empty_region l b))));
      placed = rw at (place-placed empty_region l b (λ x f. omega (arith, (rw f at v.invariant.2).0, end)));
      most = omega (arith, v.invariant.1, end, n);
    }
