-- `step_take_range::reserve_root` meets its contract: each way out of it is a way of the rule.
use mathlib.Core.Path.{◌≡◌, ap, sym, ◌∙◌}
use mathlib.Core.Bool.{true}
use native.Mathlib.Omega.{arith}
use Rattle.std.proofs.lemmas.Result.{err_from_is_err_and}
use Rattle.tables.specs.Values.{holes_of, roots_of}
use Rattle.tables.specs.TakeRange.{credible_for}
use Rattle.tables.proofs.Packs.{holes_pack, roots_pack}
use Rattle.step_take_range.specs.Promises.{taking}
use Rattle.step_take_range.proofs.Ways.{root-stopped, root-refused, root-incredible, root-on}
use Rattle.step_take_range.proofs.Sounds.{kept-rest, kept-root}
use Rattle.step_take_range.proofs.reserve_root.Goals as goal

pub returns-in_err-value : goal.returns-in_err-value
returns-in_err-value c =
    let p = err_from_is_err_and c.from_residual.result c.from_residual.ensures.1 in
    let d = c.in_err-value.ensures in
    let k = c.requires.takeable in
    rw (p.1, p.2)
    (record {
      lent = d.lent;
      ran = λ t p v. root-stopped c.args.page c.args.va c.args.requested p v (d.ran (taking c.args.holes.now c.args.roots.now t));
      holes = k.holes;
      roots = k.roots;
      most = omega (arith, d.made);
    })

pub returns-in_default : goal.returns-in_default
returns-in_default c =
    let d = c.in_ok-value.ensures in
    let k = c.requires.takeable in
    record {
      lent = d.lent;
      ran = λ t p v. root-refused c.args.page c.args.va c.args.requested p v _ c.in_default.not-Done (d.ran (taking c.args.holes.now c.args.roots.now t));
      holes = k.holes;
      roots = k.roots;
      most = omega (arith, d.made);
    }

pub returns-then-not-is_credible : goal.returns-then-not-is_credible
returns-then-not-is_credible c =
    let d = rw c.in-Done.is at c.in_ok-value.ensures in
    let k = c.requires.takeable in
    record {
      lent = d.lent;
      ran = λ t p v. root-incredible c.args.page c.args.va c.args.requested p v c.in-Done.value (d.ran (taking c.args.holes.now c.args.roots.now t))
          (sym c.is_credible.ensures ∙ c.if-not-is_credible.true);
      holes = k.holes;
      roots = k.roots;
      most = omega (arith, d.made);
    }

pub returns : goal.returns
returns c =
    let d = rw c.in-Done.is at c.in_ok-value.ensures in
    let k = c.requires.takeable in
    let credible : credible_for c.args.page c.args.va c.in-Done.value (roots_of c.args.roots.now) ≡ true = sym c.is_credible.ensures ∙ c.if-not-is_credible.false in
    let hs = ap holes_of c.insert_hole.ensures ∙ holes_pack _ in
    let rs = ap roots_of c.push.ensures ∙ roots_pack _ in
    record {
      lent = d.lent;
      ran = λ t p v. rw (hs, rs)
          (root-on c.args.page c.args.va c.args.requested p v c.in-Done.value (d.ran (taking c.args.holes.now c.args.roots.now t)) credible);
      holes = rw c.insert_hole.ensures (kept-rest k _ _);
      roots = rw c.push.ensures (kept-root k _ c.requires.count_bound.0);
      most = omega (arith, d.made);
    }
