-- `step_pull::settle` meets its contract: each way out of it is a way of the rule.
use mathlib.Core.Path.{◌≡◌, ap, refl}
use mathlib.Core.Bool.{false}
use native.Mathlib.Omega.{arith}
use borrow.Author.Tests.{eq-eqb, ne_eqb}
use lib.Dec.{eqb}
use Rattle.std.proofs.lemmas.Result.{err_from_is_err_and}
use Rattle.tables.specs.Steps.{on}
use Rattle.tables.specs.Driver.{wait}
use Rattle.driving.proofs.Lent.{lent-same, lent-then}
use Rattle.step_pull.proofs.Ways.{settle-own, settle_out, settle-complete, settle-wait}
use Rattle.step_pull.proofs.settle.Goals as goal

pub returns-then-region-stream : goal.returns-then-region-stream
returns-then-region-stream c =
    record {
      lent = lent-same _;
      ran = λ t. settle-own c.args.stream c.args.region (eq-eqb c.args.region.stream c.args.stream c.if-region-stream.true);
      most = omega arith;
    }

pub returns-in_err-complete : goal.returns-in_err-complete
returns-in_err-complete c =
    let other : eqb c.args.region.stream c.args.stream ≡ false = ne_eqb c.args.region.stream c.args.stream c.if-region-stream.false in
    let p = err_from_is_err_and c.from_residual.result c.from_residual.ensures.1 in
    let d = c.in_err-complete.ensures in
    rw (p.1, p.2)
    (record {
      lent = d.lent;
      ran = λ t. settle_out c.args.stream c.args.region other (d.ran t) refl;
      most = omega (arith, d.made);
    })

pub returns-then-complete : goal.returns-then-complete
returns-then-complete c =
    let other : eqb c.args.region.stream c.args.stream ≡ false = ne_eqb c.args.region.stream c.args.stream c.if-region-stream.false in
    let d = c.in_ok-complete.ensures in
    record {
      lent = d.lent;
      ran = λ t. settle-complete c.args.stream c.args.region other (d.ran t) (ap on c.if-complete.true);
      most = omega (arith, d.made);
    }

pub returns : goal.returns
unfolding wait
returns c =
    let other : eqb c.args.region.stream c.args.stream ≡ false = ne_eqb c.args.region.stream c.args.stream c.if-region-stream.false in
    let d = c.in_ok-complete.ensures in
    let w = c.must_tell.ensures in
    record {
      lent = lent-then d.lent w.lent;
      ran = λ t. settle-wait c.args.stream c.args.region other (d.ran t) (ap on c.if-complete.false) (rw d.lent.answers at (w.ran t));
      most = omega (arith, d.made, w.made);
    }
