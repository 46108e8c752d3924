-- `step_close::count_tell` meets its contract: the line is a failed one where the answer is a failure.
use mathlib.Core.Path.{◌∙◌}
use native.Mathlib.Omega.{arith}
use Rattle.std.proofs.lemmas.Result.{err_from_is_err_and}
use Rattle.tables.specs.Values.{no_tables}
use Rattle.driving.proofs.Endings.{not_failed}
use Rattle.step_close.proofs.Counting.{gave, next, stop, told, ran_out, ends-once, not-ends}
use Rattle.step_close.proofs.count_tell.Goals as goal

pub returns-in_err-tell : goal.returns-in_err-tell
returns-in_err-tell c =
    let p = err_from_is_err_and c.from_residual.result c.from_residual.ensures.1 in
    let d = c.in_err-tell.ensures in
    rw (p.1, p.2)
    (record {
      lent = d.lent;
      ran = λ t. stop _ (told c.args.word c.args.first c.args.second _ (d.ran t) (omega arith));
      only = λ o e. ends-once e ∙ ran_out c.args.word c.args.first c.args.second (d.ran (no_tables 0 0));
      most = omega (arith, d.made);
      few = omega (arith, d.made, c.requires.0);
    })

pub returns-in-Failed : goal.returns-in-Failed
returns-in-Failed c =
    let d = c.in_ok-tell.ensures in
    record {
      lent = d.lent;
      ran = λ t. next _ (told c.args.word c.args.first c.args.second _ (d.ran t) (rw c.in-Failed.is (omega arith))) gave;
      only = λ o e. not-ends e;
      most = omega (arith, d.made);
      few = omega (arith, d.made, c.requires.0);
    }

pub returns-in_default : goal.returns-in_default
returns-in_default c =
    let d = c.in_ok-tell.ensures in
    record {
      lent = d.lent;
      ran = λ t. next _ (told c.args.word c.args.first c.args.second _ (d.ran t)
          (rw (not_failed _ c.in_default.not-Failed) (omega arith))) gave;
      only = λ o e. not-ends e;
      most = omega (arith, d.made);
      few = omega (arith, d.made, c.requires.0);
    }
