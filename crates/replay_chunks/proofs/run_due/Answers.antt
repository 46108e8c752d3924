-- `replay_chunks::run_due` meets its contract, by whether the answers ran out.
use mathlib.Core.Path.{sym, ◌∙◌}
use Prim.Native.Nat.{◌≤◌}
use native.Mathlib.Omega.{arith}
use Rattle.tables.specs.Bounds.{LOG}
use Rattle.replay_chunks.proofs.Due.{few-called, due-short, due-printed}
use Rattle.replay_chunks.proofs.run_due.Goals as goal

pub returns-then-is_short : goal.returns-then-is_short
returns-then-is_short c =
    due-short c.run-called.ensures c.requires.0 c.run-called.auto.log c.args.due.number
    (sym c.is_short.ensures ∙ c.if-is_short.true) c.put_short.ensures

pub put_call-requires : goal.put_call-requires
put_call-requires c =
    let few : c.run-called.result.records ≤ LOG = few-called c.run-called.ensures c.requires.0 c.run-called.auto.log in
    omega (arith, few, c.run-called.auto.log, c.requires)

pub returns : goal.returns
returns c =
    due-printed c.run-called.ensures c.requires.0 c.run-called.auto.log c.args.due.number
    (sym c.is_short.ensures ∙ c.if-is_short.false) c.put_call.ensures
