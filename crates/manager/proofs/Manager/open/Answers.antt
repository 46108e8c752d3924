-- `manager::Manager::open` meets its contract, by the pool's opening.
use mathlib.Core.Path.{◌≡◌, ap, ◌∙◌}
use Rattle.calls.specs.Promises.{called}
use Rattle.calls.specs.declared.Called.{Called}
use Rattle.manager_rules.specs.Values.{SmallBuffers}
use Rattle.manager_rules.specs.Open.{open_manager}
use Rattle.manager.specs.declared.Managed.{Managed}
use Rattle.manager.proofs.Manager.open.Goals as goal

-- the layer over what the pool's opening hands back
abbrev opened_over : Called → SmallBuffers → Managed
opened_over r z =
    record {
      manager = record { value = record { pool = r.pool.value; small = z; current = 0; highest = 0 } };
      outcome = r.outcome;
      records = r.records;
      taken = r.taken;
    }

pub returns : goal.returns
unfolding open_manager
returns c =
    let q = c.open-called.ensures in
    record { answer = ap (λ x. opened_over x c.empty.result) q.answer ∙ ap (opened_over (called _)) c.empty.ensures; cells = q.cells }
