-- What the code of a call hands on beside the layer, as a reply.
use Rattle.std.specs.Prelude.{◌≡◌, Result, Ok, Err, cond, ℕ, ◌-◌}
use Rattle.tables.specs.Outcomes.{is}
use Rattle.tables.specs.declared.Outcome.{Outcome}
use Rattle.manager_rules.specs.HandsBack.{Reply}
use Rattle.manager_rules.specs.declared.Manager as Rules
use Rattle.manager.specs.declared.Managed.{Managed}
use Rattle.manager.specs.declared.Said.{Said}

-- One answer for each record, but 17's last has none.
abbrev pub said_with : Outcome → ℕ → Said
said_with o records = record { outcome = o; records = records; taken = cond (is 17 o) (records - 1) records }

abbrev pub of_said : Rules.Manager → Said → Managed
of_said m s = record { manager = record { value = m }; outcome = s.outcome; records = s.records; taken = s.taken }

-- Whether the call is served or refused, this is handed back with the layer that it leaves.
abbrev pub handed : Rules.Manager → Result Said Outcome → Managed
handed m (Ok s) = of_said m s
handed m (Err o) = of_said m (said_with o 0)

-- the layer and the outcome of a reply
pub record Told (w : Reply) (o : Outcome) (m : Rules.Manager) : Type 0 where
  pub outcome : o ≡ w.outcome
  pub manager : m ≡ w.manager
