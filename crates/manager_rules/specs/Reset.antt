-- docs/RULES.md 12.1: a reset. Highest counts from here on.
use Rattle.manager_rules.specs.declared.Manager.{Manager}

abbrev pub highest_reset : Manager → Manager
highest_reset m = record { pool = m.pool; small = m.small; current = m.current; highest = m.current }
