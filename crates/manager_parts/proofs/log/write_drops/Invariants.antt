use mathlib.Core.Path.{◌≡◌}
use lib.ListN.{length, drop}
use Rattle.manager_parts.proofs.Drops.{Dropping}
use Rattle.manager_parts.proofs.log.write_drops.Given as goal

-- the log holds the records of the buffers passed, which with those of the others are all
abbrev pub invariant-loop-made : goal.invariant-loop-made
invariant-loop-made l = (length l.log ≡ length l.initial.log) × Dropping l.answers l.small l.initial.log l.made (drop l.made l.small) l.log
