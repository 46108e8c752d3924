-- The judge's state as the code holds it, and the state of the rules that it stands for: each table is its list, the newest row first.
use Rattle.std.specs.Prelude.{Bool, true, not, ◌&&◌, ◌||◌, ℕ, eqb, Option, Some, None, Result, Ok, Err}
use Rattle.std.proofs.Math.Option as math
use Rattle.trace.specs.declared.Line.{Line}
use Rattle.judge_rules.specs.Said.{if_open}
use Rattle.judge_rules.specs.Rules.{Judge}
use Rattle.judge_rules.specs.Verdict.{Step, on, broken, beyond}
use Rattle.judge_rules.specs.declared.Call.{Call}
use Rattle.judge_rules.specs.declared.Run.{Run}
use Rattle.judge_tables.specs.Rows.{reservations_in, handles_in, pages_in, live_in}
use Rattle.judge_steps.specs.declared.State.{State}
use Rattle.judge_steps.specs.declared.Fault.{Fault}
use Rattle.judge_steps.specs.declared.Fault.TheVariants.{Broken, Beyond}

abbrev pub last_of : Option ℕ → math.Option ℕ
last_of None = math.none
last_of (Some id) = math.some id

unfoldable pub judge_of : State → Judge
judge_of s =
    record {
      run = s.run;
      reservations = reservations_in s.reservations.items;
      held = handles_in s.held.items;
      mapped = pages_in s.mapped.items;
      live = live_in s.live.items;
      last = last_of s.last;
    }

-- what a line came to, where `s` is the state after it
abbrev pub outcome_of : Result (Unit {0}) Fault → Judge → Step
outcome_of (Ok u) s = on s
outcome_of (Err (Broken rule)) s = broken rule
outcome_of (Err (Beyond which)) s = beyond which

abbrev pub step_of : Result (Unit {0}) Fault → State → Step
step_of r s = outcome_of r (judge_of s)

-- a call line's run
abbrev pub run_on : Call → Run → Line → Run
run_on c r l =
    record {
      opened = true;
      page = if_open c l.first r.page;
      va = if_open c l.second r.va;
      asked = record { call = c; first = l.first; second = l.second };
      waiting = true;
      over = r.over;
    }

-- R0 of a call line, of a record, of a result, of a small buffer's line
abbrev pub starts_run : Call → Run → ℕ → Bool
starts_run c r first = if_open c (not r.opened && not (eqb first 0)) r.opened && not r.waiting

abbrev pub in_run : Run → Bool
in_run r = r.opened && (r.waiting && not r.over)

abbrev pub ends_run : Run → Line → Bool
ends_run r l = r.opened && (r.waiting && (not r.over || eqb l.first 0 && eqb l.second 0 && eqb l.third 1))

abbrev pub between_runs : Run → Bool
between_runs r = r.opened && not r.waiting
