-- The state of the rules that a state that is looked at stands for: each table is its list, the newest row first.
use Rattle.judge_rules.specs.Rules.{Judge}
use Rattle.judge_tables.specs.Rows.{reservations_in, handles_in, pages_in, live_in}
use Rattle.judge_steps.specs.State.{last_of}
use Rattle.judge_reasons.specs.declared.seen.Seen.{Seen}

unfoldable pub judge_seen : Seen → Judge
judge_seen s =
    record {
      run = s.run;
      reservations = reservations_in s.reservations.now;
      held = handles_in s.held.now;
      mapped = pages_in s.mapped.now;
      live = live_in s.live.now;
      last = last_of s.last;
    }
