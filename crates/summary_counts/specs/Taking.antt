-- A line of a trace, taken by the judge first: what a summary says behind it.
use Rattle.std.specs.Prelude.{◌≡◌, List, [], ◌∷◌, ◌+◌, ◌≤◌, length, Result, OnOk, OnErr}
use Rattle.trace.specs.declared.Line.{Line}
use Rattle.judge_rules.specs.Said.{said}
use Rattle.judge_rules.specs.Verdict.{start, judged}
use Rattle.judge_rules.specs.Exactly.{known}
use Rattle.judge_steps.specs.State.{judge_of, step_of}
use Rattle.judge_steps.specs.declared.State.{State}
use Rattle.judge_steps.specs.declared.Fault.{Fault}
use Rattle.summary_counts.specs.HandOvers.{hand_overs, hand_overs_in}
use Rattle.summary_counts.specs.Promises.{NoneYet, Tells}
use Rattle.summary_counts.specs.declared.Standing.{Standing}
use Rattle.summary_counts.specs.declared.Summary.{Summary}

-- how a state stands, but for the rows of its tables
abbrev pub standing_of : State → Standing
standing_of s =
    record {
      run = s.run;
      reservations = length s.reservations.items;
      held = length s.held.items;
      mapped = length s.mapped.items;
      live = length s.live.items;
      last = s.last;
    }

-- before the first line
pub record Starts (s : Summary) : Type 0 where
  pub known : judge_of s.state ≡ start
  pub standing : s.standing ≡ standing_of s.state
  pub counts : NoneYet s.counts
  pub handed : s.handed.items ≡ []

-- The judge's tables and the summary say what the definitions say of the lines `h`:
pub record Told (s : Summary) (h : List Line) : Type 0 where
  pub known : judge_of s.state ≡ known h
  pub counts : Tells s.counts h
  pub handed : hand_overs_in s.handed ≡ hand_overs h

-- a line comes to what the judge says of it, and where the judge takes it all is told of the lines with this one more; where not, the summary is left as it
-- was.
pub record Taking (s : Summary) (l : Line) (r : Result (Unit {0}) Fault) (s' : Summary) : Type 0 where
  pub lines : s'.counts.lines ≤ s.counts.lines + 1
  pub judged : step_of r s'.state ≡ judged (said l.kind) (judge_of s.state) l
  pub standing : OnOk r (s'.standing ≡ standing_of s'.state)
  pub tells : OnOk r ((h : List Line) → Told s h → Told s' (l ∷ h))
  pub stays : OnErr r ((judge_of s'.state ≡ judge_of s.state) × ((s'.standing ≡ s.standing) × ((s'.counts ≡ s.counts) × (s'.handed ≡ s.handed))))
