-- The hand-over of each live buffer, from the lines alone: as the live buffers of crates/judge_rules, the newest first, each with the number of its line.
use Rattle.std.specs.Prelude.{◌≡◌, Bool, true, false, not, List, [], ◌∷◌, reverse, ℕ, ◌+◌, ◌≤◌, eqb, length}
use Rattle.fixed_rows.specs.Rows.{Rows}
use Rattle.lists.specs.Tests.{filter}
use Rattle.trace.specs.declared.Line.{Line}
use Rattle.judge_rules.specs.Said.{said}
use Rattle.judge_rules.specs.Sizes.{most_live}
use Rattle.judge_rules.specs.SoFar.{call}
use Rattle.judge_rules.specs.declared.Asked.{Asked}
use Rattle.judge_rules.specs.declared.Call.{Call}
use Rattle.judge_rules.specs.declared.Call.TheVariants.{Open, Malloc, Free, Close}
use Rattle.judge_rules.specs.declared.Said.{Said}
use Rattle.judge_rules.specs.declared.Said.TheVariants.{Record, Call as Calls, Result, Aside, Unknown}
use Rattle.summary_counts.specs.declared.handed.HandOver.{HandOver}

-- A call's result of answer 0: a malloc's hands a buffer over, a free's ends the one at its address.
abbrev pub answered_by : Call → Asked → Line → ℕ → List HandOver → List HandOver
answered_by Malloc a l n hs = record { start = l.first; size = l.second; stream = a.second; line = n } ∷ hs
answered_by Free a l n hs = filter (λ o. not (eqb o.start a.first)) hs
answered_by Open a l n hs = hs
answered_by Close a l n hs = hs

-- a record of a close ends all
abbrev pub ended_by : Call → List HandOver → List HandOver
ended_by Open hs = hs
ended_by Malloc hs = hs
ended_by Free hs = hs
ended_by Close hs = []

-- line `n`, in the call `a`: whether it is done is whether its third number is 0
abbrev pub handed_by : Said → Bool → Asked → Line → ℕ → List HandOver → List HandOver
handed_by Result true a l n hs = answered_by a.call a l n hs
handed_by Result false a l n hs = hs
handed_by (Record w) done a l n hs = ended_by a.call hs
handed_by (Calls c) done a l n hs = hs
handed_by Aside done a l n hs = hs
handed_by Unknown done a l n hs = hs

abbrev pub hand_overs : List Line → List HandOver
hand_overs [] = []
hand_overs (l ∷ before) = handed_by (said l.kind) (eqb l.third 0) (call before) l (length before + 1) (hand_overs before)

-- those of a table, whose oldest stands first
abbrev pub hand_overs_in : Rows HandOver → List HandOver
hand_overs_in t = reverse t.items

-- The table holds these hand-overs, where the judge has room for so many live buffers.
abbrev pub Leaves : Rows HandOver → List HandOver → Type 0
Leaves t hs = length hs ≤ most_live → hand_overs_in t ≡ hs
