-- What a summary says of a trace, from its lines alone. The lines so far are a list, the newest first; the number of a line, counted from 1, is how many lines
-- there are up to it.
use Rattle.std.specs.Prelude.{cond, List, [], ◌∷◌, map, ℕ, ◌+◌, ◌*◌, ◌≤◌, ltb, leb, eqb, length, get_or}
use Rattle.lists.specs.Walks.{sum}
use Rattle.trace.specs.declared.Line.{Line}
use Rattle.judge_rules.specs.Said.{said}
use Rattle.judge_rules.specs.Rules.{Page, is_under}
use Rattle.judge_rules.specs.SoFar.{place, page_size, call, mapped}
use Rattle.judge_rules.specs.Meaning.{live}
use Rattle.judge_rules.specs.declared.Call.{Call}
use Rattle.judge_rules.specs.declared.Said.{Said}
use Rattle.judge_rules.specs.declared.Said.TheVariants.{Record, Call as Calls, Result, Aside, Unknown}
use Rattle.summary_counts.specs.declared.tallies.Peak.{Peak}
use Rattle.summary_counts.specs.declared.tallies.Times.{Times}

-- A table counts every line at one place, by a function of the line and of those before it. How many lines stand at the place `n`;
abbrev pub counted : (Line → List Line → ℕ) → ℕ → List Line → ℕ
counted at n [] = 0
counted at n (l ∷ before) = cond (eqb (at l before) n) (counted at n before + 1) (counted at n before)

-- the number of the first of them, 0 where there is none.
abbrev pub or_else : ℕ → ℕ → ℕ
or_else first other = cond (eqb first 0) other first

abbrev pub first_at : (Line → List Line → ℕ) → ℕ → List Line → ℕ
first_at at n [] = 0
first_at at n (l ∷ before) = cond (eqb (at l before) n) (or_else (first_at at n before) (length before + 1)) (first_at at n before)

-- The two numbers of each place of a table;
abbrev pub counts_of : List Times → List ℕ
counts_of t = map (λ w. w.count) t

abbrev pub firsts_of : List Times → List ℕ
firsts_of t = map (λ w. w.first) t

-- no count is above the number of lines.
abbrev pub Few : ℕ → List ℕ → Type 0
Few lines t = (i : ℕ) → get_or t i 0 ≤ lines

-- Answers: the places of a call are one for each number from 0 to 19, as docs/RULES.md 4.1 has them, and one for all that are above. The calls follow each other
-- as open, malloc, free, close; behind them is the place of the lines that are no results.
abbrev pub other_number : ℕ
other_number = 20

abbrev pub per_call : ℕ
per_call = 21

abbrev pub no_answer : ℕ
no_answer = 84

abbrev pub answer_places : ℕ
answer_places = 85

abbrev pub shown_number : ℕ → ℕ
shown_number n = cond (ltb n other_number) n other_number

abbrev pub answer_place_of : Said → Call → ℕ → ℕ
answer_place_of Result c n = per_call * place c + shown_number n
answer_place_of (Record w) c n = no_answer
answer_place_of (Calls d) c n = no_answer
answer_place_of Aside c n = no_answer
answer_place_of Unknown c n = no_answer

abbrev pub answer_place : Line → List Line → ℕ
answer_place l before = answer_place_of (said l.kind) (call before).call l.third

-- how many results the call `c` has had with the answer number `n`, and the line of the first
abbrev pub answered : Call → ℕ → List Line → ℕ
answered c n h = counted answer_place (per_call * place c + n) h

abbrev pub first_answered : Call → ℕ → List Line → ℕ
first_answered c n h = first_at answer_place (per_call * place c + n) h

-- Failed driver lines: a record or a small buffer's line with a code above 0 stands at its kind, every other line at 0.
abbrev pub failure_places : ℕ
failure_places = 19

abbrev pub failed_by : Said → ℕ → ℕ → ℕ
failed_by (Record w) kind code = cond (eqb code 0) 0 kind
failed_by Aside kind code = cond (eqb code 0) 0 kind
failed_by (Calls c) kind code = 0
failed_by Result kind code = 0
failed_by Unknown kind code = 0

abbrev pub failure_place : Line → List Line → ℕ
failure_place l before = failed_by (said l.kind) l.kind l.third

-- how many lines of this kind have failed
abbrev pub failures : ℕ → List Line → ℕ
failures kind h = counted failure_place kind h

-- Bytes. A sum of sizes can pass the largest u64 where a trace lies about them, and is then that.
abbrev pub most_bytes : ℕ
most_bytes = 18446744073709551615

abbrev pub capped : ℕ → ℕ
capped n = cond (leb n most_bytes) n most_bytes

abbrev pub live_bytes : List Line → ℕ
live_bytes h = capped (sum (λ b. b.size) (live h))

abbrev pub mapped_bytes : List Line → ℕ
mapped_bytes h = capped (page_size h * length (mapped h))

-- The greatest that `f` was, and the line at which it first was that: 0 where it has always been 0.
abbrev pub higher : Peak → ℕ → ℕ → Peak
higher p amount line = cond (ltb p.most amount) (record { most = amount; line = line }) p

abbrev pub peak : (List Line → ℕ) → List Line → Peak
peak f [] = record { most = 0; line = 0 }
peak f (l ∷ before) = higher (peak f before) (f (l ∷ before)) (length before + 1)

-- Zombies: the mapped pages whose handle a later map put at another address. Of the places of one handle the newest holds the page and each older one is left
-- behind, so there are as many as there are pages, the newest first, with an older one of the same handle.
abbrev pub zombies : List Page → ℕ
zombies [] = 0
zombies (p ∷ older) = cond (is_under older p.handle) (zombies older + 1) (zombies older)
