-- docs/RULES.md 12.8: a run of the layer and its trace. What the pool is asked stands in it as the pool's own call, with the size in whole pages; a small
-- buffer's record stands between calls; what the layer refuses itself leaves no line.
use Rattle.std.specs.Prelude.{cond, List, [], ◌∷◌, ◌++◌, map, ℕ, eqb, length, take, drop}
use Rattle.lists.specs.Tests.{any}
use Rattle.words.specs.declared.Record.{Record}
use Rattle.tables.specs.Outcomes.{numbers, is}
use Rattle.tables.specs.Open.{page_size}
use Rattle.tables.specs.Calls.{Call, mallocs, frees, closes}
use Rattle.tables.specs.declared.Outcome.{Outcome}
use Rattle.trace.specs.Kinds.{of_record, open_line, malloc_line, free_line, close_line}
use Rattle.trace.specs.declared.Line.{Line}
use Rattle.replay_lines.specs.Traced.{result_of}
use Rattle.agreement.specs.Runs.{Opening}
use Rattle.manager_rules.specs.Values.{small}
use Rattle.manager_rules.specs.Sizes.{Request, unfit, smaller, whole, request}
use Rattle.manager_rules.specs.HandsBack.{Reply}
use Rattle.manager_rules.specs.Open.{open_manager}
use Rattle.manager_rules.specs.Calls.{answer}
use Rattle.manager_rules.specs.Runs.{Lent}
use Rattle.manager_rules.specs.declared.Manager.{Manager}

abbrev pub opened : Opening → Reply
opened o = open_manager o.granularity o.override o.va o.initial o.stream o.answers o.log

-- a call of the pool: its own line, its records, its result
abbrev pub entry : Line → List Record → Outcome → List Line
entry call rs o = call ∷ (map of_record rs ++ (result_of (numbers o) ∷ []))

-- a malloc, by what its size asks for
abbrev pub malloc_lines : Request → ℕ → Reply → List Line
malloc_lines unfit s r = []
malloc_lines smaller s r = map of_record r.records
malloc_lines (whole k) s r = entry (malloc_line k s) r.records r.outcome

-- In a close the small buffers' records stand before its line.
abbrev pub lines_of : Manager → Call → Reply → List Line
lines_of m (mallocs n s) r = malloc_lines (request m.pool.page n) s r
lines_of m (frees a) r = cond (any (λ b. eqb b.pointer a) (small m)) (map of_record r.records) (entry (free_line a) r.records r.outcome)
lines_of m closes r =
    let k = length (small m) in
    map of_record (take k r.records) ++ entry close_line (drop k r.records) r.outcome

-- A call answered 17 is in no trace.
abbrev pub trace_from : Manager → List Lent → List Line
trace_from m [] = []
trace_from m (c ∷ cs) =
    let r = answer m c.call c.answers c.log in
    cond (is 17 r.outcome) (trace_from r.manager cs) (lines_of m c.call r ++ trace_from r.manager cs)

-- The opening, with the page size in use, and the calls.
abbrev pub trace_of : Opening → List Lent → List Line
trace_of o cs =
    entry (open_line (page_size o.granularity o.override) o.va o.initial) (opened o).records (opened o).outcome
    ++ trace_from (opened o).manager cs
