-- A run of the pool and its trace: an opening, then calls with any arguments, each with the answers lent to it and a log of any length.
use Rattle.std.specs.Prelude.{cond, List, [], ◌∷◌, ◌++◌, map, ℕ}
use Rattle.tables.specs.Outcomes.{numbers, is}
use Rattle.tables.specs.HandsBack.{Reply}
use Rattle.tables.specs.Open.{page_size, open_pool}
use Rattle.tables.specs.Calls.{Call, answer}
use Rattle.tables.specs.declared.Pool.{Pool}
use Rattle.trace.specs.Kinds.{of_record, open_line}
use Rattle.trace.specs.declared.Line.{Line}
use Rattle.replay_lines.specs.Traced.{line_of, result_of}

-- `log` counts the records that the log has room for.
pub record Lent : Type 0 where
  pub call : Call
  pub answers : List ℕ
  pub log : ℕ

pub record Opening : Type 0 where
  pub granularity : ℕ
  pub override : ℕ
  pub va : ℕ
  pub initial : ℕ
  pub stream : ℕ
  pub answers : List ℕ
  pub log : ℕ

abbrev pub opened : Opening → Reply
opened o = open_pool o.granularity o.override o.va o.initial o.stream o.answers o.log

-- docs/RULES.md 6.1: the call, its records, its result.
abbrev pub entry : Line → Reply → List Line
entry call r = call ∷ (map of_record r.records ++ (result_of (numbers r.outcome) ∷ []))

-- A call answered 17 is in no trace.
abbrev pub trace_from : Pool → List Lent → List Line
trace_from p [] = []
trace_from p (c ∷ cs) =
    let r = answer p c.call c.answers c.log in
    cond (is 17 r.outcome) (trace_from r.pool cs) (entry (line_of c.call) r ++ trace_from r.pool cs)

-- The opening, with the page size in use, and the calls.
abbrev pub trace_of : Opening → List Lent → List Line
trace_of o cs =
    entry (open_line (page_size o.granularity o.override) o.va o.initial) (opened o) ++ trace_from (opened o).pool cs
