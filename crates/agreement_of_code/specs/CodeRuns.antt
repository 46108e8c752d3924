-- A run of the code: an opening and calls that meet what `Pool::open`, `malloc`, `free` and `close` promise (docs/RULES.md 11.1), each on the pool that the one
-- before it handed back; and the trace that is read out of their logs. What wrote the logs is not asked: any code that keeps the promises will do.
use Rattle.std.specs.Prelude.{cond, List, [], ◌∷◌, ◌++◌, map, ℕ}
use Rattle.tables.specs.Outcomes.{numbers, is}
use Rattle.tables.specs.Open.{page_size}
use Rattle.tables.specs.Calls.{Call}
use Rattle.trace.specs.Kinds.{of_record, open_line}
use Rattle.trace.specs.declared.Line.{Line}
use Rattle.replay_lines.specs.Records.{records_in}
use Rattle.replay_lines.specs.Traced.{line_of, result_of}
use Rattle.calls.specs.Promises.{Opens, Answers}
use Rattle.calls.specs.declared.Pool.{Pool}
use Rattle.calls.specs.declared.Called.{Called}

-- What an opening was asked and lent, its log before and after, and what it handed back; the same of a call.
pub record Start : Type 0 where
  pub granularity : ℕ
  pub override : ℕ
  pub va : ℕ
  pub initial : ℕ
  pub stream : ℕ
  pub answers : List ℕ
  pub log : List ℕ
  pub called : Called
  pub logged : List ℕ

pub record Turn : Type 0 where
  pub call : Call
  pub answers : List ℕ
  pub log : List ℕ
  pub called : Called
  pub logged : List ℕ

-- Each keeps its promise: a malloc `Mallocs`, a free `Frees`, a close `Closes`.
abbrev pub Started : Start → Type 0
Started o = Opens o.granularity o.override o.va o.initial o.stream o.answers o.log o.called o.logged

abbrev pub Goes : Pool → List Turn → Type 0
Goes p [] = Unit {0}
Goes p (t ∷ ts) = Answers p t.call t.answers t.log t.called t.logged × Goes t.called.pool ts

pub record Ran (o : Start) (ts : List Turn) : Type 0 where
  pub started : Started o
  pub goes : Goes o.called.pool ts

-- The lines of a call: its own, a record for as many as it says that it wrote, and its result. A call answered 17 is in no trace.
abbrev pub read_out : Line → Called → List ℕ → List Line
read_out call r logged = call ∷ (map of_record (records_in r.records logged) ++ (result_of (numbers r.outcome) ∷ []))

abbrev pub read_from : List Turn → List Line
read_from [] = []
read_from (t ∷ ts) = cond (is 17 t.called.outcome) (read_from ts) (read_out (line_of t.call) t.called t.logged ++ read_from ts)

abbrev pub read_trace : Start → List Turn → List Line
read_trace o ts = read_out (open_line (page_size o.granularity o.override) o.va o.initial) o.called o.logged ++ read_from ts
