-- `replay_lines::put_call` meets its contract: each part ends where the next begins and no line is longer than the longest.
use mathlib.Core.Path.{◌≡◌}
use mathlib.Core.List.{List, ◌++◌, append_assoc}
use Prim.Native.Nat.{ℕ}
use Rattle.tables.specs.Outcomes.{numbers}
use Rattle.tables.specs.declared.Outcome.{Outcome}
use Rattle.trace.specs.Form.{printed}
use Rattle.trace.specs.declared.Line.{Line}
use Rattle.trace.proofs.Put.{put_then, put_as}
use Rattle.replay_lines.specs.Records.{printed_all, records_in}
use Rattle.replay_lines.specs.Traced.{call_line, result_of, call_text}
use Rattle.replay_lines.proofs.put_call.Goals as goal

-- the three parts
call-text : (l : Line) (o : Outcome) (n : ℕ) (log : List ℕ) {f r : Line} → f ≡ call_line l → r ≡ result_of (numbers o)
    → (printed f ++ printed_all (records_in n log)) ++ printed r ≡ call_text l o n log
unfolding call_text
call-text l o n log e g = rw (e, g) (append_assoc (printed (call_line l)) (printed_all (records_in n log)) (printed (result_of (numbers o))))

pub returns : goal.returns
returns c =
    let a = c.args in
    put_as
    (call-text a.call a.outcome a.count a.log.now c.call_line-first.ensures c.result_line-last.ensures)
    (put_then (put_then c.put-next.ensures.puts c.put_records-end.ensures.puts) c.put.ensures.puts)
