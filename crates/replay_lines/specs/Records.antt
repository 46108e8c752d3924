-- The records of a log, each as a line of a trace.
use Rattle.std.specs.Prelude.{List, [], ◌∷◌, ℕ, zero, suc, ◌+◌, ◌*◌, ◌≤◌, drop, get_or}
use Rattle.lists.specs.Walks.{joined}
use Rattle.words.specs.declared.Record.{Record}
use Rattle.trace.specs.Bounds.{longest_line}
use Rattle.trace.specs.Form.{printed}
use Rattle.trace.specs.Kinds.{of_record}
use Rattle.trace.specs.Put.{Put}

-- each record on a line
abbrev pub printed_all : List Record → List ℕ
printed_all = joined (λ x. printed (of_record x))

-- the first record of a log's cells, which is four numbers
abbrev pub first_of : List ℕ → Record
first_of l = record { kind = get_or l 0 0; first = get_or l 1 0; second = get_or l 2 0; code = get_or l 3 0 }

-- the first `n` records; where a call wrote them, they are the call's (proofs/Records.antt)
abbrev pub records_in : ℕ → List ℕ → List Record
records_in zero l = []
records_in (suc n) l = first_of l ∷ records_in n (drop 4 l)

pub record PutRecords (log : List ℕ) (count : ℕ) (out out' : List ℕ) (at r : ℕ) : Type 0 where
  pub puts : Put out out' at r (printed_all (records_in count log))
  pub next : r ≤ at + longest_line * count
