-- The same of a call of the layer that takes bytes.
use Rattle.std.specs.Prelude.{◌≡◌, List, ℕ, ◌/◌, length}
use Rattle.words.specs.Log.{written}
use Rattle.tables.specs.Calls.{Call, mallocs, frees, closes}
use Rattle.tables.specs.Outcomes.{numbers}
use Rattle.manager_rules.specs.HandsBack as rule
use Rattle.manager_rules.specs.Open.{open_manager}
use Rattle.manager_rules.specs.Calls.{answer}
use Rattle.finder.specs.Plain.{manager_of, plain_of}
use Rattle.finder.specs.declared.plain.PlainManager.{PlainManager}
use Rattle.manager.specs.declared.Managed.{Managed}
use Rattle.finder.specs.declared.ManagerReply.{ManagerReply}

-- a call's answer with the numbers of its outcome
abbrev pub manager_reply_of : Managed → ManagerReply
manager_reply_of c =
    let n = numbers c.outcome in
    record { manager = plain_of c.manager.value; answer = n.number; first = n.first; second = n.second; records = c.records; taken = c.taken }

-- The layer, the numbers, how many records stand in the log and how many answers were taken.
abbrev pub told : rule.Reply → ManagerReply
told w =
    record {
      manager = plain_of w.manager;
      answer = (numbers w.outcome).number;
      first = (numbers w.outcome).first;
      second = (numbers w.outcome).second;
      records = length w.records;
      taken = w.taken;
    }

-- The call hands this back, and its records stand in the log from the first cell on; no other cell changes.
pub record Manages (w : rule.Reply) (r : ManagerReply) (log log' : List ℕ) : Type 0 where
  pub reply : r ≡ told w
  pub cells : log' ≡ written log 0 w.records

-- What each function promises: `xs` are the lent answers, and the log has room for a record in every four numbers.
abbrev pub ManagesOpen : ℕ → ℕ → ℕ → ℕ → ℕ → List ℕ → List ℕ → ManagerReply → List ℕ → Type 0
ManagesOpen granularity override va initial stream xs log r log' =
    Manages (open_manager granularity override va initial stream xs (length log / 4)) r log log'

abbrev pub ManagesCall : PlainManager → Call → List ℕ → List ℕ → ManagerReply → List ℕ → Type 0
ManagesCall m c xs log r log' = Manages (answer (manager_of m) c xs (length log / 4)) r log log'

abbrev pub ManagesMalloc : PlainManager → ℕ → ℕ → List ℕ → List ℕ → ManagerReply → List ℕ → Type 0
ManagesMalloc p bytes stream = ManagesCall p (mallocs bytes stream)

abbrev pub ManagesFree : PlainManager → ℕ → List ℕ → List ℕ → ManagerReply → List ℕ → Type 0
ManagesFree p a = ManagesCall p (frees a)

abbrev pub ManagesClose : PlainManager → List ℕ → List ℕ → ManagerReply → List ℕ → Type 0
ManagesClose p = ManagesCall p closes
