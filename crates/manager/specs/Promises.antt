-- docs/RULES.md 12: what a call of the layer hands back, as its rule says.
use Rattle.std.specs.Prelude.{◌≡◌, List, ℕ, ◌/◌, length}
use Rattle.words.specs.Log.{written}
use Rattle.words.specs.declared.Address.{Address}
use Rattle.tables.specs.Calls.{Call, mallocs, frees, closes}
use Rattle.manager_rules.specs.HandsBack.{Reply}
use Rattle.manager_rules.specs.Open.{open_manager}
use Rattle.manager_rules.specs.Calls.{answer}
use Rattle.manager.specs.declared.Manager.{Manager}
use Rattle.manager.specs.declared.Managed.{Managed}

-- The layer, the outcome, how many records stand in the log and how many answers were taken.
abbrev pub managed : Reply → Managed
managed w = record { manager = record { value = w.manager }; outcome = w.outcome; records = length w.records; taken = w.taken }

-- The call hands this back, and its records stand in the log from the first cell on; no other cell changes.
pub record Replies (w : Reply) (r : Managed) (log log' : List ℕ) : Type 0 where
  pub answer : r ≡ managed w
  pub cells : log' ≡ written log 0 w.records

-- What each entry point promises: `xs` are the lent answers, and the log has room for a record in every four numbers.
abbrev pub Opens : ℕ → ℕ → ℕ → ℕ → ℕ → List ℕ → List ℕ → Managed → List ℕ → Type 0
Opens granularity override va initial stream xs log r log' =
    Replies (open_manager granularity override va initial stream xs (length log / 4)) r log log'

abbrev pub Answers : Manager → Call → List ℕ → List ℕ → Managed → List ℕ → Type 0
Answers m c xs log r log' = Replies (answer m.value c xs (length log / 4)) r log log'

abbrev pub Mallocs : Manager → ℕ → ℕ → List ℕ → List ℕ → Managed → List ℕ → Type 0
Mallocs m bytes stream = Answers m (mallocs bytes stream)

abbrev pub Frees : Manager → Address → List ℕ → List ℕ → Managed → List ℕ → Type 0
Frees m a = Answers m (frees a.0)

abbrev pub Closes : Manager → List ℕ → List ℕ → Managed → List ℕ → Type 0
Closes m = Answers m closes
