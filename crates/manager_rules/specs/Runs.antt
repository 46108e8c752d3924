-- A run: calls with any arguments, each with the answers lent to it and a log of any length; what each call answers and leaves in its log, of a layer and of a
-- pool. And which calls of a layer are the pool's own.
use Rattle.std.specs.Prelude.{◌≡◌, List, [], ◌∷◌, ℕ}
use Rattle.words.specs.declared.Record.{Record}
use Rattle.tables.specs.Calls as PoolCalls
use Rattle.tables.specs.Calls.{Call, mallocs, frees, closes}
use Rattle.tables.specs.declared.Pool.{Pool}
use Rattle.tables.specs.declared.Outcome.{Outcome}
use Rattle.manager_rules.specs.Sizes.{whole, rounded, request}
use Rattle.manager_rules.specs.Calls.{answer}
use Rattle.manager_rules.specs.declared.Manager.{Manager}

-- `log` counts the records that the log has room for.
pub record Lent : Type 0 where
  pub call : Call
  pub answers : List ℕ
  pub log : ℕ

-- what is seen of a call from outside
pub record Seen : Type 0 where
  pub outcome : Outcome
  pub records : List Record
  pub taken : ℕ

abbrev pub run_of : Manager → List Lent → List Seen
run_of m [] = []
run_of m (c ∷ cs) =
    let r = answer m c.call c.answers c.log in
    record { outcome = r.outcome; records = r.records; taken = r.taken } ∷ run_of r.manager cs

abbrev pub pool_run_of : Pool → List Lent → List Seen
pool_run_of p [] = []
pool_run_of p (c ∷ cs) =
    let r = PoolCalls.answer p c.call c.answers c.log in
    record { outcome = r.outcome; records = r.records; taken = r.taken } ∷ pool_run_of r.pool cs

-- The same call of a pool with pages of `page` bytes: a malloc's size in whole pages.
abbrev pub in_pages : ℕ → Call → Call
in_pages page (mallocs n s) = mallocs (rounded page n) s
in_pages page (frees a) = frees a
in_pages page closes = closes

abbrev pub lent_in_pages : ℕ → Lent → Lent
lent_in_pages page c = record { call = in_pages page c.call; answers = c.answers; log = c.log }

-- The call is no malloc of a small buffer, nor of a size that 6 refuses.
abbrev pub OfPages : ℕ → Call → Type 0
OfPages page (mallocs n s) = request page n ≡ whole (rounded page n)
OfPages page (frees a) = Unit {0}
OfPages page closes = Unit {0}
