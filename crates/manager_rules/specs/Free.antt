-- docs/RULES.md 12.5: free. The small buffers are tried before the pool.
use Rattle.std.specs.Prelude.{cond, List, [], ◌∷◌, ℕ, ◌-◌, eqb}
use Rattle.std.proofs.Math.Option.{Option, some, none}
use Rattle.lists.specs.Tests.{first}
use Rattle.lists.specs.Order.{without}
use Rattle.words.specs.Answers.{lent}
use Rattle.words.specs.declared.Answer.{Answer}
use Rattle.words.specs.declared.Answer.TheVariants.{Done, Failed, Missing}
use Rattle.words.specs.declared.Record.{Record}
use Rattle.trace.specs.Kinds.{DROPSMALL}
use Rattle.tables.specs.Outcomes.{numbers, is}
use Rattle.tables.specs.Calls.{frees, answer}
use Rattle.tables.specs.declared.Outcome.TheVariants.{Freed, DriverFailed, AnswersRanOut}
use Rattle.manager_rules.specs.Values.{small, with_pool}
use Rattle.manager_rules.specs.HandsBack.{Reply, reply, of_pool, admitted}
use Rattle.manager_rules.specs.Malloc.{with_small}
use Rattle.manager_rules.specs.declared.SmallBuffer.{SmallBuffer}
use Rattle.manager_rules.specs.declared.Manager.{Manager}

-- `n` bytes less are held; highest stays.
abbrev pub lowered : ℕ → Manager → Manager
lowered n m = record { pool = m.pool; small = m.small; current = m.current - n; highest = m.highest }

-- The pool's free, which answers the size: current falls on answer 0 only.
unfoldable pub whole_free : Manager → ℕ → List ℕ → ℕ → Reply
whole_free m a xs log =
    let r = answer m.pool (frees a) xs log in
    let q = with_pool m r.pool in
    of_pool (cond (is 0 r.outcome) (lowered (numbers r.outcome).first q) q) r

-- pointer, size
abbrev pub drop_record : SmallBuffer → ℕ → Record
drop_record b code = record { kind = DROPSMALL; first = b.pointer; second = b.size; code = code }

-- By the driver's answer: 14 says that it failed, and leaves everything, the pool too, as it was.
unfoldable pub drop_answered : Manager → SmallBuffer → Answer → Reply
drop_answered m b Missing = reply m AnswersRanOut (drop_record b 0 ∷ [])
drop_answered m b (Failed c) = reply m (DriverFailed c) (drop_record b c ∷ [])
drop_answered m b (Done v) =
    reply (lowered b.size (with_small m (without (λ c. c.pointer) b.pointer (small m)))) (Freed b.size b.stream) (drop_record b 0 ∷ [])

unfoldable pub free_found : Manager → ℕ → List ℕ → ℕ → Option SmallBuffer → Reply
free_found m a xs log none = whole_free m a xs log
free_found m a xs log (some b) = drop_answered m b (lent xs 0)

-- 1 to 5, and then whose buffer it is.
unfoldable pub free : Manager → ℕ → List ℕ → ℕ → Reply
free m a xs log = admitted m log (free_found m a xs log (first (λ b. eqb b.pointer a) (small m)))
