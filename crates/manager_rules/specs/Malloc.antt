-- docs/RULES.md 12.4: malloc, in bytes. `xs` are the lent answers, `log` counts the records that the log has room for.
use Rattle.std.specs.Prelude.{Bool, cond, ◌&&◌, ◌||◌, List, [], ◌∷◌, ◌++◌, ℕ, ◌+◌, max, ltb, leb, eqb}
use Rattle.lists.specs.Tests.{any}
use Rattle.words.specs.Answers.{lent}
use Rattle.words.specs.declared.Address.{Address}
use Rattle.words.specs.declared.Answer.{Answer}
use Rattle.words.specs.declared.Answer.TheVariants.{Done, Failed, Missing}
use Rattle.words.specs.declared.Record.{Record}
use Rattle.trace.specs.Kinds.{SMALL}
use Rattle.tables.specs.Values.{stopped, address, roots_of}
use Rattle.tables.specs.Outcomes.{is}
use Rattle.tables.specs.Calls.{mallocs, answer}
use Rattle.tables.specs.declared.Pool.{Pool}
use Rattle.tables.specs.declared.Outcome.TheVariants.{Allocated, BadSize, DriverFailed, Incredible, AnswersRanOut, SmallBuffersFull}
use Rattle.manager_rules.specs.Values.{SMALLS, small_buffer, pack_small, small, with_pool}
use Rattle.manager_rules.specs.Sizes.{Request, unfit, smaller, whole, request}
use Rattle.manager_rules.specs.HandsBack.{Reply, reply, refused, of_pool, admitted}
use Rattle.manager_rules.specs.declared.SmallBuffer.{SmallBuffer}
use Rattle.manager_rules.specs.declared.Manager.{Manager}

-- `n` bytes more are held: current grows by them, and highest is the larger of itself and that.
abbrev pub grown : ℕ → Manager → Manager
grown n m = record { pool = m.pool; small = m.small; current = m.current + n; highest = max m.highest (m.current + n) }

-- The pool serves whole pages; both figures move on answer 0 only.
unfoldable pub whole_malloc : Manager → ℕ → ℕ → List ℕ → ℕ → Reply
whole_malloc m n s xs log =
    let r = answer m.pool (mallocs n s) xs log in
    let q = with_pool m r.pool in
    of_pool (cond (is 0 r.outcome) (grown n q) q) r

-- pointer, size
abbrev pub small_record : ℕ → ℕ → ℕ → Record
small_record pointer size code = record { kind = SMALL; first = pointer; second = size; code = code }

abbrev pub in_roots : ℕ → List Address → ℕ → Bool
in_roots va roots a = any (λ r. leb r.0 a && ltb a (r.0 + va)) roots

-- 15: a pointer that is 0, that is held, or inside a root.
unfoldable pub incredible : Manager → ℕ → Bool
incredible m a = eqb a 0 || (any (λ b. eqb b.pointer a) (small m) || in_roots m.pool.va (roots_of m.pool.roots) a)

abbrev pub with_small : Manager → List SmallBuffer → Manager
with_small m l = record { pool = m.pool; small = pack_small l; current = m.current; highest = m.highest }

-- the pool stopped, and nothing else changed
abbrev pub stopped_pool : Pool → Pool
stopped_pool p =
    record {
      state = stopped;
      page = p.page;
      va = p.va;
      counter = p.counter;
      free = p.free;
      live = p.live;
      holes = p.holes;
      zombies = p.zombies;
      pages = p.pages;
      roots = p.roots;
    }

-- By the driver's answer: 14 says that it failed, and leaves everything, the pool too, as it was.
unfoldable pub small_answered : Manager → ℕ → ℕ → Answer → Reply
small_answered m n s Missing = reply m AnswersRanOut (small_record 0 n 0 ∷ [])
small_answered m n s (Failed c) = reply m (DriverFailed c) (small_record 0 n c ∷ [])
small_answered m n s (Done a) =
    cond (incredible m a) (reply (with_pool m (stopped_pool m.pool)) Incredible (small_record a n 0 ∷ []))
    (reply (grown n (with_small m (small m ++ small_buffer a n s ∷ []))) (Allocated (address a) n) (small_record a n 0 ∷ []))

-- 20 stands in 7's place.
unfoldable pub small_malloc : Manager → ℕ → ℕ → List ℕ → Reply
small_malloc m n s xs = cond (leb SMALLS m.small.count) (refused m SmallBuffersFull) (small_answered m n s (lent xs 0))

unfoldable pub served : Manager → ℕ → ℕ → List ℕ → ℕ → Request → Reply
served m n s xs log unfit = refused m (BadSize n)
served m n s xs log smaller = small_malloc m n s xs
served m n s xs log (whole k) = whole_malloc m k s xs log

-- 1 to 5, then 6, then as the size says.
unfoldable pub malloc : Manager → ℕ → ℕ → List ℕ → ℕ → Reply
malloc m n s xs log = admitted m log (served m n s xs log (request m.pool.page n))
