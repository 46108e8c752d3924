-- What the steps of a call leave is what its rule hands back.
use mathlib.Core.Path.{◌≡◌, refl, ap, sym, ◌∙◌}
use mathlib.Core.Bool.{Bool, true, false, cond}
use mathlib.Core.List.{List}
use Prim.Native.Nat.{ℕ, ◌-◌, ◌≤◌, ◌/◌}
use native.Mathlib.Omega.{arith}
use lib.ListN.{length}
use Rattle.words.proofs.Log.{written_none}
use Rattle.std.specs.Prelude.{Some, None}
use Rattle.tables.specs.Bounds.{LOG}
use Rattle.tables.specs.Values.{Tables, tables_of, pool_of}
use Rattle.tables.specs.Kept.{KeptPool}
use Rattle.tables.specs.Steps.{Ending, Step}
use Rattle.tables.specs.Outcomes.{is}
use Rattle.tables.specs.HandsBack.{Reply, refused, finished, outcome_of}
use Rattle.tables.specs.declared.Pool as tables
use Rattle.tables.specs.declared.Outcome.{Outcome}
use Rattle.tables.proofs.Packs.{pool-whole}
use Rattle.driving.specs.Ran.{Ran, RoomFor, point}
use Rattle.driving.specs.Pools.{PoolRan}
use Rattle.driving.specs.declared.Driver.{Driver}
use Rattle.driving.proofs.Ran.{log_is}
use Rattle.calls.specs.Promises.{Replies, called}
use Rattle.calls.specs.Leaving.{state_after, leaving, leaving_short, leaving_refused}
use Rattle.calls.specs.declared.Pool.{Pool}
use Rattle.calls.specs.declared.Called.{Called}
use Rattle.calls.proofs.States.{is-short, is-left}

-- a pool with another state
abbrev with_state : ℕ → tables.Pool → tables.Pool
with_state s p =
    record {
      state = s;
      page = p.page;
      va = p.va;
      counter = p.counter;
      free = p.free;
      live = p.live;
      holes = p.holes;
      zombies = p.zombies;
      pages = p.pages;
      roots = p.roots;
    }

-- its tables are kept
pub with-state : (s : ℕ) (p : tables.Pool) → KeptPool p → with_state s p ≡ pool_of s (tables_of p)
unfolding pool_of
with-state s p k = ap (with_state s) (pool-whole p k)

module _ (p : Pool) (q : tables.Pool) (o : Outcome) (k : ℕ) where
  -- 17
  pub left-short : is 17 o ≡ true → leaving p q o k ≡ leaving_short p o k
  left-short e = rw e

  pub left-ran_out : state_after o ≡ None → leaving p q o k ≡ leaving_short p o k
  left-ran_out e = left-short (is-short o e)

  -- any other outcome leaves the tables of the steps, with its state
  pub left_by_lem : {n : ℕ} → KeptPool q → state_after o ≡ Some n →
      leaving p q o k ≡ record { pool = record { value = with_state n q }; outcome = o; records = k; taken = k }
  left_by_lem {n} kept e =
      let w = is-left o e in
      rw w.0
      (ap (λ x. record { pool = record { value = x }; outcome = o; records = k; taken = k })
      (sym (with-state n q kept ∙ ap (λ m. pool_of m (tables_of q)) w.1)))

taken_none : (b : Bool) → ◌≡◌ {A = ℕ} (cond b 0 0) 0
taken_none true = refl
taken_none false = refl

-- nothing changed, nothing logged
pub refused-is : (p : Pool) (o : Outcome) → record { pool = p; outcome = o; records = 0; taken = 0 } ≡ leaving_refused p o
refused-is p o = λ i. record { pool = p; outcome = o; records = 0; taken = sym (taken_none (is 17 o)) i }

pub replies-none : {r : Called} {l : List ℕ} (w : Reply) (p : Pool) (o : Outcome) → w ≡ refused p.value o → r ≡ called (refused p.value o) → Replies w r l l
replies-none {l = l} w p o e h = rw e record { answer = h; cells = sym (written_none l 0) }

-- The log ends as the driver left it.
pub replies-as : {w : Reply} {r : Called} {l m n : List ℕ} → n ≡ m → Replies w r l m → Replies w r l n
replies-as e r = record { answer = r.answer; cells = e ∙ r.cells }

-- A driver as a call begins with it.
pub record Begins (d : Driver) (xs l : List ℕ) : Type 0 where
  pub answers : d.answers.now ≡ xs
  pub log : d.log.now ≡ l
  pub made : d.made ≡ 0

-- the steps went from the tables that were read
module _ {m : Step Outcome} {bound : ℕ} {d d' : Driver} {q q' : tables.Pool} {e : Ending Outcome} {xs l : List ℕ} (p : Pool) (t : Tables)
    (same : tables_of q ≡ t) (b : Begins d xs l) (c : PoolRan m bound d q e d' q') where
  pub steps-ran : Ran m xs (point 0 t l) e (point d'.made (tables_of q') d'.log.now)
  steps-ran = rw (b.answers, b.made, b.log, same) at c.ran

  left_is : leaving p q' (outcome_of e) d'.made ≡ called (finished p.value (m xs 0 t))
  unfolding finished
  left_is =
      let r = steps-ran in
      let made : d'.made ≡ length r.records = omega (arith, r.made) in
      rw r.goes (ap (leaving p q' (outcome_of e)) made)

  pub replies-left : {w : Reply} {r : Called} → w ≡ finished p.value (m xs 0 t) → r ≡ leaving p q' (outcome_of e) d'.made → Replies w r l d'.log.now
  unfolding finished
  replies-left h g = rw h record { answer = g ∙ left_is; cells = log_is steps-ran }

-- a log that is not short has room for every record
pub long : (d : Driver) {xs l : List ℕ} → Begins d xs l → LOG ≤ length l / 4 → RoomFor LOG d
long d b h = omega (arith, h, b.made, ap length b.log)
