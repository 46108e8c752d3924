-- A layer that holds no small buffer, and is asked for none, is its pool: each call answers what the pool answers and leaves what it leaves. The tests at
-- entry are the pool's, since such a layer is well formed where its pool is; after them the pool is asked, which makes the same tests again.
use mathlib.Core.Path.{◌≡◌, refl, ap, ◌∙◌}
use mathlib.Core.Bool.{Bool, true, false, cond, ◌||◌}
use mathlib.Core.List.{List, []}
use Prim.Native.Nat.{ℕ, ◌+◌, ◌/◌}
use native.Mathlib.Omega.{arith}
use borrow.Author.Tests.{le-ltb}
use lib.Dec.{ltb, leb, eqb}
use lib.ListN.{length}
use Rattle.words.specs.declared.Record.{Record}
use Rattle.tables.specs.Bounds.{IDS}
use Rattle.tables.specs.Values.{Tables, closed, stopped, at_entry}
use Rattle.tables.specs.Steps.{Ending, on, ends}
use Rattle.tables.specs.Outcomes.{numbers, is}
use Rattle.tables.specs.HandsBack as PoolHandsBack
use Rattle.tables.specs.Malloc as PoolMalloc
use Rattle.tables.specs.Free as PoolFree
use Rattle.tables.specs.Close as PoolClose
use Rattle.tables.specs.Close.{close_steps}
use Rattle.tables.specs.Calls as PoolCalls
use Rattle.tables.specs.Calls.{Call, mallocs, frees, closes}
use Rattle.tables.specs.declared.Outcome.{Outcome}
use Rattle.tables.specs.declared.Outcome.TheVariants.{PoolClosed, PoolStopped, ShortLog, IdsSpent}
use Rattle.keeping.specs.Holds.{After}
use Rattle.answering.proofs.Calls.{either_way}
use Rattle.answering.proofs.Steps.{close_steps-ends}
use Rattle.manager_rules.specs.Values.{BYTES, small, with_pool, closed_manager}
use Rattle.manager_rules.specs.Sizes.{unfit, smaller, whole, rounded, request}
use Rattle.manager_rules.specs.WellFormed.{well_formed}
use Rattle.manager_rules.specs.HandsBack.{Reply, refused, admitted}
use Rattle.manager_rules.specs.Malloc.{grown, whole_malloc, served, malloc}
use Rattle.manager_rules.specs.Free.{lowered, whole_free, free_found, free}
use Rattle.manager_rules.specs.Close.{close_served, close}
use Rattle.manager_rules.specs.Calls.{answer}
use Rattle.manager_rules.specs.Runs.{in_pages, OfPages}
use Rattle.manager_rules.specs.declared.Manager.{Manager}
use Rattle.manager_rules.proofs.Own.{formed-pool}
use Rattle.manager_rules.proofs.Keeps.{small_with}

-- The layer's reply is the pool's, and no small buffer is held.
pub record SameReply (r : Reply) (q : PoolHandsBack.Reply) : Type 0 where
  pub pool : r.manager.pool ≡ q.pool
  pub outcome : r.outcome ≡ q.outcome
  pub records : r.records ≡ q.records
  pub taken : r.taken ≡ q.taken
  pub none : small r.manager ≡ []

module _ (m : Manager) (w : well_formed m ≡ true) (n : small m ≡ []) where
  same-refused : (o : Outcome) → SameReply (refused m o) (PoolHandsBack.refused m.pool o)
  same-refused o = record { pool = refl; outcome = refl; records = refl; taken = refl; none = n }

  -- 1 to 5 are the pool's, and what the layer leaves after them is what the pool leaves that makes them itself.
  same-admitted : (log : ℕ) (r : Reply) (q : PoolHandsBack.Reply) → SameReply r (PoolHandsBack.admitted m.pool log q) →
      SameReply (admitted m log r) (PoolHandsBack.admitted m.pool log q)
  unfolding admitted PoolHandsBack.admitted
  same-admitted log r q h =
      rw (w, formed-pool m w)
      (go (eqb m.pool.state closed) (eqb m.pool.state stopped) (PoolHandsBack.short_log log) (leb IDS m.pool.counter)
      (rw (formed-pool m w) at h))
    where
      tests : {A : Type 0} → (Outcome → A) → Bool → Bool → Bool → Bool → A → A
      tests f a b c d r = cond a (f PoolClosed) (cond b (f PoolStopped) (cond c (f ShortLog) (cond d (f IdsSpent) r)))

      go : (a b c d : Bool) → SameReply r (tests (PoolHandsBack.refused m.pool) a b c d q) →
          SameReply (tests (refused m) a b c d r) (tests (PoolHandsBack.refused m.pool) a b c d q)
      go true b c d k = same-refused _
      go false true c d k = same-refused _
      go false false true d k = same-refused _
      go false false false true k = same-refused _
      go false false false false k = k

  malloc-same : (k s : ℕ) (xs : List ℕ) (log : ℕ) → SameReply (whole_malloc m k s xs log) (PoolCalls.answer m.pool (mallocs k s) xs log)
  unfolding whole_malloc
  malloc-same k s xs log =
      let r = PoolCalls.answer m.pool (mallocs k s) xs log in
      let q = with_pool m r.pool in
      record {
        pool = either_way (λ z. z.pool ≡ r.pool) (is 0 r.outcome) (grown k q) q refl refl;
        outcome = refl;
        records = refl;
        taken = refl;
        none = either_way (λ z. small z ≡ []) (is 0 r.outcome) (grown k q) q n n;
      }

  free-same : (a : ℕ) (xs : List ℕ) (log : ℕ) → SameReply (whole_free m a xs log) (PoolCalls.answer m.pool (frees a) xs log)
  unfolding whole_free
  free-same a xs log =
      let r = PoolCalls.answer m.pool (frees a) xs log in
      let q = with_pool m r.pool in
      let l = lowered (numbers r.outcome).first q in
      record {
        pool = either_way (λ z. z.pool ≡ r.pool) (is 0 r.outcome) l q refl refl;
        outcome = refl;
        records = refl;
        taken = refl;
        none = either_way (λ z. small z ≡ []) (is 0 r.outcome) l q n n;
      }

  -- A close with no small buffer to drop leaves the pool all answers. Only 17 ends the pool's close early, and leaves the layer as it came.
  close-same : (xs : List ℕ) (log : ℕ) → SameReply (close m xs log) (PoolCalls.answer m.pool closes xs log)
  unfolding close close_served PoolClose.close PoolClose.close_finished
  close-same xs log =
      let t = close_steps xs 0 (at_entry m.pool) in
      rw (w, formed-pool m w, n, le-ltb (length xs / 2) 0 (omega arith))
      (go (eqb m.pool.state closed) (PoolHandsBack.short_log log) t.records t.tables t.ending
      ((close_steps-ends (λ o. is 17 o ≡ true) refl).leaves xs 0 (at_entry m.pool) tt))
    where
      asked : Bool → Bool → PoolHandsBack.Reply → PoolHandsBack.Reply
      asked a c q = cond a (PoolHandsBack.refused m.pool PoolClosed) (cond c (PoolHandsBack.refused m.pool ShortLog) q)

      left : PoolHandsBack.Reply → Reply
      left r = record { manager = cond (is 17 r.outcome) m closed_manager; outcome = r.outcome; records = r.records; taken = 0 + r.taken }

      go : (a c : Bool) (rs : List Record) (t : Tables) (e : Ending (Unit {0})) → After (λ _ _. Unit {0}) (λ o _. is 17 o ≡ true) t e →
          SameReply (cond a (refused m PoolClosed) (cond c (refused m ShortLog) (left (asked a c (PoolClose.close_finished m.pool rs e)))))
          (asked a c (PoolClose.close_finished m.pool rs e))
      go true c rs t e h = same-refused PoolClosed
      go false true rs t e h = same-refused ShortLog
      go false false rs t (on u) h = record { pool = refl; outcome = refl; records = refl; taken = omega arith; none = small_with closed_manager [] }
      go false false rs t (ends o) h =
          record {
            pool = ap (λ b. (cond b m closed_manager).pool) h;
            outcome = refl;
            records = refl;
            taken = omega arith;
            none = ap (λ b. small (cond b m closed_manager)) h ∙ n;
          }

  -- Each call of a layer that holds no small buffer and is asked for none is the pool's, with a malloc's size in whole pages.
  pub without-small : (c : Call) (xs : List ℕ) (log : ℕ) → OfPages m.pool.page c →
      SameReply (answer m c xs log) (PoolCalls.answer m.pool (in_pages m.pool.page c) xs log)
  unfolding malloc free served free_found PoolMalloc.malloc_by PoolFree.free
  without-small (mallocs k s) xs log h =
      same-admitted log _ _ (rw h (malloc-same (rounded m.pool.page k) s xs log))
  without-small (frees a) xs log h = same-admitted log _ _ (rw n (free-same a xs log))
  without-small closes xs log h = close-same xs log

-- the size that is asked of the pool
pub request-whole : (page n k : ℕ) → request page n ≡ whole k → k ≡ rounded page n
unfolding request
request-whole page n k = go (eqb n 0) (ltb n page) (ltb BYTES n || ltb BYTES (rounded page n))
  where
    go : (a b c : Bool) → cond a unfit (cond b smaller (cond c unfit (whole (rounded page n)))) ≡ whole k → k ≡ rounded page n
    go true b c e = let z : ◌≡◌ {A = ℕ} 0 1 = cc in absurd (omega arith)
    go false true c e = let z : ◌≡◌ {A = ℕ} 0 1 = cc in absurd (omega arith)
    go false false true e = let z : ◌≡◌ {A = ℕ} 0 1 = cc in absurd (omega arith)
    go false false false e = cc

-- so a malloc that is whole is one of whole pages
pub whole-of-pages : (page n k s : ℕ) → request page n ≡ whole k → OfPages page (mallocs n s)
whole-of-pages page n k s e = e ∙ ap whole (request-whole page n k e)
