-- What the parts of a free hand back, as their rule says. What is freed was held, so that current does not fall below 0.
use mathlib.Core.Path.{◌≡◌, refl, ap, sym, ◌∙◌}
use mathlib.Core.Logic.{⊎_elim}
use mathlib.Core.Bool.{Bool, true, false, cond, ◌||◌}
use mathlib.Core.List.{List, [], ◌∷◌}
use mathlib.Core.Option.{some, none}
use Prim.Native.Nat.{ℕ, ◌+◌, ◌/◌, ◌≤◌, ◌<◌}
use native.Mathlib.Omega.{arith}
use borrow.Author.Tests.{leb-true, eqb-true, eq-eqb, ne_eqb}
use lib.Dec.{leb, eqb}
use lib.ListN.{length, get_or, get_or-eq_default}
use lib.Seq.{get_or-take}
use Rattle.lists.proofs.Tests.{both, cases_lt}
use Rattle.lists.proofs.Members.{member-at, sum-member}
use Rattle.words.specs.Log.{written}
use Rattle.words.specs.Answers.{lent, code_of}
use Rattle.words.specs.declared.Answer.{Answer}
use Rattle.words.specs.declared.Answer.TheVariants.{Done, Failed, Missing}
use Rattle.tables.specs.Values.{closed, stopped}
use Rattle.tables.specs.Outcomes.{numbers, is}
use Rattle.tables.specs.HandsBack as Pool
use Rattle.tables.specs.Free as Pools
use Rattle.tables.specs.Calls.{frees, answer}
use Rattle.tables.specs.declared.Outcome.{Outcome}
use Rattle.tables.specs.declared.Outcome.TheVariants.{Freed, PoolClosed, PoolStopped, NotWellFormed}
use Rattle.std.specs.Prelude.{Ok, Err}
use Rattle.answering.proofs.Live.{free-live}
use Rattle.calls.specs.Promises as Calls
use Rattle.calls.specs.declared.Called.{Called}
use Rattle.cells.specs.Table.{entries}
use Rattle.manager_rules.specs.Values.{SMALLS, empty_small, small, with_pool}
use Rattle.manager_rules.specs.WellFormed.{pointers_nonzero, pointers_distinct, sizes_small, small_bytes, live_bytes, current_held, own_sound, own_kept}
use Rattle.manager_rules.specs.HandsBack.{Reply, refused, of_pool, admitted}
use Rattle.manager_rules.specs.Free.{lowered, whole_free, drop_record, drop_answered, free_found}
use Rattle.manager_rules.specs.declared.Manager as Rules
use Rattle.manager_rules.specs.declared.SmallBuffer.{SmallBuffer}
use Rattle.manager_parts.specs.Promises.{pool_refused}
use Rattle.manager.specs.Handing.{Told, said_with}
use Rattle.manager.specs.Entry.{own_refused}
use Rattle.manager.specs.Behind.{FreesFound}
use Rattle.manager.proofs.Refusals.{not_on}
use Rattle.manager.proofs.Entering.{admitted-same, admitted-goes}
use Rattle.manager.proofs.Served.{One, replies-one, said_of}

-- what passes the layer's own tests
own-tests : (a b k : Bool) → cond a (Err PoolClosed) (cond b (Err PoolStopped) (cond k (Ok (tt {0})) (Err NotWellFormed))) ≡ Ok (tt {0}) → (b ≡ false) × (k ≡ true)
own-tests true b k h = not_on h
own-tests false true k h = not_on h
own-tests false false true h = (refl, refl)
own-tests false false false h = not_on h

module _ (m : Rules.Manager) (h : own_refused m ≡ Ok (tt {0})) where
  own-both : (leb m.small.count SMALLS ≡ true) × (own_sound m ≡ true)
  unfolding own_kept
  own-both =
      let t = own-tests (eqb m.pool.state closed) (eqb m.pool.state stopped) (own_kept m) h in
      let b = both (leb m.small.count SMALLS) (eqb m.pool.state stopped || own_sound m) t.1 in
      (b.0, rw t.0 at b.1)

  pub own-few : m.small.count ≤ SMALLS
  own-few = leb-true m.small.count SMALLS own-both.0

  -- current is what is held
  pub own_held : m.current ≡ small_bytes m + live_bytes m
  unfolding own_sound
  own_held =
      let b = both (pointers_nonzero m) _ own-both.1 in
      let c = both (pointers_distinct m) _ b.1 in
      let d = both (sizes_small m) _ c.1 in
      eqb-true m.current (small_bytes m + live_bytes m) (both (current_held m) (leb m.current m.highest) d.1).0

  -- a small buffer of the table is held
  module _ (at : ℕ) (less : at < m.small.count) where
    pub small_at : get_or (small m) at empty_small ≡ get_or m.small.cells at empty_small
    unfolding entries
    small_at = get_or-take m.small.count m.small.cells at empty_small less

    pub small-held : (get_or (small m) at empty_small).size ≤ m.current
    small-held =
        ⊎_elim (λ inside. omega (arith, own_held, sum-member (λ b. b.size) (get_or (small m) at empty_small) (small m) (member-at (small m) at empty_small inside)))
        (λ beyond. omega (arith, ap (λ (b : SmallBuffer). b.size) (get_or-eq_default (small m) empty_small beyond))) (cases_lt at (length (small m)))

-- The pool's free, and the figure on answer 0.
module _ (m : Rules.Manager) (a : ℕ) (xs : List ℕ) (log : ℕ) (h : own_refused m ≡ Ok (tt {0})) where
  abbrev left_of : Pool.Reply → Reply
  left_of r = let q = with_pool m r.pool in of_pool (cond (is 0 r.outcome) (lowered (numbers r.outcome).first q) q) r

  left-refused : (o : Outcome) → is 0 o ≡ false → left_of (Pool.refused m.pool o) ≡ refused m o
  left-refused o e = rw e

  free-admitted : admitted m log (whole_free m a xs log) ≡ whole_free m a xs log
  unfolding whole_free Pools.free
  free-admitted = admitted-same m log h left_of left-refused _

module _ (m : Rules.Manager) (h : own_refused m ≡ Ok (tt {0})) (a : ℕ) (xs log log' : List ℕ) (c : Called)
    (r : Calls.Replies (answer m.pool (frees a) xs (length log / 4)) c log log') where
  abbrev w : Pool.Reply
  w = answer m.pool (frees a) xs (length log / 4)

  outcome_is : c.outcome ≡ w.outcome
  outcome_is = ap (λ (x : Called). x.outcome) r.answer

  -- what is freed was held
  pub freed-held : (n s : ℕ) → c.outcome ≡ Freed n s → n ≤ m.current
  freed-held n s o =
      let f = free-live m.pool a xs (length log / 4) in
      omega (arith, own_held m h, f.bytes n s (sym outcome_is ∙ o))

  pub frees-done : (n s : ℕ) → c.outcome ≡ Freed n s → FreesFound none m a xs log (lowered n (with_pool m c.pool.value)) (Ok (said_of c)) log'
  unfolding free_found whole_free
  frees-done n s o =
      let e : w.outcome ≡ Freed n s = sym outcome_is ∙ o in
      let u : is 0 w.outcome ≡ true = eq-eqb (numbers w.outcome).number 0 (ap (λ x. (numbers x).number) e) in
      let k : (numbers w.outcome).first ≡ n = ap (λ x. (numbers x).first) e in
      rw (free-admitted m a xs (length log / 4) h) record { answer = rw (r.answer, u, k); cells = r.cells }

  pub frees-other : ((n s : ℕ) → c.outcome ≡ Freed n s → ⊥) → FreesFound none m a xs log (with_pool m c.pool.value) (Ok (said_of c)) log'
  unfolding free_found whole_free
  frees-other nothing =
      let u : is 0 w.outcome ≡ false = other (is 0 w.outcome) refl in
      rw (free-admitted m a xs (length log / 4) h) record { answer = rw (r.answer, u); cells = r.cells }
    where
      other : (b : Bool) → is 0 w.outcome ≡ b → is 0 w.outcome ≡ false
      other false e = e
      other true e = let g = (free-live m.pool a xs (length log / 4)).answered e in absurd (nothing g.0 g.1.0 (outcome_is ∙ g.1.1))

-- A small buffer's free: one record, whatever is answered.
drop-one : (m : Rules.Manager) (b : SmallBuffer) (x : Answer) → One (drop_answered m b x) (drop_record b (code_of x))
unfolding drop_answered
drop-one m b Missing = record { records = refl; taken = refl }
drop-one m b (Failed c) = record { records = refl; taken = refl }
drop-one m b (Done v) = record { records = refl; taken = refl }

module _ (m : Rules.Manager) (h : own_refused m ≡ Ok (tt {0})) (a : ℕ) (xs log : List ℕ) (goes : pool_refused m.pool (length log / 4) ≡ Ok (tt {0})) where
  pub drops-one : {log' : List ℕ} (b : SmallBuffer) (x : Answer) → x ≡ lent xs 0 → (o : Outcome) (m' : Rules.Manager) → Told (drop_answered m b x) o m' →
      log' ≡ written log 0 (drop_record b (code_of x) ∷ []) → FreesFound (some b) m a xs log m' (Ok (said_with o 1)) log'
  unfolding free_found
  drops-one b x l o m' t u =
      rw ((admitted-goes m (length log / 4) h goes).passes (free_found m a xs (length log / 4) (some b)), ← l) (replies-one _ _ o m' (drop-one m b x) t u)
