-- What the parts of a malloc hand back, as their rule says.
use mathlib.Core.Path.{◌≡◌, refl, ap, sym, ◌∙◌}
use mathlib.Core.Bool.{Bool, true, false, cond}
use mathlib.Core.List.{List, [], ◌∷◌, ◌++◌}
use Prim.Native.Nat.{ℕ, ◌+◌, ◌-◌, ◌/◌, ◌≤◌, ◌<◌, ◌^◌}
use borrow.Author.Tests.{eq-eqb, ne_eqb, le-leb, lt-leb}
use lib.Dec.{leb}
use lib.ListN.{length}
use Rattle.words.specs.Log.{written}
use Rattle.words.specs.Answers.{lent, code_of, value_of}
use Rattle.words.specs.declared.Record.{Record}
use Rattle.words.specs.declared.Answer.{Answer}
use Rattle.words.specs.declared.Answer.TheVariants.{Done, Failed, Missing}
use Rattle.words.specs.declared.Address.{Address}
use Rattle.tables.specs.Values.{address}
use Rattle.tables.specs.Outcomes.{numbers, is}
use Rattle.tables.specs.HandsBack as Pool
use Rattle.tables.specs.Malloc.{malloc_by}
use Rattle.tables.specs.Calls.{mallocs, answer}
use Rattle.tables.specs.declared.Outcome.{Outcome}
use Rattle.tables.specs.declared.Outcome.TheVariants.{Allocated, BadSize, Incredible, SmallBuffersFull}
use Rattle.std.specs.Prelude.{Ok, Err}
use Rattle.answering.proofs.Live.{malloc-live}
use Rattle.calls.specs.Promises as Calls
use Rattle.calls.specs.declared.Called.{Called}
use Rattle.manager_rules.specs.Values.{SMALLS, small_buffer, small, with_pool}
use Rattle.manager_rules.specs.Sizes.{unfit, smaller, whole, request}
use Rattle.manager_rules.specs.HandsBack.{Reply, reply, refused, of_pool, admitted}
use Rattle.manager_rules.specs.Malloc.{grown, whole_malloc, served, small_record, incredible, with_small, stopped_pool, small_answered, small_malloc}
use Rattle.manager_rules.specs.declared.Manager as Rules
use Rattle.manager_parts.specs.Promises.{pool_refused}
use Rattle.manager.specs.Promises.{Replies}
use Rattle.manager.specs.Handing.{Told, said_with, of_said}
use Rattle.manager.specs.Entry.{own_refused}
use Rattle.manager.specs.Behind.{Serves}
use Rattle.manager.specs.declared.Said.{Said}
use Rattle.manager.proofs.Refusals.{hands-refused}
use Rattle.manager.proofs.Entering.{Admitted, admitted-goes, admitted-same, zero-goes}
use Rattle.manager.proofs.Bounds.{whole-fits}

-- A reply with one record: one answer is taken for it, but not at 17.
pub record One (w : Reply) (x : Record) : Type 0 where
  pub records : w.records ≡ x ∷ []
  pub taken : w.taken ≡ cond (is 17 w.outcome) (length w.records - 1) (length w.records)

pub replies-one : (w : Reply) (x : Record) (o : Outcome) (m : Rules.Manager) {l l' : List ℕ} → One w x → Told w o m → l' ≡ written l 0 (x ∷ []) →
    Replies w (of_said m (said_with o 1)) l l'
replies-one w x o m {l} n t u =
    let many : 1 ≡ length w.records = sym (ap length n.records) in
    let taken : (said_with o 1).taken ≡ w.taken =
    ap (λ z. (said_with z 1).taken) t.outcome ∙ ap (λ k. (said_with w.outcome k).taken) many ∙ sym n.taken in
    record {
      answer = λ i. record { manager = record { value = t.manager i }; outcome = t.outcome i; records = many i; taken = taken i };
      cells = u ∙ ap (written l 0) (sym n.records);
    }

-- The pool's malloc, and the figures on answer 0.
module _ (m : Rules.Manager) (k s : ℕ) (xs : List ℕ) (log : ℕ) where
  abbrev made_of : Pool.Reply → Reply
  made_of r = let q = with_pool m r.pool in of_pool (cond (is 0 r.outcome) (grown k q) q) r

  made-refused : (o : Outcome) → is 0 o ≡ false → made_of (Pool.refused m.pool o) ≡ refused m o
  made-refused o e = rw e

  whole-admitted : own_refused m ≡ Ok (tt {0}) → admitted m log (whole_malloc m k s xs log) ≡ whole_malloc m k s xs log
  unfolding whole_malloc malloc_by
  whole-admitted h = admitted-same m log h made_of made-refused _

  whole-goes : (o : Outcome) → o ≡ (answer m.pool (mallocs k s) xs log).outcome → (numbers o).number ≡ 0 → pool_refused m.pool log ≡ Ok (tt {0})
  unfolding malloc_by
  whole-goes o e n = zero-goes m log _ (eq-eqb (numbers (answer m.pool (mallocs k s) xs log).outcome).number 0 (ap (λ x. (numbers x).number) (sym e) ∙ n))

-- what is handed on of the pool's answer
abbrev pub said_of : Called → Said
said_of c = record { outcome = c.outcome; records = c.records; taken = c.taken }

module _ (m : Rules.Manager) (h : own_refused m ≡ Ok (tt {0})) (n k s : ℕ) (xs log log' : List ℕ) (c : Called)
    (a : Calls.Replies (answer m.pool (mallocs k s) xs (length log / 4)) c log log') where
  abbrev w : Pool.Reply
  w = answer m.pool (mallocs k s) xs (length log / 4)

  outcome_is : c.outcome ≡ w.outcome
  outcome_is = ap (λ (x : Called). x.outcome) a.answer

  -- the figures can grow by it
  pub granted-fits : (b : Address) (z : ℕ) → c.outcome ≡ Allocated b z → request m.pool.page n ≡ whole k → m.current + k < 2 ^ 64
  granted-fits b z o e =
      let g = whole-goes m k s xs (length log / 4) c.outcome outcome_is (ap (λ x. (numbers x).number) o) in
      whole-fits m (length log / 4) (admitted-goes m (length log / 4) h g) n k e

  pub serves-granted : (b : Address) (z : ℕ) → c.outcome ≡ Allocated b z → (q : Rules.Manager) → q ≡ grown k (with_pool m c.pool.value) →
      Serves (whole k) m n s xs log q (Ok (said_of c)) log'
  unfolding served whole_malloc
  serves-granted b z o q e =
      let u : is 0 w.outcome ≡ true = eq-eqb (numbers w.outcome).number 0 (ap (λ x. (numbers x).number) (sym outcome_is ∙ o)) in
      rw (whole-admitted m k s xs (length log / 4) h) record { answer = rw (e, a.answer, u); cells = a.cells }

  pub serves-other : ((b : Address) (z : ℕ) → c.outcome ≡ Allocated b z → ⊥) → Serves (whole k) m n s xs log (with_pool m c.pool.value) (Ok (said_of c)) log'
  unfolding served whole_malloc
  serves-other none =
      let u : is 0 w.outcome ≡ false = other (is 0 w.outcome) refl in
      rw (whole-admitted m k s xs (length log / 4) h) record { answer = rw (a.answer, u); cells = a.cells }
    where
      other : (b : Bool) → is 0 w.outcome ≡ b → is 0 w.outcome ≡ false
      other false e = e
      other true e = let g = (malloc-live m.pool k s xs (length log / 4)).answered e in absurd (none g.0 k (outcome_is ∙ g.1))

-- The driver's answer to a small buffer: one record, whatever it is.
module _ (m : Rules.Manager) (n s : ℕ) where
  small-one : (x : Answer) → One (small_answered m n s x) (small_record (value_of x) n (code_of x))
  unfolding small_answered
  small-one Missing = record { records = refl; taken = refl }
  small-one (Failed c) = record { records = refl; taken = refl }
  small-one (Done a) = go (incredible m a)
    where
      go : (b : Bool) → One (cond b (reply (with_pool m (stopped_pool m.pool)) Incredible (small_record a n 0 ∷ []))
          (reply (grown n (with_small m (small m ++ small_buffer a n s ∷ []))) (Allocated (address a) n) (small_record a n 0 ∷ [])))
          (small_record a n 0)
      go true = record { records = refl; taken = refl }
      go false = record { records = refl; taken = refl }

module _ (m : Rules.Manager) (n s : ℕ) (xs log : List ℕ) (a : Admitted m (length log / 4)) where
  -- 6
  pub serves-unfit : {log' : List ℕ} → log' ≡ log → Serves unfit m n s xs log m (Err (BadSize n)) log'
  unfolding served
  serves-unfit u = hands-refused m (BadSize n) (a.passes _) u

  -- 20
  pub serves-full : {log' : List ℕ} → SMALLS ≤ m.small.count → log' ≡ log → Serves smaller m n s xs log m (Err SmallBuffersFull) log'
  unfolding served small_malloc
  serves-full h u =
      let q : leb SMALLS m.small.count ≡ true = le-leb SMALLS m.small.count h in
      hands-refused m SmallBuffersFull (a.passes _ ∙ (rw q)) u

  pub serves-small : {log' : List ℕ} → m.small.count < SMALLS → (x : Answer) → x ≡ lent xs 0 → (o : Outcome) (m' : Rules.Manager) →
      Told (small_answered m n s x) o m' → log' ≡ written log 0 (small_record (value_of x) n (code_of x) ∷ []) →
      Serves smaller m n s xs log m' (Ok (said_with o 1)) log'
  unfolding served small_malloc
  serves-small h x l o m' t u =
      let q : leb SMALLS m.small.count ≡ false = lt-leb SMALLS m.small.count h in
      rw (a.passes (small_malloc m n s xs), q, ← l) (replies-one _ _ o m' (small-one m n s x) t u)
