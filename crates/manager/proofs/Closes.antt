-- What a close hands back, as its rule says. The pool's close, lent the answers behind those of the small buffers, leaves no record just where the layer's close is
-- refused too, and lent none at all it leaves one.
use mathlib.Core.Path.{◌≡◌, refl, ap, sym, ◌∙◌}
use mathlib.Core.Logic.{⊎_elim}
use mathlib.Core.Bool.{Bool, true, false, cond, ◌&&◌, not}
use mathlib.Core.List.{List, [], ◌∷◌, ◌++◌}
use Prim.Native.Nat.{ℕ, ◌+◌, ◌-◌, ◌*◌, ◌/◌, ◌≤◌, ◌<◌, min}
use native.Mathlib.Omega.{arith}
use borrow.Author.Tests.{lt-ltb, le-ltb, ltb-false, leb-true}
use lib.Dec.{leb, eqb}
use lib.ListN.{length, take, drop, length-drop, length-append, drop_of_length-le}
use lib.Seq.{take_all, length-take-le}
use Rattle.lists.proofs.Tests.{both, cases_lt}
use Rattle.words.specs.Log.{written}
use Rattle.words.specs.Answers.{lent}
use Rattle.words.specs.declared.Record.{Record}
use Rattle.words.proofs.Log.{written_none}
use Rattle.tables.specs.Bounds.{LOG, PAGES, ROOTS, ZOMBIES}
use Rattle.tables.specs.Values.{Tables, closed, at_entry}
use Rattle.tables.specs.Steps.{Ending, on, ends, Step, Act, after, tables, nothing, each, ◌>>=◌, ◌>>◌}
use Rattle.tables.specs.Driver.{try, unmap, release, sync, giveback}
use Rattle.tables.specs.NewPages.{at}
use Rattle.tables.specs.Outcomes.{is}
use Rattle.tables.specs.WellFormed.{well_formed}
use Rattle.tables.specs.HandsBack as Pool
use Rattle.tables.specs.Close as Pools
use Rattle.tables.specs.Close.{close_steps, close_finished}
use Rattle.tables.specs.Calls.{closes, answer}
use Rattle.tables.specs.declared.Pool as Tables
use Rattle.tables.specs.declared.Outcome.{Outcome}
use Rattle.tables.specs.declared.Outcome.TheVariants.{PoolClosed, NotWellFormed, ShortLog, AnswersRanOut}
use Rattle.std.specs.Prelude.{Ok, Err}
use Rattle.answering.proofs.Calls.{either_way}
use Rattle.answering.proofs.Few.{close-few}
use Rattle.calls.specs.Promises as Calls
use Rattle.calls.specs.declared.Called.{Called}
use Rattle.cells.specs.Table.{entries}
use Rattle.manager_rules.specs.Values.{SMALLS, small}
use Rattle.manager_rules.specs.WellFormed.{own_kept}
use Rattle.manager_rules.specs.HandsBack.{Reply, refused}
use Rattle.manager_rules.specs.Close.{drops, close_served, close}
use Rattle.manager_rules.specs.declared.Manager as Rules
use Rattle.manager_parts.proofs.Combined.{written_over}
use Rattle.manager_parts.proofs.Drops.{length-drops, length-drops-short}
use Rattle.manager.specs.Entry.{close_refused}
use Rattle.manager.specs.Behind.{Closed, PoolCloses, DropsBefore, closed_with}
use Rattle.manager.specs.declared.Managed.{Managed}
use Rattle.manager.proofs.Refusals.{not_on, hands-refused}

-- a part that begins behind the end is the part that begins there
drop_min : {A : Type 0} (n : ℕ) (l : List A) → drop (min n (length l)) l ≡ drop n l
drop_min n l =
    ⊎_elim (λ h. let e : min n (length l) ≡ n = omega arith in ap (λ k. drop k l) e)
    (λ h. drop_of_length-le l {i = min n (length l)} (omega arith) ∙ sym (drop_of_length-le l {i = n} h)) (cases_lt n (length l))

part-behind : {A : Type 0} (n from : ℕ) (l : List A) → from ≡ min n (length l) → take (length l - from) (drop from l) ≡ drop n l
part-behind n from l e = take_all (length l - from) (drop from l) (omega (arith, length-drop from l)) ∙ ap (λ k. drop k l) e ∙ drop_min n l

-- the pool's close, lent the answers from `from` on
pub pool-closes : (p : Tables.Pool) (n from : ℕ) (xs log : List ℕ) (c : Called) (log' : List ℕ) → from ≡ min (2 * n) (length xs) →
    Calls.Replies (answer p closes (take (length xs - from) (drop from xs)) (length log / 4)) c log log' → PoolCloses p n xs log c log'
pool-closes p n from xs log c log' e r = rw (part-behind (2 * n) from xs e) at r

-- a step's records are left by what goes on from it
then-more : {A B : Type 0} (m : Step A) (f : A → Step B) (xs : List ℕ) (k : ℕ) (t : Tables) → length (m xs k t).records ≤ length ((m >>= f) xs k t).records
unfolding ◌>>=◌
then-more {A} {B} m f xs k t = go (m xs k t).tables (m xs k t).records (m xs k t).ending
  where
    go : (u : Tables) (rs : List Record) (e : Ending A) → length rs ≤ length (after f xs k u rs e).records
    go u rs (on a) = simp length-append (omega arith)
    go u rs (ends o) = omega arith

-- the steps of a close behind the first driver call
abbrev behind : Tables → Act
behind t = do
  each (λ z. try (unmap z.start.0 z.size)) t.zombies
  each (λ g. try (unmap (at g) t.fields.page) >> try (release g.handle.0)) t.pages
  each (λ a. try (giveback a.0 t.fields.va)) t.roots

some-tables : {B : Type 0} (f : Tables → Step B) (xs : List ℕ) (k : ℕ) (t : Tables) → 1 ≤ length (f t xs (k + 0) t).records → 1 ≤ length ((tables >>= f) xs k t).records
unfolding ◌>>=◌
some-tables f xs k t h = h

one-sync : (s : ℕ) (xs : List ℕ) (k : ℕ) (t : Tables) → length (sync s xs k t).records ≡ 1
unfolding sync
one-sync s xs k t = refl

close_steps-some : (xs : List ℕ) (k : ℕ) (t : Tables) → 1 ≤ length (close_steps xs k t).records
unfolding close_steps
close_steps-some xs k t =
    some-tables (λ u. try (sync 0) >> behind u) xs k t
    (omega (
      arith,
      one-sync 0 xs (k + 0) t,
      then-more (sync 0) (λ _. nothing) xs (k + 0) t,
      then-more (try (sync 0)) (λ _. behind t) xs (k + 0) t,
    ))

-- with no answer it ends there
close_steps-one : (t : Tables) → length (close_steps [] 0 t).records ≡ 1
unfolding close_steps ◌>>=◌ sync lent
close_steps-one t = refl

module _ (p : Tables.Pool) where
  finished-records : (rs : List Record) (e : Ending (Unit {0})) → (close_finished p rs e).records ≡ rs
  unfolding close_finished
  finished-records rs (on u) = refl
  finished-records rs (ends o) = refl

  taken-most : (b : Bool) (n : ℕ) → cond b (n - 1) n ≤ n
  taken-most true n = omega arith
  taken-most false n = omega arith

  finished-taken : (rs : List Record) (e : Ending (Unit {0})) → (close_finished p rs e).taken ≤ length (close_finished p rs e).records
  unfolding close_finished
  finished-taken rs (on u) = taken-most false (length rs)
  finished-taken rs (ends o) = taken-most (is 17 o) (length rs)

  -- at most one answer is taken for each record
  pub close-taken : (xs : List ℕ) (log : ℕ) → (answer p closes xs log).taken ≤ length (answer p closes xs log).records
  unfolding Pools.close
  close-taken xs log =
      let K : Pool.Reply → Type 0 = λ r. r.taken ≤ length r.records in
      let w = close_steps xs 0 (at_entry p) in
      either_way K (eqb p.state closed) _ _ (omega arith)
      (either_way K (not (well_formed p)) _ _ (omega arith)
      (either_way K (Pool.short_log log) _ _ (omega arith) (finished-taken w.records w.ending)))

  close-none : (log : ℕ) → length (answer p closes [] log).records ≤ 1
  unfolding Pools.close
  close-none log =
      let K : Pool.Reply → Type 0 = λ r. length r.records ≤ 1 in
      let w = close_steps [] 0 (at_entry p) in
      either_way K (eqb p.state closed) _ _ (omega arith)
      (either_way K (not (well_formed p)) _ _ (omega arith)
      (either_way K (Pool.short_log log) _ _ (omega arith)
      (omega (arith, ap length (finished-records w.records w.ending), close_steps-one (at_entry p)))))

-- The tests of both, in their order.
module _ (m : Rules.Manager) where
  abbrev pools : Pool.Reply → Bool → Bool → Bool → Pool.Reply
  pools w a f d =
      cond a (Pool.refused m.pool PoolClosed)
      (cond (not f) (Pool.refused m.pool NotWellFormed)
      (cond d (Pool.refused m.pool ShortLog) w))

  abbrev layers : Reply → Bool → Bool → Bool → Bool → Reply
  layers r a f k d =
      cond a (refused m PoolClosed)
      (cond (not (f && k)) (refused m NotWellFormed)
      (cond d (refused m ShortLog) r))

  -- no record where it is refused, and otherwise at least one
  record Tells (r : Reply) (w : Pool.Reply) (s : Reply) (room : Bool) : Type 0 where
    none : length w.records ≡ 0 → s ≡ refused m w.outcome
    some : (length w.records ≡ 0 → ⊥) → (s ≡ r) × (room ≡ false)

  tells : (r : Reply) (w : Pool.Reply) → 1 ≤ length w.records → (a f k d : Bool) →
      cond a (Err PoolClosed) (cond k (Ok (tt {0})) (Err NotWellFormed)) ≡ Ok (tt {0}) → Tells r (pools w a f d) (layers r a f k d) d
  tells r w h true f k d o = not_on o
  tells r w h false f false d o = not_on o
  tells r w h false false true d o = record { none = λ _. refl; some = λ n. absurd (n refl) }
  tells r w h false true true true o = record { none = λ _. refl; some = λ n. absurd (n refl) }
  tells r w h false true true false o = record { none = λ e. absurd (omega (arith, h, e)); some = λ _. (refl, refl) }

  close-tells : close_refused m ≡ Ok (tt {0}) → (xs : List ℕ) (log : ℕ) →
      Tells (close_served m xs log) (answer m.pool closes (drop (2 * length (small m)) xs) log) (close m xs log) (Pool.short_log log)
  unfolding close Pools.close
  close-tells h xs log =
      let rest = drop (2 * length (small m)) xs in
      let w = close_steps rest 0 (at_entry m.pool) in
      tells (close_served m xs log) (close_finished m.pool w.records w.ending)
      (omega (arith, ap length (finished-records m.pool w.records w.ending), close_steps-some rest 0 (at_entry m.pool)))
      (eqb m.pool.state closed) (well_formed m.pool) (own_kept m) (Pool.short_log log) h

  own-kept : (a k : Bool) → cond a (Err PoolClosed) (cond k (Ok (tt {0})) (Err NotWellFormed)) ≡ Ok (tt {0}) → k ≡ true
  own-kept true k h = not_on h
  own-kept false true h = refl
  own-kept false false h = not_on h

  pub close_smalls : close_refused m ≡ Ok (tt {0}) → m.small.count ≤ SMALLS
  unfolding own_kept
  close_smalls h = leb-true m.small.count SMALLS (both (leb m.small.count SMALLS) _ (own-kept (eqb m.pool.state closed) (own_kept m) h)).0

-- Behind the pool's close, whose reply is `c`.
module _ (m : Rules.Manager) (h : close_refused m ≡ Ok (tt {0})) (xs log : List ℕ) (c : Called) (log₁ : List ℕ)
    (r : PoolCloses m.pool (length (small m)) xs log c log₁) where
  abbrev l : ℕ
  l = length (small m)

  abbrev w : Pool.Reply
  w = answer m.pool closes (drop (2 * l) xs) (length log / 4)

  records_are : c.records ≡ length w.records
  records_are = ap (λ (x : Called). x.records) r.answer

  -- it wrote few records, and the log has room for those of the small buffers beside them
  pub few-records : c.records ≤ ZOMBIES + 2 * PAGES + ROOTS + 1
  few-records = omega (arith, records_are, close-few m.pool (drop (2 * l) xs) (length log / 4))

  pub few-taken : c.taken ≤ c.records
  few-taken = omega (arith, records_are, ap (λ (x : Called). x.taken) r.answer, close-taken m.pool (drop (2 * l) xs) (length log / 4))

  served : (c.records ≡ 0 → ⊥) → (close m xs (length log / 4) ≡ close_served m xs (length log / 4)) × (Pool.short_log (length log / 4) ≡ false)
  served n = (close-tells m h xs (length log / 4)).some (λ e. n (records_are ∙ e))

  pub has_room : (c.records ≡ 0 → ⊥) → LOG ≤ length log / 4
  has_room n = ltb-false (length log / 4) LOG (served n).1

  pub closes-refused : c.records ≡ 0 → Closed m xs log m (Err c.outcome) log₁
  closes-refused e =
      let z : length w.records ≡ 0 = sym records_are ∙ e in
      let o : c.outcome ≡ w.outcome = ap (λ (x : Called). x.outcome) r.answer in
      hands-refused m c.outcome ((close-tells m h xs (length log / 4)).none z ∙ ap (refused m) (sym o)) (r.cells ∙ no-records w.records z)
    where
      no-records : (rs : List Record) → length rs ≡ 0 → written log 0 rs ≡ log
      no-records [] e = written_none log 0
      no-records (x ∷ rs) e = absurd (omega arith)

  pub closes-short : (c.records ≡ 0 → ⊥) → length xs / 2 < l → (log₂ : List ℕ) → log₂ ≡ written log₁ 0 (drops xs 0 (small m)) →
      (n : ℕ) → n ≡ length (drops xs 0 (small m)) → Closed m xs log m (Ok (record { outcome = AnswersRanOut; records = n; taken = length xs / 2 })) log₂
  unfolding close_served
  closes-short some k log₂ e n s =
      let ds = drops xs 0 (small m) in
      let many = length-drops-short xs (small m) k in
      let t : length xs / 2 ≡ length ds - 1 = omega (arith, many) in
      let none : drop (2 * l) xs ≡ [] = drop_of_length-le xs {i = 2 * l} (omega (arith, k)) in
      let few : length w.records ≤ 1 = rw (← none) at (close-none m.pool (length log / 4)) in
      rw ((served some).0, lt-ltb (length xs / 2) l k)
      record {
        answer = λ i. record { manager = record { value = m }; outcome = AnswersRanOut; records = s i; taken = t i };
        cells = e ∙ ap (λ z. written z 0 ds) r.cells ∙ written_over log w.records ds (omega (arith, few, many));
      }

  pub closes-served : (c.records ≡ 0 → ⊥) → l ≤ length xs / 2 → (log₂ : List ℕ) → DropsBefore (small m) xs c.records log₁ log₂ →
      (q : Rules.Manager) → q ≡ closed_with m c.outcome →
      Closed m xs log q (Ok (record { outcome = c.outcome; records = l + c.records; taken = l + c.taken })) log₂
  unfolding close_served
  closes-served some k log₂ e q s =
      let ds = drops xs 0 (small m) in
      let many : l + length w.records ≡ length (ds ++ w.records) = simp length-append (omega (arith, length-drops xs (small m) k)) in
      rw ((served some).0, le-ltb (length xs / 2) l k)
      record {
        answer = ap (λ z. served_as z c.outcome (l + c.records) (l + c.taken)) s
            ∙ ap (λ (x : Called). served_as (closed_with m x.outcome) x.outcome (l + x.records) (l + x.taken)) r.answer
            ∙ ap (λ i. served_as (closed_with m w.outcome) w.outcome i (l + w.taken)) many;
        cells = e.stand log w.records r.cells (sym records_are);
      }
    where
      served_as : Rules.Manager → Outcome → ℕ → ℕ → Managed
      served_as q o n t = record { manager = record { value = q }; outcome = o; records = n; taken = t }
