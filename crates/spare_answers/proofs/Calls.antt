-- A call that makes at most 2,048 driver calls does with its first 2,048 answers what it does with all of them.
use mathlib.Core.Path.{◌≡◌, refl, sym, ap, ◌∙◌}
use mathlib.Core.Logic.{⊎_elim}
use mathlib.Core.Bool.{Bool, true, false, cond}
use mathlib.Core.List.{List}
use mathlib.Core.Option.{Option, some, none}
use Prim.Native.Nat.{ℕ, ◌+◌, ◌*◌, ◌≤◌, ◌<◌}
use native.Mathlib.Omega.{arith}
use lib.ListN.{length, take, length-take}
use lib.Seq.{get_or-take}
use Rattle.lists.proofs.Tests.{cases_lt}
use Rattle.words.specs.Answers.{lent}
use Rattle.words.specs.declared.Record.{Record}
use Rattle.words.proofs.Answers.{lent_pair, lent-missing}
use Rattle.tables.specs.Bounds.{LOG}
use Rattle.tables.specs.Values.{Tables, at_entry, no_tables}
use Rattle.tables.specs.Steps.{Step, Went, Ending, on, ends}
use Rattle.tables.specs.HandsBack.{Reply, finished, admitted}
use Rattle.tables.specs.Malloc.{malloc_by, malloc, malloc_steps}
use Rattle.tables.specs.Free.{free, free_found}
use Rattle.tables.specs.Close.{close, close_steps, close_finished}
use Rattle.tables.specs.Calls.{Call, mallocs, frees, closes, answer}
use Rattle.tables.specs.Open.{open_pool, open_steps, open_finished, page_size}
use Rattle.tables.specs.declared.Pool.{Pool}
use Rattle.tables.specs.declared.LiveBuffer.{LiveBuffer}
use Rattle.spare_answers.specs.Hears.{Hears}
use Rattle.spare_answers.proofs.Rules.{hears-malloc, hears-free, hears-close, hears-open}

-- the answers that are kept are those that were lent
pub lent-kept : (xs : List ℕ) (i : ℕ) → i < LOG → lent (take (2 * LOG) xs) i ≡ lent xs i
lent-kept xs i h = ⊎_elim there none-there (cases_lt (2 * i + 1) (length xs))
  where
    there : 2 * i + 1 < length xs → lent (take (2 * LOG) xs) i ≡ lent xs i
    there g =
        lent_pair (take (2 * LOG) xs) i (rw length-take (omega arith))
        ∙ rw (get_or-take (2 * LOG) xs (2 * i) 0 (omega arith), get_or-take (2 * LOG) xs (2 * i + 1) 0 (omega arith))
        (sym (lent_pair xs i g))

    none-there : length xs ≤ 2 * i + 1 → lent (take (2 * LOG) xs) i ≡ lent xs i
    none-there g = lent-missing (take (2 * LOG) xs) i (rw length-take (omega arith)) ∙ sym (lent-missing xs i g)

module _ {A : Type 0} {m : Step A} (h : Hears m) (xs : List ℕ) (t : Tables) where
  pub kept-hears : length (m (take (2 * LOG) xs) 0 t).records ≤ LOG → m (take (2 * LOG) xs) 0 t ≡ m xs 0 t
  kept-hears few = h.hears (take (2 * LOG) xs) xs 0 t (λ i g. lent-kept xs (0 + i) (omega arith))

-- two replies that are the same where the first has at most 2,048 records
record Alike (r s : Reply) : Type 0 where
  alike : length r.records ≤ LOG → r ≡ s

-- the tests before the steps do not look at the answers
alike-cond : (b : Bool) (o : Reply) {r s : Reply} → Alike r s → Alike (cond b o r) (cond b o s)
alike-cond true o a = record { alike = λ h. refl }
alike-cond false o a = a

alike-admitted : (p : Pool) (log : ℕ) {r s : Reply} → Alike r s → Alike (admitted p log r) (admitted p log s)
unfolding admitted
alike-admitted p log a = search alike-cond depth 10

-- what close makes of its steps has their records
pub closed-records : (p : Pool) (rs : List Record) (e : Ending (Unit {0})) → (close_finished p rs e).records ≡ rs
unfolding close_finished
closed-records p rs (on u) = refl
closed-records p rs (ends o) = refl

module _ (xs : List ℕ) where
  alike-malloc : (p : Pool) (n s : ℕ) → Alike (malloc p n s (take (2 * LOG) xs) LOG) (malloc p n s xs LOG)
  unfolding malloc_by finished
  alike-malloc p n s =
      let steps : Alike (finished p (malloc_steps n s (take (2 * LOG) xs) 0 (at_entry p))) (finished p (malloc_steps n s xs 0 (at_entry p))) =
      record { alike = λ h. ap (finished p) (kept-hears (hears-malloc n s) xs (at_entry p) h) } in
      search (alike-admitted, alike-cond) depth 10

  alike-found : (p : Pool) (a : ℕ) (o : Option LiveBuffer) → Alike (free_found p a (take (2 * LOG) xs) o) (free_found p a xs o)
  unfolding free_found finished
  alike-found p a none = record { alike = λ h. refl }
  alike-found p a (some b) = record { alike = λ h. ap (finished p) (kept-hears (hears-free b) xs (at_entry p) h) }

  alike-free : (p : Pool) (a : ℕ) → Alike (free p a (take (2 * LOG) xs) LOG) (free p a xs LOG)
  unfolding free
  alike-free p a = alike-admitted p LOG (alike-found p a _)

  alike-close : (p : Pool) → Alike (close p (take (2 * LOG) xs) LOG) (close p xs LOG)
  unfolding close
  alike-close p =
      let w = close_steps (take (2 * LOG) xs) 0 (at_entry p) in
      let v = close_steps xs 0 (at_entry p) in
      let steps : Alike (close_finished p w.records w.ending) (close_finished p v.records v.ending) =
      record {
        alike = λ h. ap (λ (u : Went (Unit {0})). close_finished p u.records u.ending) (kept-hears hears-close xs (at_entry p) (rw (closed-records p w.records w.ending) at h));
      } in
      search alike-cond depth 10

  alike-open : (granularity override va initial stream : ℕ) → Alike (open_pool granularity override va initial stream (take (2 * LOG) xs) LOG) (open_pool granularity override va initial stream xs LOG)
  unfolding open_pool open_finished
  alike-open granularity override va initial stream =
      let t = no_tables (page_size granularity override) va in
      let steps : Alike (open_finished (open_steps initial stream (take (2 * LOG) xs) 0 t)) (open_finished (open_steps initial stream xs 0 t)) =
      record { alike = λ h. ap open_finished (kept-hears (hears-open initial stream) xs t h) } in
      search alike-cond depth 10

  alike-call : (p : Pool) (c : Call) → Alike (answer p c (take (2 * LOG) xs) LOG) (answer p c xs LOG)
  alike-call p (mallocs n s) = alike-malloc p n s
  alike-call p (frees a) = alike-free p a
  alike-call p closes = alike-close p

  pub call-spare : (p : Pool) (c : Call) → length (answer p c (take (2 * LOG) xs) LOG).records ≤ LOG → answer p c (take (2 * LOG) xs) LOG ≡ answer p c xs LOG
  call-spare p c = (alike-call p c).alike

  pub open-spare : (granularity override va initial stream : ℕ) → length (open_pool granularity override va initial stream (take (2 * LOG) xs) LOG).records ≤ LOG
      → open_pool granularity override va initial stream (take (2 * LOG) xs) LOG ≡ open_pool granularity override va initial stream xs LOG
  open-spare granularity override va initial stream = (alike-open granularity override va initial stream).alike
