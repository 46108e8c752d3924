-- A malloc and a free leave the page size as it was: no rule changes it.
use mathlib.Core.Path.{◌≡◌, refl}
use mathlib.Core.Bool.{cond, ◌||◌, not}
use mathlib.Core.List.{List}
use mathlib.Core.Option.{Option, some, none}
use Prim.Native.Nat.{ℕ, ◌+◌, ◌%◌}
use lib.Dec.{leb, eqb}
use Rattle.lists.specs.Tests.{first}
use Rattle.tables.specs.Bounds.{SPANS}
use Rattle.tables.specs.Values.{Tables, opened, stopped, at_entry, pool_of}
use Rattle.tables.specs.Steps.{Ending, on, ends, Went}
use Rattle.tables.specs.Outcomes.{is}
use Rattle.tables.specs.HandsBack.{Reply, outcome_of, finished}
use Rattle.tables.specs.Malloc.{hand_over, malloc_steps, malloc_by}
use Rattle.tables.specs.Free.{free_steps, free_found, free}
use Rattle.tables.specs.Calls.{mallocs, frees, answer}
use Rattle.tables.specs.declared.FreeRegion.{FreeRegion}
use Rattle.tables.specs.declared.LiveBuffer.{LiveBuffer}
use Rattle.tables.specs.declared.Pool.{Pool}
use Rattle.tables.specs.declared.Outcome.{Outcome}
use Rattle.keeping.specs.Holds.{After}
use Rattle.keeping.proofs.WellFormedEnters.{entry-page}
use Rattle.answering.proofs.Stays.{Stays, stays_then, stays-give, stays-change}
use Rattle.answering.proofs.Rules.{cleanup-stays, fit_stays, insert_free-stays, or_room-stays}
use Rattle.answering.proofs.Calls.{either_way, admitted_by}

-- the page size is `g`
abbrev Sized : ℕ → Tables → Type 0
Sized g t = t.fields.page ≡ g

-- the steps keep it, and end a call only where it is kept
abbrev KeepsSize : {A : Type 0} → ℕ → (List ℕ → ℕ → Tables → Went A) → Type 0
KeepsSize g m = Stays (Sized g) (λ _. Sized g) m

module _ (g : ℕ) where
  abbrev OfSize : ℕ → List LiveBuffer → Type 0
  OfSize page l = page ≡ g

  hands-over : (n s : ℕ) (r : FreeRegion) → KeepsSize g (hand_over n s r)
  unfolding hand_over
  hands-over n s r =
      stays_then (stays-change _ (λ _ h. h)) (λ _.
      stays_then (stays-change _ (λ _ h. h)) (λ _.
      stays_then (stays-change _ (λ _ h. h)) (λ _. stays-give _)))

  mallocs-size : (n s : ℕ) → KeepsSize g (malloc_steps n s)
  unfolding malloc_steps
  mallocs-size n s =
      let F : Outcome → Tables → Type 0 = λ _. Sized g in
      let k : (t : Tables) → Sized g t → Sized g t = λ t h. h in
      stays_then (cleanup-stays OfSize F k) (λ _.
      stays_then (fit_stays OfSize F k n s) (λ o.
      stays_then (or_room-stays OfSize F k (λ _. k) (λ _ _. k) k (λ _ _. k) (λ _ _. k) k k k n s o) (hands-over n s)))

  frees-size : (b : LiveBuffer) → KeepsSize g (free_steps b)
  unfolding free_steps
  frees-size b =
      let k : (t : Tables) → Sized g t → Sized g t = λ t h. h in
      stays_then (stays-change _ (λ _ h. h)) (λ _.
      stays_then (insert_free-stays OfSize (λ _. Sized g) k (λ _. k) b.start.0 b.size b.stream) (λ _. stays-give _))

-- whichever way the steps went
either-ending : (g : ℕ) (t : Tables) (e : Ending Outcome) → After (λ _. Sized g) (λ _. Sized g) t e → Sized g t
either-ending g t (on o) h = h
either-ending g t (ends o) h = h

finished-size : (p : Pool) (w : Went Outcome) → Sized p.page w.tables → (finished p w).pool.page ≡ p.page
unfolding finished pool_of
finished-size p w h =
    let o = outcome_of w.ending in
    either_way (λ q. q.page ≡ p.page) (is 17 o) p (pool_of (cond (is 14 o || is 15 o) stopped opened) w.tables) refl h

pub malloc-page : (p : Pool) (n s : ℕ) (xs : List ℕ) (log : ℕ) → (answer p (mallocs n s) xs log).pool.page ≡ p.page
unfolding malloc_by
malloc-page p n s xs log =
    let K : Reply → Type 0 = λ r. r.pool.page ≡ p.page in
    let w = malloc_steps n s xs 0 (at_entry p) in
    admitted_by K p log _ refl refl refl refl refl
    (either_way K (eqb n 0 || not (eqb (n % p.page) 0)) _ _ refl
    (either_way K (leb SPANS (p.free.count + p.live.count)) _ _ refl
    (finished-size p w (either-ending p.page w.tables w.ending ((mallocs-size p.page n s).leaves xs 0 (at_entry p) (entry-page p))))))

pub free-page : (p : Pool) (a : ℕ) (xs : List ℕ) (log : ℕ) → (answer p (frees a) xs log).pool.page ≡ p.page
unfolding free free_found
free-page p a xs log = admitted_by (λ r. r.pool.page ≡ p.page) p log _ refl refl refl refl refl (found (first (λ b. eqb b.start.0 a) (at_entry p).live))
  where
    found : (o : Option LiveBuffer) → (free_found p a xs o).pool.page ≡ p.page
    found none = refl
    found (some b) =
        let w = free_steps b xs 0 (at_entry p) in
        finished-size p w (either-ending p.page w.tables w.ending ((frees-size p.page b).leaves xs 0 (at_entry p) (entry-page p)))
