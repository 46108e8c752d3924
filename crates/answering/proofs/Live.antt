-- What a malloc and a free leave of the live buffers. No rule changes them but handing over, which puts one in by address, and free's first line, which takes
-- one out; and a list in order comes out of the pool that is left as it went in.
use mathlib.Core.Path.{◌≡◌, refl, ap, sym, ◌∙◌}
use mathlib.Core.Bool.{Bool, true, false, false≢true, cond, ◌||◌, not}
use mathlib.Core.List.{List, [], ◌∷◌}
use mathlib.Core.Option.{Option, some, none}
use Prim.Native.Nat.{ℕ, ◌+◌, ◌%◌}
use native.Mathlib.Omega.{arith}
use borrow.Author.Tests.{eqb-true}
use lib.Dec.{leb, eqb}
use Rattle.lists.specs.Tests.{Member, first}
use Rattle.lists.specs.Order.{put, without, Ascends}
use Rattle.lists.specs.Walks.{sum}
use Rattle.lists.proofs.Order.{sum-put, put-ascends, sorted-ascends, sorted-same, rises-ascends}
use Rattle.lists.proofs.Members.{member-first, rises-without, sum-without}
use Rattle.words.specs.declared.Address.{Address}
use Rattle.tables.specs.Bounds.{SPANS}
use Rattle.tables.specs.Values.{Tables, address, buffer, opened, stopped, tables_of, in_order, pool_of, at_entry}
use Rattle.tables.specs.Steps.{Ending, on, ends, Went}
use Rattle.tables.specs.Outcomes.{is}
use Rattle.tables.specs.HandsBack.{refused, outcome_of, pool_after, finished}
use Rattle.tables.specs.InsertFree.{from}
use Rattle.tables.specs.Malloc.{hand_over, malloc_steps, malloc_by}
use Rattle.tables.specs.Free.{free_steps, free_found, free}
use Rattle.tables.specs.Calls.{mallocs, frees, answer}
use Rattle.tables.specs.declared.FreeRegion.{FreeRegion}
use Rattle.tables.specs.declared.LiveBuffer.{LiveBuffer}
use Rattle.tables.specs.declared.Pool.{Pool}
use Rattle.tables.specs.declared.Outcome.{Outcome}
use Rattle.tables.specs.declared.Outcome.TheVariants.{Allocated, Freed}
use Rattle.tables.proofs.Packs.{tables-pool}
use Rattle.keeping.specs.Holds.{After, Holds}
use Rattle.keeping.proofs.WellFormedEnters.{Entered}
use Rattle.keeping.proofs.Holds.{holds-from, holds_then, holds-give, holds-change}
use Rattle.answering.specs.Answers.{among}
use Rattle.answering.specs.Live.{live, MallocLeavesLive, out_of_live, FreeLeavesLive}
use Rattle.answering.proofs.Rules.{cleanup-stays, fit_stays, insert_free-stays, or_room-stays}
use Rattle.answering.proofs.Calls.{either_way, admitted_by, admitted-entered}

-- where a live buffer starts
abbrev at : LiveBuffer → ℕ
at b = b.start.0

-- What a step that went on or ended a call leaves, by its outcome.
by-outcome : (G : Outcome → Tables → Type 0) (t : Tables) (e : Ending Outcome) → After G G t e → G (outcome_of e) t
by-outcome G t (on o) h = h
by-outcome G t (ends o) h = h

-- a list in order is read as it was put in
pub live-read : (state : ℕ) (t : Tables) → Ascends at 0 t.live → live (pool_of state t) ≡ t.live
unfolding in_order
live-read state t h = ap (λ u. (in_order u).live) (tables-pool state t) ∙ sorted-same at 0 t.live h

live-ascends : (p : Pool) → Ascends at 0 (live p)
unfolding in_order
live-ascends p = sorted-ascends at (tables_of p).live

-- live buffers that no step changed are the pool's
live-after : (p : Pool) (t : Tables) (o : Outcome) → t.live ≡ live p → live (pool_after p t o) ≡ live p
live-after p t o e =
    either_way (λ q. live q ≡ live p) (is 17 o) p _ refl
    (live-read (cond (is 14 o || is 15 o) stopped opened) t (rw e (live-ascends p)) ∙ e)

-- The steps of a malloc, from tables whose live buffers are `l`.
record Mallocs (l : List LiveBuffer) (n s : ℕ) (o : Outcome) (t : Tables) : Type 0 where
  answered : is 0 o ≡ true → (a : Address) × (o ≡ Allocated a n)
  size : (a : Address) (k : ℕ) → o ≡ Allocated a k → k ≡ n
  granted : (a : Address) (k : ℕ) → o ≡ Allocated a k → t.live ≡ put at (buffer a.0 n s) l
  otherwise : is 0 o ≡ false → t.live ≡ l

module _ (l : List LiveBuffer) (n s : ℕ) where
  -- an end that is no success
  mallocs-end : (o : Outcome) → is 0 o ≡ false → (t : Tables) → t.live ≡ l → Mallocs l n s o t
  mallocs-end o h t e =
      record {
        answered = λ q. absurd (false≢true (sym h ∙ q));
        size = λ a k q. absurd (false≢true (sym h ∙ ap (is 0) q));
        granted = λ a k q. absurd (false≢true (sym h ∙ ap (is 0) q));
        otherwise = λ _. e;
      }

  mallocs-on : (b : ℕ) (t : Tables) → t.live ≡ put at (buffer b n s) l → Mallocs l n s (Allocated (address b) n) t
  mallocs-on b t e =
      record {
        answered = λ _. (address b, refl);
        size = λ a k q. cc;
        granted = λ a k q. let r : address b ≡ a = cc in e ∙ ap (λ c. put at (buffer c.0 n s) l) r;
        otherwise = λ q. absurd (false≢true (sym q));
      }

  hands-over : (r : FreeRegion) → Holds (λ t. t.live ≡ l) (hand_over n s r) (Mallocs l n s) (Mallocs l n s)
  unfolding hand_over
  hands-over r =
      holds_then (λ _ t. t.live ≡ l) (holds-change _ (λ _ e. e)) (λ _.
      holds_then (λ _ t. t.live ≡ l) (holds-change _ (λ _ e. e)) (λ _.
      holds_then (λ _ t. t.live ≡ put at (buffer (from r) n s) l) (holds-change _ (λ _ e. ap (put at (buffer (from r) n s)) e)) (λ _.
      holds-from (mallocs-on (from r)) (holds-give (Allocated (address (from r)) n)))))

  mallocs-live : Holds (λ t. t.live ≡ l) (malloc_steps n s) (Mallocs l n s) (Mallocs l n s)
  unfolding malloc_steps
  mallocs-live =
      let P : ℕ → List LiveBuffer → Type 0 = λ _ m. m ≡ l in
      let F = Mallocs l n s in
      let short = mallocs-end _ refl in
      holds_then (λ _ t. t.live ≡ l) (cleanup-stays P F short) (λ _.
      holds_then (λ _ t. t.live ≡ l) (fit_stays P F short n s) (λ o.
      holds_then (λ _ t. t.live ≡ l)
      (or_room-stays P F short (λ _. mallocs-end _ refl) (λ _ _. mallocs-end _ refl) (mallocs-end _ refl) (λ _ _. mallocs-end _ refl)
      (λ _ _. mallocs-end _ refl) (mallocs-end _ refl) (mallocs-end _ refl) (mallocs-end _ refl) n s o)
      hands-over))

module _ (p : Pool) (n s : ℕ) where
  malloc-refused : (o : Outcome) → is 0 o ≡ false → MallocLeavesLive p n s (refused p o)
  malloc-refused o h =
      record {
        answered = λ q. absurd (false≢true (sym h ∙ q));
        size = λ a k q. absurd (false≢true (sym h ∙ ap (is 0) q));
        granted = λ a k q. absurd (false≢true (sym h ∙ ap (is 0) q));
        bytes = λ a k q. absurd (false≢true (sym h ∙ ap (is 0) q));
        otherwise = λ _. refl;
      }

  malloc-finished : (w : Went Outcome) → Mallocs (live p) n s (outcome_of w.ending) w.tables → MallocLeavesLive p n s (finished p w)
  unfolding finished
  malloc-finished w h =
      record {
        answered = h.answered;
        size = h.size;
        granted = granted;
        bytes = λ a k q.
            omega (arith, ap (sum (λ b. b.size)) (granted a k q), sum-put at (λ b. b.size) (buffer a.0 n s) (live p));
        otherwise = λ q. live-after p w.tables (outcome_of w.ending) (h.otherwise q);
      }
    where
      -- a success leaves the pool open
      granted : (a : Address) (k : ℕ) → outcome_of w.ending ≡ Allocated a k →
          live (pool_after p w.tables (outcome_of w.ending)) ≡ put at (buffer a.0 n s) (live p)
      granted a k q =
          let t = w.tables in
          let e = h.granted a k q in
          ap (λ o. live (pool_after p t o)) q
          ∙ live-read opened t (rw e (put-ascends at 0 (buffer a.0 n s) (live p) (omega arith) (live-ascends p)))
          ∙ e

-- What a malloc leaves of the live buffers, of any pool and whatever it is handed and answered.
pub malloc-live : (p : Pool) (n s : ℕ) (xs : List ℕ) (log : ℕ) → MallocLeavesLive p n s (answer p (mallocs n s) xs log)
unfolding malloc_by
malloc-live p n s xs log =
    let K = MallocLeavesLive p n s in
    let no = malloc-refused p n s in
    let w = malloc_steps n s xs 0 (at_entry p) in
    admitted_by K p log _ (no _ refl) (no _ refl) (no _ refl) (no _ refl) (no _ refl)
    (either_way K (eqb n 0 || not (eqb (n % p.page) 0)) _ _ (no _ refl)
    (either_way K (leb SPANS (p.free.count + p.live.count)) _ _ (no _ refl)
    (malloc-finished p n s w
    (by-outcome (Mallocs (live p) n s) w.tables w.ending ((mallocs-live (live p) n s).leaves xs 0 (at_entry p) refl)))))

-- The steps of a free of the buffer `b`, from tables whose live buffers are `l`.
record Frees (l : List LiveBuffer) (b : LiveBuffer) (o : Outcome) (t : Tables) : Type 0 where
  answered : is 0 o ≡ true → o ≡ Freed b.size b.stream
  freed : (k s : ℕ) → o ≡ Freed k s → (b.size ≡ k) × (b.stream ≡ s)
  rest : is 0 o ≡ true → t.live ≡ without at (at b) l
  otherwise : among out_of_live o ≡ false → is 17 o ≡ true

module _ (l : List LiveBuffer) (b : LiveBuffer) where
  frees-end : (o : Outcome) → is 0 o ≡ false → (among out_of_live o ≡ false → is 17 o ≡ true) → (t : Tables) → t.live ≡ without at (at b) l → Frees l b o t
  frees-end o h f t e =
      record {
        answered = λ q. absurd (false≢true (sym h ∙ q));
        freed = λ k s q. absurd (false≢true (sym h ∙ ap (is 0) q));
        rest = λ q. absurd (false≢true (sym h ∙ q));
        otherwise = f;
      }

  frees-on : (t : Tables) → t.live ≡ without at (at b) l → Frees l b (Freed b.size b.stream) t
  frees-on t e = record { answered = λ _. refl; freed = λ k s q. (cc, cc); rest = λ _. e; otherwise = λ q. absurd (false≢true (sym q)) }

  frees-live : Holds (λ t. t.live ≡ l) (free_steps b) (Frees l b) (Frees l b)
  unfolding free_steps
  frees-live =
      let m = without at (at b) l in
      holds_then (λ _ t. t.live ≡ m) (holds-change _ (λ _ e. ap (without at (at b)) e)) (λ _.
      holds_then (λ _ t. t.live ≡ m)
      (insert_free-stays (λ _ k. k ≡ m) (Frees l b) (frees-end _ refl (λ _. refl)) (λ _. frees-end _ refl (λ q. absurd (false≢true (sym q))))
      (at b) b.size b.stream) (λ _.
      holds-from frees-on (holds-give (Freed b.size b.stream))))

module _ (p : Pool) (a : ℕ) where
  free-refused : (o : Outcome) → is 0 o ≡ false → FreeLeavesLive p a (refused p o)
  free-refused o h =
      record {
        answered = λ q. absurd (false≢true (sym h ∙ q));
        freed = λ k s q. absurd (false≢true (sym h ∙ ap (is 0) q));
        bytes = λ k s q. absurd (false≢true (sym h ∙ ap (is 0) q));
        otherwise = λ _. refl;
      }

  free-finished : Entered p → (b : LiveBuffer) → Member b (live p) → at b ≡ a → (w : Went Outcome) →
      Frees (live p) b (outcome_of w.ending) w.tables → FreeLeavesLive p a (finished p w)
  unfolding finished
  free-finished h b m e w f =
      record {
        answered = λ q. (b.size, (b.stream, f.answered q));
        freed = λ k s q. record { taken = b; member = m; start = e; size = (f.freed k s q).0; stream = (f.freed k s q).1; rest = rw e at (rest k s q) };
        bytes = λ k s q.
            omega (
              arith,
              ap (sum (λ c. c.size)) (rest k s q),
              sum-without at (λ c. c.size) 0 b (live p) h.kept.sound.live_rises m,
              (f.freed k s q).0,
            );
        otherwise = λ q. rw (f.otherwise q);
      }
    where
      rest : (k s : ℕ) → outcome_of w.ending ≡ Freed k s →
          live (pool_after p w.tables (outcome_of w.ending)) ≡ without at (at b) (live p)
      rest k s q =
          let t = w.tables in
          let r = f.rest (ap (is 0) q) in
          ap (λ o. live (pool_after p t o)) q
          ∙ live-read opened t (rw r (rises-ascends at 0 (without at (at b) (live p)) (rises-without at (at b) 0 (live p) h.kept.sound.live_rises)))
          ∙ r

-- the first that passes a test passes it
first_passes : {A : Type 0} (p : A → Bool) (x : A) (l : List A) → first p l ≡ some x → p x ≡ true
first_passes p x [] e = let z : ◌≡◌ {A = ℕ} 0 1 = cc in absurd (omega arith)
first_passes p x (y ∷ l) e = go (p y) refl e (first_passes p x l)
  where
    go : (b : Bool) → p y ≡ b → cond b (some y) (first p l) ≡ some x → (first p l ≡ some x → p x ≡ true) → p x ≡ true
    go true q r f = let z : y ≡ x = cc in rw z at q
    go false q r f = f r

-- What a free leaves of the live buffers, of any pool and whatever it is handed and answered.
pub free-live : (p : Pool) (a : ℕ) (xs : List ℕ) (log : ℕ) → FreeLeavesLive p a (answer p (frees a) xs log)
unfolding free free_found
free-live p a xs log =
    let no = free-refused p a in
    admitted-entered (FreeLeavesLive p a) p log _ (no _ refl) (no _ refl) (no _ refl) (no _ refl) (no _ refl) (found (first starts (live p)) refl)
  where
    starts : LiveBuffer → Bool
    starts b = eqb b.start.0 a

    found : (o : Option LiveBuffer) → first starts (live p) ≡ o → Entered p → FreeLeavesLive p a (free_found p a xs o)
    found none e h = free-refused p a _ refl
    found (some b) e h =
        let w = free_steps b xs 0 (at_entry p) in
        free-finished p a h b (member-first starts b (live p) e) (eqb-true (at b) a (first_passes starts b (live p) e)) w
        (by-outcome (Frees (live p) b) w.tables w.ending ((frees-live (live p) b).leaves xs 0 (at_entry p) refl))
