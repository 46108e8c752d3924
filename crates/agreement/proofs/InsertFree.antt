-- Insert free: its one record is that of the counter's id, which is above all before it; the pages of the range, which were mapped in hand, are then those
-- of a free region.
use mathlib.Core.Path.{◌≡◌, refl, ap, sym, subst}
use mathlib.Core.Bool.{not}
use mathlib.Core.List.{List}
use Prim.Native.Nat.{ℕ, ◌+◌}
use native.Mathlib.Omega.{arith}
use Rattle.lists.specs.Tests.{filter}
use Rattle.words.specs.declared.Word.TheVariants.{Record as RecordEvent}
use Rattle.tables.specs.Values.{Tables, with_free, with_counter}
use Rattle.tables.specs.Driver.{record_event}
use Rattle.tables.specs.InsertFree.{put_free, merges, merged, insert_free}
use Rattle.tables.specs.declared.FreeRegion.{FreeRegion}
use Rattle.tables.specs.declared.LiveBuffer.{LiveBuffer}
use Rattle.tables.specs.declared.Outcome.{Outcome}
use Rattle.keeping.specs.Cover.{within}
use Rattle.keeping.specs.Sound.{Sound, Left}
use Rattle.keeping.proofs.InsertFree.{Inserting, Inserted, inserts-free-and, inserts-free}
use Rattle.judge_rules.specs.Rules.{Judge}
use Rattle.judge_rules.specs.Verdict.{recorded, ruled, with_last}
use Rattle.judge_rules.specs.declared.Run.{Run}
use Rattle.agreement.specs.Agrees.{Serving, Agrees, Agreeing}
use Rattle.agreement.specs.Judges.{Judges}
use Rattle.agreement.proofs.Judges.{judges-from, judges_to, judges-ends, judges-named, judges-and, judges_then, judges-give, judges-known, judges-change}
use Rattle.agreement.proofs.Words.{Accepts, judges-must}
use Rattle.agreement.proofs.Meets.{agrees-inside, agrees-seen, agrees-recorded}
use Rattle.agreement.proofs.Agrees.{agrees_beside, agrees-counted}

module _ {run : Run} (serving : Serving run) where
  -- the tables `u` with another free table and the next counter, the state `v` with the counter's id recorded
  record Recorded (u : Tables) (v : Judge) (t : Tables) (s : Judge) : Type 0 where
    tables : t ≡ with_counter (u.fields.counter + 1) (with_free t.free u)
    state : s ≡ with_last v u.fields.counter

  module _ {new : ℕ → ℕ} {spare : List ℕ} {live : List LiveBuffer} (a n c : ℕ) (u : Tables) (v : Judge) (g : Agrees run new spare live u v) where
    accepts : Accepts RecordEvent u.fields.counter c v (λ s. s ≡ with_last v u.fields.counter)
    unfolding recorded ruled
    accepts =
        record {
          inside = agrees-inside serving g;
          state = with_last v u.fields.counter;
          accepts = rw (agrees-seen serving g, agrees-recorded serving g);
          holds = refl;
        }

    records : {E : Outcome → Tables → Judge → Type 0} → Judges (λ t s. (t ≡ u) × (s ≡ v)) (insert_free a n c) (λ _. Recorded u v) E
    unfolding insert_free record_event
    records =
        let far : Judge = with_last v u.fields.counter in
        judges-known u (λ w e. rw e
        (judges_then (λ _ t s. (t ≡ with_free t.free u) × (s ≡ v)) (judges-change _ (λ t s q. (ap (with_free (filter (λ r. not (merges a n c r)) t.free)) q.0, q.1))) (λ _.
        judges_then (λ _ t s. (t ≡ with_free t.free u) × (s ≡ far))
        (judges-must RecordEvent u.fields.counter c (λ _. refl) (λ t s q few. subst (λ s. Accepts RecordEvent u.fields.counter c s (λ z. (t ≡ with_free t.free u) × (z ≡ far))) (sym q.1) (told t q.0))) (λ _.
        judges_then (λ _ t s. (t ≡ with_free t.free u) × (s ≡ far)) (judges-change _ (λ t s q. (ap (λ x. with_free (put_free (merged a n c u.fields.counter (filter (merges a n c) u.free)) x.free) x) q.0, q.1))) (λ _.
        judges_then (λ _. Recorded u v) (judges-change _ (λ t s q. record { tables = ap (λ x. with_counter (x.fields.counter + 1) x) q.0; state = q.1 })) (λ _.
        judges-give _))))))
      where
        told : (t : Tables) → t ≡ with_free t.free u → Accepts RecordEvent u.fields.counter c v (λ z. (t ≡ with_free t.free u) × (z ≡ with_last v u.fields.counter))
        told t e = record { inside = accepts.inside; state = accepts.state; accepts = accepts.accepts; holds = (e, accepts.holds) }

  -- The range is in hand, and its pages are mapped; then they are part of the free region `r`.
  pub judges-insert_free : (lost hand bare new : ℕ → ℕ) (p f a n c : ℕ) (l : List FreeRegion) (spare : List ℕ) (live : List LiveBuffer)
      {E : Outcome → Tables → Judge → Type 0} →
      Judges (λ t s. Inserting lost hand bare p f a n l t × Agrees run (λ x. new x + within a n x) spare live t s) (insert_free a n c)
      (λ r t s. Inserted lost hand bare p f a n c l r t × Agrees run new spare live t s) (λ o t s. Left lost o t × E o t s)
  judges-insert_free lost hand bare new p f a n c l spare live {E} =
      judges-named (λ u v q.
      judges-from (λ t s e. (rw e.0 q.0, e))
      (judges_to (λ r t s h. (h.0, settled u v q.0 q.1 r t s h))
      (judges-and (inserts-free lost hand bare p f a n c l) (judges-from (λ t s e. e.1) (records a n c u v q.1)))))
    where
      settled : (u : Tables) (v : Judge) → Inserting lost hand bare p f a n l u → Agrees run (λ x. new x + within a n x) spare live u v → (r : FreeRegion) (t : Tables) (s : Judge) →
          Inserted lost hand bare p f a n c l r t × Recorded u v t s → Agrees run new spare live t s
      settled u v i g r t s (d, h) =
          let m : Tables = with_counter (u.fields.counter + 1) (with_free t.free u) in
          let sound : Sound lost hand bare m = subst (Sound lost hand bare) h.tables d.sound in
          let moved : Agrees run new spare live (with_free t.free u) v =
          agrees_beside new g (record { page = refl; va = refl; counter = refl; pages = refl; roots = refl })
          (λ x e. omega (arith, i.sound.pages_match x e, sound.pages_match x e)) in
          subst (λ t. Agrees run new spare live t s) (sym h.tables) (subst (Agrees run new spare live m) (sym h.state) (agrees-counted moved))

  -- The same where the judge knows of the buffers in the live table, which stays.
  pub judges-insert_free-agreeing : (lost hand bare new : ℕ → ℕ) (p f a n c : ℕ) (l : List FreeRegion) (spare : List ℕ) {E : Outcome → Tables → Judge → Type 0} →
      Judges (λ t s. Inserting lost hand bare p f a n l t × Agreeing run (λ x. new x + within a n x) spare t s) (insert_free a n c)
      (λ r t s. Inserted lost hand bare p f a n c l r t × Agreeing run new spare t s) (λ o t s. Left lost o t × E o t s)
  judges-insert_free-agreeing lost hand bare new p f a n c l spare {E} =
      judges-named (λ u v q.
      judges-from (λ t s e. rw (e.0, e.1) ((q.0, refl), q))
      (judges_to (λ r t s h. (h.0.0, subst (λ bs. Agrees run new spare bs t s) (sym h.0.1) h.1.1))
      (judges-ends {E = λ o t s. Left lost o t × (Left lost o t × E o t s)} (λ o t s h. h.1)
      (judges-and (inserts-free-and (λ t. t.live ≡ u.live) (λ k i t h. h) lost hand bare p f a n c l)
      (judges-from (λ t s h. h.1) (judges-insert_free lost hand bare new p f a n c l spare u.live {E = E}))))))
