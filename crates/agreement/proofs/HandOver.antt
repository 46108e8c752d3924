-- The hand-over: nothing is read, and what leaves the free table joins the live one, so the same pages are mapped. The judge's live buffers are still
-- those before it: its own is added by the result.
use mathlib.Core.Path.{◌≡◌, refl, ap, sym, subst}
use mathlib.Core.List.{List, []}
use Prim.Native.Nat.{ℕ}
use native.Mathlib.Omega.{arith}
use Rattle.lists.specs.Order.{put}
use Rattle.tables.specs.Values.{Tables, address, buffer, with_free, with_live}
use Rattle.tables.specs.InsertFree.{from, put_rest, without_free}
use Rattle.tables.specs.Malloc.{hand_over}
use Rattle.tables.specs.declared.FreeRegion.{FreeRegion}
use Rattle.tables.specs.declared.LiveBuffer.{LiveBuffer}
use Rattle.tables.specs.declared.Outcome.{Outcome}
use Rattle.tables.specs.declared.Outcome.TheVariants.{Allocated}
use Rattle.keeping.specs.Sound.{none, Sound, Kept}
use Rattle.keeping.specs.Malloc.{Handing}
use Rattle.keeping.proofs.HandOver.{hands-over}
use Rattle.judge_rules.specs.Rules.{Judge}
use Rattle.judge_rules.specs.declared.Run.{Run}
use Rattle.agreement.specs.Agrees.{Agrees, Agreeing}
use Rattle.agreement.specs.Judges.{Judges}
use Rattle.agreement.proofs.Judges.{judges-from, judges_to, judges-named, judges-and, judges_then, judges-give, judges-change}
use Rattle.agreement.proofs.Agrees.{agrees_beside}

-- A buffer of `n` bytes on stream `k` is handed over; `before` are the live buffers before it.
pub record Given (run : Run) (n k : ℕ) (o : Outcome) (t : Tables) (s : Judge) : Type 0 where
  pub start : ℕ
  pub outcome : o ≡ Allocated (address start) n
  pub before : List LiveBuffer
  pub live : t.live ≡ put (λ b. b.start.0) (buffer start n k) before
  pub agrees : Agrees run none [] before t s

module _ (n k : ℕ) (r : FreeRegion) where
  -- the tables `u` with another free table and the buffer among the live ones
  record Handed (u : Tables) (v : Judge) (o : Outcome) (t : Tables) (s : Judge) : Type 0 where
    outcome : o ≡ Allocated (address (from r)) n
    tables : t ≡ with_live (put (λ b. b.start.0) (buffer (from r) n k) u.live) (with_free t.free u)
    state : s ≡ v

  hands : {E : Outcome → Tables → Judge → Type 0} (u : Tables) (v : Judge) → Judges (λ t s. (t ≡ u) × (s ≡ v)) (hand_over n k r) (Handed u v) E
  unfolding hand_over
  hands u v =
      judges_then (λ _ t s. (t ≡ with_free t.free u) × (s ≡ v)) (judges-change _ (λ t s q. (ap (with_free (without_free (from r) t.free)) q.0, q.1))) (λ _.
      judges_then (λ _ t s. (t ≡ with_free t.free u) × (s ≡ v)) (judges-change _ (λ t s q. (ap (λ x. with_free (put_rest n r x.free) x) q.0, q.1))) (λ _.
      judges_then (λ _. Handed u v (Allocated (address (from r)) n))
      (judges-change _ (λ t s q.
      record { outcome = refl; tables = ap (λ x. with_live (put (λ b. b.start.0) (buffer (from r) n k) x.live) x) q.0; state = q.1 })) (λ _.
      judges-give (Allocated (address (from r)) n))))

  pub judges-hand_over : {run : Run} {F : Outcome → Tables → Type 0} {E : Outcome → Tables → Judge → Type 0} (lost : ℕ → ℕ) →
      Judges (λ t s. Handing lost n r t × Agreeing run none [] t s) (hand_over n k r) (λ o t s. Kept lost t × Given run n k o t s)
      (λ o t s. F o t × E o t s)
  judges-hand_over {run} {F} {E} lost =
      judges-named (λ u v q.
      judges-from (λ t s e. (rw e.0 q.0, e))
      (judges_to (λ o t s h. (h.0, given u v q.0 q.1 o t s h))
      (judges-and (hands-over lost n k r) (judges-from (λ t s e. e.1) (hands u v)))))
    where
      given : (u : Tables) (v : Judge) → Handing lost n r u → Agreeing run none [] u v → (o : Outcome) (t : Tables) (s : Judge) → Kept lost t × Handed u v o t s →
          Given run n k o t s
      given u v w g o t s (kept, h) =
          let m : Tables = with_live (put (λ b. b.start.0) (buffer (from r) n k) u.live) (with_free t.free u) in
          let sound : Sound lost none none m = subst (Sound lost none none) h.tables kept.sound in
          let there : Agrees run none [] u.live m v =
          agrees_beside none g (record { page = refl; va = refl; counter = refl; pages = refl; roots = refl })
          (λ x e. omega (arith, w.sound.pages_match x e, sound.pages_match x e)) in
          record {
            start = from r;
            outcome = h.outcome;
            before = u.live;
            live = ap (λ (x : Tables). x.live) h.tables;
            agrees = subst (λ t. Agrees run none [] u.live t s) (sym h.tables) (subst (Agrees run none [] u.live m) (sym h.state) there);
          }
