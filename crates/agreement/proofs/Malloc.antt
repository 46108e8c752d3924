-- Malloc, as far as its records go: cleanup, fit, and where none fits make room or one of 8 to 11, which read nothing; then the hand-over.
use mathlib.Core.Path.{◌≡◌, refl}
use mathlib.Core.Bool.{Bool, false, ◌&&◌, ◌||◌}
use mathlib.Core.List.{[]}
use mathlib.Core.Option.{Option, some, none as no}
use Prim.Native.Nat.{ℕ, ◌+◌, ◌-◌, ◌/◌}
use lib.Dec.{ltb, leb}
use lib.ListN.{length}
use Rattle.tables.specs.Bounds.{HOLES, PAGES, SPANS, ZOMBIES}
use Rattle.tables.specs.Values.{Tables}
use Rattle.tables.specs.Outcomes.{is}
use Rattle.tables.specs.Steps.{end_if}
use Rattle.tables.specs.InsertFree.{bytes}
use Rattle.tables.specs.TakeRange.{smallest_hole}
use Rattle.tables.specs.MakeRoom.{missing}
use Rattle.tables.specs.Malloc.{no_hole, room_refused, or_room, hand_over, malloc_steps}
use Rattle.tables.specs.declared.FreeRegion.{FreeRegion}
use Rattle.tables.specs.declared.Outcome.{Outcome}
use Rattle.tables.specs.declared.Outcome.TheVariants.{RequestedExceedsVa, PagesFull, ZombiesFull, RootsFull}
use Rattle.keeping.specs.Sound.{none, Whole, KeptBut}
use Rattle.keeping.specs.MakeRoom.{TakesFrom}
use Rattle.keeping.specs.Malloc.{Asked}
use Rattle.keeping.proofs.Fit.{Fitting, Fitted}
use Rattle.keeping.proofs.Malloc.{losing, Handed, found, made, admits-room, begins}
use Rattle.judge_rules.specs.declared.Run.{Run}
use Rattle.agreement.specs.Agrees.{Serving, Agreeing, Ended, Ends}
use Rattle.agreement.specs.Judges.{Judges}
use Rattle.agreement.proofs.Judges.{judges-from, judges_to, judges-named, judges-and, judges_then, judges-give, judges_looked, judges-end_if}
use Rattle.agreement.proofs.Cleanup.{judges-cleanup}
use Rattle.agreement.proofs.Fit.{judges-fit}
use Rattle.agreement.proofs.MakeRoom.{judges-make_room}
use Rattle.agreement.proofs.HandOver.{Given, judges-hand_over}

module _ {run : Run} where
  -- a refusal reads nothing and changes nothing
  refuses : (u : Tables) (b : Bool) (o : Outcome) → (is 0 o || is 14 o) ≡ false → is 15 o ≡ false →
      Judges (λ t s. (t ≡ u) × Agreeing run none [] u s) (end_if b o) (λ _ t s. (t ≡ u) × Agreeing run none [] u s) (Ended run)
  refuses u b o e n = judges_to (λ _ t s q. q.0) (judges-end_if b o (λ t s q _. (n, (e, rw q.0 q.1))))

  judges-refused : (n : ℕ) → Judges (Agreeing run none []) (room_refused n) (λ _. Agreeing run none []) (Ended run)
  unfolding room_refused
  judges-refused n =
      judges_looked (λ u.
      let pulled = length u.zombies + length u.free in
      judges_then _ (refuses u (ltb u.fields.va n) (RequestedExceedsVa n u.fields.va) refl refl) (λ _.
      judges_then _ (refuses u (ltb PAGES (length u.pages + missing n u / u.fields.page)) PagesFull refl refl) (λ _.
      judges_then _ (refuses u (ltb ZOMBIES pulled || ltb (HOLES - 1) (pulled + length u.holes)) ZombiesFull refl refl) (λ _.
      judges_to (λ _ t s q. rw q.0 q.1) (refuses u (no_hole (smallest_hole n u.holes) && leb 16 (length u.roots)) RootsFull refl refl)))))

module _ {run : Run} (serving : Serving run) (lost : ℕ → ℕ) (n k : ℕ) where
  module _ (p f : ℕ) (size : Whole p n) where
    gives-region : (x : Option FreeRegion) →
        Judges (λ t s. Fitted lost p f (SPANS - 1) n x t × Agreeing run none [] t s) (or_room n k x)
        (λ r t s. Handed lost f n r t × Agreeing run none [] t s) (Ends run lost)
    unfolding or_room
    gives-region no =
        judges_then (λ _ t s. TakesFrom lost p f ((n - f) / p) n t × Agreeing run none [] t s)
        (judges-and (admits-room lost p f n k size) (judges-from (λ t s q. q.1) (judges-refused n))) (λ _.
        judges_to (λ r t s q. (made lost p f n k size r t q.0, q.1)) (judges-make_room serving lost n k p f))
    gives-region (some r) = judges-from (λ t s q. (found lost p f n k size r t q.0, q.1)) (judges-give r)

    hands_out : (r : FreeRegion) →
        Judges (λ t s. Handed lost f n r t × Agreeing run none [] t s) (hand_over n k r)
        (λ o t s. KeptBut lost t × Given run n k o t s) (Ends run lost)
    hands_out r =
        judges-named (λ u v w.
        judges-from (λ t s e. rw (e.0, e.1) (w.0.1.1, w.1))
        (judges_to (λ o t s q. (record { dropped = w.0.0; kept = q.0 }, q.1)) (judges-hand_over n k r (losing lost w.0.0))))

  pub judges-malloc_steps :
      Judges (λ t s. Asked lost n t × Agreeing run none [] t s) (malloc_steps n k)
      (λ o t s. KeptBut lost t × Given run n k o t s) (Ends run lost)
  unfolding malloc_steps
  judges-malloc_steps =
      judges-named (λ u v w.
      let p = u.fields.page in
      let f = bytes u.free in
      judges-from (λ t s e. rw (e.0, e.1) (begins lost n f u w.0 refl, w.1))
      (judges_then (λ _ t s. Fitting lost p f (SPANS - 1) t × Agreeing run none [] t s) (judges-cleanup serving lost p f (SPANS - 1)) (λ _.
      judges_then (λ x t s. Fitted lost p f (SPANS - 1) n x t × Agreeing run none [] t s) (judges-fit serving lost p f (SPANS - 1) n k) (λ x.
      judges_then (λ r t s. Handed lost f n r t × Agreeing run none [] t s) (gives-region p f w.0.1.0 x) (hands_out p f w.0.1.0)))))
