-- Free, as far as its record goes: the buffer's pages are free ones, while the judge knows it as live until the result. R8 is met, since it was live.
use mathlib.Core.Path.{◌≡◌, refl, sym}
use mathlib.Core.Bool.{Bool, true, ◌&&◌}
use mathlib.Core.List.{List, []}
use Prim.Native.Nat.{ℕ, ◌+◌}
use native.Mathlib.Omega.{arith}
use borrow.Author.Tests.{eq-eqb}
use lib.Dec.{eqb}
use Rattle.lists.specs.Tests.{Member}
use Rattle.lists.specs.Order.{without}
use Rattle.lists.proofs.Members.{sum-without}
use Rattle.tables.specs.Values.{Tables, with_live}
use Rattle.tables.specs.InsertFree.{bytes}
use Rattle.tables.specs.Free.{free_steps}
use Rattle.tables.specs.declared.LiveBuffer.{LiveBuffer}
use Rattle.tables.specs.declared.Outcome.{Outcome}
use Rattle.tables.specs.declared.Outcome.TheVariants.{Freed}
use Rattle.keeping.specs.Cover.{within}
use Rattle.keeping.specs.Sound.{none, Kept}
use Rattle.keeping.proofs.Counts.{few-ceilings}
use Rattle.keeping.proofs.InsertFree.{Inserting, Inserted, inserts-free-and}
use Rattle.keeping.proofs.FreeCall.{inserting}
use Rattle.judge_rules.specs.Rules.{Judge, R8}
use Rattle.judge_rules.specs.declared.Run.{Run}
use Rattle.agreement.specs.Agrees.{Serving, Agrees, Agreeing}
use Rattle.agreement.specs.Judges.{Judges}
use Rattle.agreement.proofs.Judges.{judges-from, judges_to, judges-ends, judges-named, judges-and, judges_then, judges-give, judges-change}
use Rattle.agreement.proofs.Same.{same-any, any-member}
use Rattle.agreement.proofs.Agrees.{agrees_beside}
use Rattle.agreement.proofs.InsertFree.{judges-insert_free}

-- The buffer `b` was live, with others; the judge still knows of them all.
pub record Gone (run : Run) (b : LiveBuffer) (o : Outcome) (t : Tables) (s : Judge) : Type 0 where
  pub outcome : o ≡ Freed b.size b.stream
  pub before : List LiveBuffer
  pub member : Member b before
  pub live : t.live ≡ without (λ c. c.start.0) b.start.0 before
  pub agrees : Agrees run none [] before t s

-- R8, where the address is what was asked
pub meets-free : {run : Run} {b : LiveBuffer} {o : Outcome} {t : Tables} {s : Judge} → Gone run b o t s → s.run.asked.first ≡ b.start.0 →
    R8 s b.size b.stream ≡ true
unfolding R8
meets-free {b = b} {s = s} d e =
    same-any d.agrees.buffers (λ c. eqb c.start s.run.asked.first && eqb c.size b.size && eqb c.stream b.stream)
    (any-member (λ (c : LiveBuffer). eqb c.start.0 s.run.asked.first && eqb c.size b.size && eqb c.stream b.stream) b d.before d.member
    (all_three (eq-eqb b.start.0 s.run.asked.first (sym e)) (eq-eqb b.size b.size refl) (eq-eqb b.stream b.stream refl)))
  where
    all_three : {x y z : Bool} → x ≡ true → y ≡ true → z ≡ true → (x && y && z) ≡ true
    all_three a b c = rw (a, b, c)

module _ {run : Run} (serving : Serving run) (lost : ℕ → ℕ) (b : LiveBuffer) where
  -- the tables without the buffer: its pages are mapped in hand
  out : (u : Tables) (v : Judge) → Kept lost u → Member b u.live → Agreeing run none [] u v →
      Agrees run (λ x. none x + within b.start.0 b.size x) [] u.live (with_live (without (λ c. c.start.0) b.start.0 u.live) u) v
  out u v k m g =
      agrees_beside _ g (record { page = refl; va = refl; counter = refl; pages = refl; roots = refl })
      (λ x e. omega (arith, sum-without (λ c. c.start.0) (λ c. within c.start.0 c.size x) 0 b u.live k.sound.live_rises m))

  pub judges-free_steps : {E : Outcome → Tables → Judge → Type 0} →
      Judges (λ t s. (Kept lost t × Member b t.live) × Agreeing run none [] t s) (free_steps b) (λ o t s. Kept lost t × Gone run b o t s) E
  unfolding free_steps
  judges-free_steps =
      judges-named (λ u v q.
      let a = b.start.0 in
      let l = without (λ c. c.start.0) a u.live in
      let R : Tables → Type 0 = λ t. t.live ≡ l in
      judges_then (λ _ t s. (Inserting lost none none u.fields.page (bytes u.free) a b.size u.free t × R t) × Agrees run (λ x. none x + within a b.size x) [] u.live t s)
      (judges-change _ (λ t s e. rw (e.0, e.1) ((inserting b u q.0.0 q.0.1, refl), out u v q.0.0 q.0.1 q.1))) (λ _.
      judges_then (λ r t s. (Inserted lost none none u.fields.page (bytes u.free) a b.size b.stream u.free r t × R t) × Agrees run none [] u.live t s)
      (judges-ends (λ o t s e. e.1.1)
      (judges_to (λ r t s h. (h.0, h.1.1))
      (judges-and (inserts-free-and R (λ k c t e. e) lost none none u.fields.page (bytes u.free) a b.size b.stream u.free)
      (judges-from (λ t s h. (h.0.0, h.1)) (judges-insert_free serving lost none none none u.fields.page (bytes u.free) a b.size b.stream u.free [] u.live))))) (λ r.
      judges-from (λ t s h. (
        record { sound = h.0.0.sound; ceilings = few-ceilings (omega arith) h.0.0.few },
        record { outcome = refl; before = u.live; member = q.0.1; live = h.0.1; agrees = h.1 },
      ))
      (judges-give (Freed b.size b.stream)))))
