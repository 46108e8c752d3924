-- One line more: what its places, its numbers and the stores in the tables come to.
use mathlib.Core.Path.{◌≡◌, refl, ap, ◌∙◌}
use mathlib.Core.List.{List, [], ◌∷◌}
use Prim.Native.Nat.{ℕ, zero, suc, ◌+◌, ◌<◌}
use native.Mathlib.Omega.{arith}
use lib.ListN.{length, get_or, set, length-map}
use lib.Seq.{map-set}
use Rattle.trace.specs.declared.Line.{Line}
use Rattle.judge_rules.specs.Said.{said}
use Rattle.judge_rules.specs.SoFar.{call}
use Rattle.judge_rules.specs.declared.Call.{Call}
use Rattle.summary_counts.specs.Counts.{counts_of, firsts_of, Few, or_else, answer_place_of, answer_place, failed_by, failure_place, live_bytes, mapped_bytes, higher}
use Rattle.summary_counts.specs.Promises.{Tells, Adds}
use Rattle.summary_counts.specs.declared.tallies.Times.{Times}
use Rattle.summary_counts.specs.declared.tallies.Counts.{Counts}
use Rattle.summary_counts.proofs.OneMore.{few-more, tally-more, first_more}

pub count-at : (t : List Times) (i : ℕ) → get_or (counts_of t) i 0 ≡ (get_or t i (record { count = 0; first = 0 })).count
count-at [] i = refl
count-at (w ∷ t) zero = refl
count-at (w ∷ t) (suc i) = count-at t i

pub first-at : (t : List Times) (i : ℕ) → get_or (firsts_of t) i 0 ≡ (get_or t i (record { count = 0; first = 0 })).first
first-at [] i = refl
first-at (w ∷ t) zero = refl
first-at (w ∷ t) (suc i) = first-at t i

-- one more at the place `a` of the answers
module _ (t : List Times) (a line : ℕ) (x : Times) (inside : a < length t)
    (count : x.count ≡ get_or (counts_of t) a 0 + 1) (first : x.first ≡ or_else (get_or (firsts_of t) a 0) line) where
  counts_are : counts_of (set t a x) ≡ set (counts_of t) a (get_or (counts_of t) a 0 + 1)
  counts_are = map-set (λ w. w.count) t a x ∙ ap (set (counts_of t) a) count

  firsts_are : firsts_of (set t a x) ≡ set (firsts_of t) a (or_else (get_or (firsts_of t) a 0) line)
  firsts_are = map-set (λ w. w.first) t a x ∙ ap (set (firsts_of t) a) first

  pub few_answers : (m : ℕ) → Few m (counts_of t) → Few (m + 1) (counts_of (set t a x))
  few_answers m f = rw counts_are (few-more m a (counts_of t) (omega (arith, length-map t (λ (w : Times). w.count))) f)

module _ (c : Counts) (k : Call) (l : Line) (a f : ℕ) (x : Times)
    (e : a ≡ answer_place_of (said l.kind) k l.third) (g : f ≡ failed_by (said l.kind) l.kind l.third)
    (in_answers : a < length c.answers) (in_failures : f < length c.failures)
    (count : x.count ≡ get_or (counts_of c.answers) a 0 + 1) (first : x.first ≡ or_else (get_or (firsts_of c.answers) a 0) (c.lines + 1))
    (live mapped : ℕ) (r : Counts)
    (lines : r.lines ≡ c.lines + 1)
    (lives : r.live ≡ higher c.live live (c.lines + 1))
    (maps : r.mapped ≡ higher c.mapped mapped (c.lines + 1))
    (answers : r.answers ≡ set c.answers a x)
    (failures : r.failures ≡ set c.failures f (get_or c.failures f 0 + 1)) where
  telling : (h : List Line) → k ≡ (call h).call → live ≡ live_bytes (l ∷ h) → mapped ≡ mapped_bytes (l ∷ h) → Tells c h → Tells r (l ∷ h)
  telling h p u v q =
      let s : a ≡ answer_place l h = e ∙ ap (λ x. answer_place_of (said l.kind) x l.third) p in
      let n : c.lines + 1 ≡ length h + 1 = ap (λ x. x + 1) q.lines in
      record {
        lines = lines ∙ omega (arith, n);
        live = lives ∙ (λ i. higher (q.live i) (u i) (n i));
        mapped = maps ∙ (λ i. higher (q.mapped i) (v i) (n i));
        answers =
            rw (answers, counts_are c.answers a (c.lines + 1) x in_answers count first)
            (tally-more answer_place (counts_of c.answers) l h a s (omega (arith, length-map c.answers (λ (w : Times). w.count))) q.answers);
        firsts =
            rw (answers, firsts_are c.answers a (c.lines + 1) x in_answers count first)
            (first_more answer_place (firsts_of c.answers) l h a s (omega (arith, length-map c.answers (λ (w : Times). w.first))) (c.lines + 1) n q.firsts);
        failures = rw failures (tally-more failure_place c.failures l h f g in_failures q.failures);
      }

  pub adds : Adds c k live mapped l r
  adds = record { lines = lines; tells = telling }
