-- A free: refused with 16 where no live buffer starts there, or done; then its result takes the buffer out of the judge's live ones.
use mathlib.Core.Path.{◌≡◌, refl, ap, sym, ◌∙◌, subst}
use mathlib.Core.Bool.{Bool, true, false, cond, not}
use mathlib.Core.List.{List, [], ◌∷◌, map}
use mathlib.Core.Option.{Option, some, none as no}
use Prim.Native.Nat.{ℕ}
use native.Mathlib.Omega.{arith}
use borrow.Author.Tests.{eqb-true}
use lib.Dec.{eqb}
use Rattle.lists.specs.Tests.{Member, filter, first}
use Rattle.lists.specs.Order.{without}
use Rattle.lists.proofs.Members.{member-first}
use Rattle.tables.specs.Values.{Tables, address, opened, pool_of, at_entry}
use Rattle.tables.specs.Outcomes.{numbers, is}
use Rattle.tables.specs.Steps.{Ending, on, ends, Went}
use Rattle.tables.specs.HandsBack.{outcome_of, pool_after, finished}
use Rattle.tables.specs.Free.{free_steps, free_found, free}
use Rattle.tables.specs.Calls.{frees}
use Rattle.tables.specs.declared.LiveBuffer.{LiveBuffer}
use Rattle.tables.specs.declared.Pool.{Pool}
use Rattle.tables.specs.declared.Outcome.{Outcome}
use Rattle.tables.specs.declared.Outcome.TheVariants.{InvalidPointer}
use Rattle.trace.specs.Kinds.{of_record}
use Rattle.trace.specs.declared.Line.{Line}
use Rattle.keeping.specs.Sound.{Kept}
use Rattle.judge_rules.specs.Rules.{Judge}
use Rattle.judge_rules.specs.Verdict.{told, freed, answered, ruled}
use Rattle.judge_rules.specs.Verdict as Verdict
use Rattle.judge_rules.specs.declared.Run.{Run}
use Rattle.judge_rules.specs.declared.Call.TheVariants.{Free}
use Rattle.replay_lines.specs.Traced.{result_of}
use Rattle.agreement.specs.Agrees.{SameBy, buffer, Serving}
use Rattle.agreement.specs.Judges.{Reach, Fair, addresses, ReachedBy, Reached}
use Rattle.agreement.proofs.Reading.{reach_to}
use Rattle.agreement.proofs.Judges.{all_read}
use Rattle.agreement.proofs.Same.{same-filter}
use Rattle.agreement.proofs.Free.{Gone, meets-free, judges-free_steps}
use Rattle.agreement.proofs.Agrees.{agrees-buffers}
use Rattle.agreement.proofs.Standing.{Stands, Standing, stands, calling, agrees-run, inside_calling, agrees_calling, refused-read}
use Rattle.agreement.proofs.Calls.{Read, entry-tables, admitted-read, done-read, finished-read}

-- the first that passes a test passes it
first_passes : {A : Type 0} (p : A → Bool) (x : A) (l : List A) → first p l ≡ some x → p x ≡ true
first_passes p x [] e = absurd (let z : ◌≡◌ {A = ℕ} 0 1 = cc in omega arith)
first_passes p x (y ∷ l) e = go (p y) refl e (first_passes p x l)
  where
    go : (b : Bool) → p y ≡ b → cond b (some y) (first p l) ≡ some x → (first p l ≡ some x → p x ≡ true) → p x ≡ true
    go true q e more = let z : y ≡ x = cc in rw (← z) q
    go false q e more = more e

module _ (b : LiveBuffer) (s : Judge) (over : s.run.over ≡ false) where
  abbrev a : ℕ
  a = b.start.0

  abbrev in-call : Run
  in-call = (calling (frees a) s).run

  -- The buffer is gone: the result is R8's.
  module _ {lost : ℕ → ℕ} {o : Outcome} {t : Tables} {y : Judge} (kept : Kept lost t) (d : Gone in-call b o t y) where
    abbrev same : y.run ≡ in-call
    same = d.agrees.runs

    asked : (told y).run.asked.first ≡ a
    asked = ap (λ (r : Run). r.asked.first) same

    -- the same, of the state that the result's rule sees
    abbrev gone-told : Gone (told y).run b o t (told y)
    gone-told =
        record {
          outcome = d.outcome;
          before = d.before;
          member = d.member;
          live = d.live;
          agrees = agrees-run _ (ap (λ (r : Run). r.page) same) (ap (λ (r : Run). r.va) same) d.agrees;
        }

    freed-on : answered Free (told y) b.size b.stream ≡ Verdict.on (freed (told y))
    unfolding answered ruled
    freed-on = rw (meets-free gone-told asked)

    buffers : SameBy buffer (freed (told y)).live t.live
    buffers =
        subst (λ m. SameBy buffer (freed (told y)).live m) (sym d.live)
        (subst (λ z. SameBy buffer (filter (λ c. not (eqb c.start z)) y.live) (without (λ (c : LiveBuffer). c.start.0) a d.before)) (sym asked)
        (same-filter d.agrees.buffers (λ c. not (eqb c.start a))))

    freed-stands : Stands (pool_of opened t) (freed (told y))
    freed-stands =
        record {
          tables = t;
          lost = lost;
          pool = refl;
          kept = kept;
          opens = ap (λ (r : Run). r.opened) same;
          waiting = refl;
          over = ap (λ (r : Run). r.over) same ∙ over;
          agrees = agrees-buffers (freed (told y)).live gone-told.agrees buffers;
        }

    gone-read : (p : Pool) → Reach y (result_of (numbers o) ∷ []) (Standing (pool_after p t o))
    gone-read p =
        subst (λ o. Reach y (result_of (numbers o) ∷ []) (Standing (pool_after p t o))) (sym d.outcome)
        (done-read (frees a) s y same over b.size b.stream (freed (told y)) (Standing (pool_of opened t)) freed-on (stands freed-stands))

  -- It ends no other way.
  result_accepted : (p : Pool) (lost : ℕ → ℕ) (ls : List Line) (t : Tables) (e : Ending Outcome) →
      Reached (λ o t y. Kept lost t × Gone in-call b o t y) (λ _ _ _. ⊥) (calling (frees a) s) ls t e →
      ReachedBy (outcome_of e) (calling (frees a) s) ls (λ y. Reach y (result_of (numbers (outcome_of e)) ∷ []) (Standing (pool_after p t (outcome_of e))))
  result_accepted p lost ls t (on o) r =
      all_read o (ap (is 15) r.holds.1.outcome) (λ _. reach_to (λ y q. gone-read q.0 q.1 p) r)
  result_accepted p lost ls t (ends o) r = record { breaks = r.breaks; reaches = λ x. absurd (r.reaches x).holds }

module _ (p : Pool) (s : Judge) (h : Stands p s) where
  serving : (a : ℕ) → Serving (calling (frees a) s).run
  serving a = record { inside = inside_calling (frees a) s h.over; keeps = λ z. refl }

  -- the steps, from the tables that the pool is read as
  reached : (b : LiveBuffer) (xs : List ℕ) (w : Went Outcome) → w ≡ free_steps b xs 0 h.tables → Member b h.tables.live → Fair (addresses s.mapped) (map of_record w.records) →
      Reached (λ o t y. Kept h.lost t × Gone (calling (frees b.start.0) s).run b o t y) (λ _ _ _. ⊥) (calling (frees b.start.0) s) (map of_record w.records) w.tables w.ending
  reached b xs w e m =
      subst (λ w. Fair (addresses s.mapped) (map of_record w.records) →
      Reached (λ o t y. Kept h.lost t × Gone (calling (frees b.start.0) s).run b o t y) (λ _ _ _. ⊥) (calling (frees b.start.0) s) (map of_record w.records) w.tables w.ending) (sym e)
      ((judges-free_steps (serving b.start.0) h.lost b {E = λ _ _ _. ⊥}).reads xs 0 h.tables (calling (frees b.start.0) s) ((h.kept, m), agrees_calling (frees b.start.0) h.agrees))

  served : (b : LiveBuffer) (xs : List ℕ) (w : Went Outcome) → w ≡ free_steps b xs 0 h.tables → Member b h.tables.live → Read (frees b.start.0) p s (finished p w)
  served b xs w e m =
      finished-read (frees b.start.0) p s h w (λ f.
      result_accepted b s h.over p h.lost (map of_record w.records) w.tables w.ending (reached b xs w e m f))

  pub free-read : (a : ℕ) (xs : List ℕ) (log : ℕ) → Read (frees a) p s (free p a xs log)
  unfolding free free_found
  free-read a xs log = admitted-read p s h (frees a) log _ (go (first (λ b. eqb b.start.0 a) (at_entry p).live) refl)
    where
      go : (o : Option LiveBuffer) → first (λ b. eqb b.start.0 a) (at_entry p).live ≡ o → Read (frees a) p s (free_found p a xs o)
      go no e = λ _. refused-read (frees a) p s (InvalidPointer (address a)) refl refl h
      go (some b) e =
          let m = member-first (λ c. eqb c.start.0 a) b (at_entry p).live e in
          let here : b.start.0 ≡ a = eqb-true b.start.0 a (first_passes (λ (c : LiveBuffer). eqb c.start.0 a) b (at_entry p).live e) in
          subst (λ a. Read (frees a) p s (finished p (free_steps b xs 0 (at_entry p)))) here
          (served b xs (free_steps b xs 0 (at_entry p)) (ap (free_steps b xs 0) (entry-tables p s h)) (subst (λ (t : Tables). Member b t.live) (entry-tables p s h) m))
