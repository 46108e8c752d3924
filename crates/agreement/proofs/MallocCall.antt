-- A malloc: refused, ended early, or done; then its result adds the buffer to the judge's live ones, which are the live table's again.
use mathlib.Core.Path.{◌≡◌, refl, ap, sym, ◌∙◌, subst}
use mathlib.Core.Bool.{Bool, true, false, cond, ◌||◌, not}
use mathlib.Core.List.{List, [], ◌∷◌, map}
use Prim.Native.Nat.{ℕ, suc, ◌+◌, ◌-◌, ◌≤◌, ◌%◌}
use native.Mathlib.Omega.{arith}
use borrow.Author.Tests.{eqb-true, eqb-false, leb-false, not-false, le-leb}
use lib.Dec.{leb, eqb}
use lib.ListN.{length}
use Rattle.lists.specs.Order.{put}
use Rattle.lists.proofs.Tests.{neither}
use Rattle.lists.proofs.Order.{length-put}
use Rattle.tables.specs.Bounds.{SPANS}
use Rattle.tables.specs.Values as Values
use Rattle.tables.specs.Values.{Tables, opened, pool_of, at_entry}
use Rattle.tables.specs.Outcomes.{numbers, is}
use Rattle.tables.specs.Steps.{Ending, on, ends, Went}
use Rattle.tables.specs.HandsBack.{refused, outcome_of, pool_after, finished}
use Rattle.tables.specs.Malloc.{malloc_steps, malloc_by, malloc}
use Rattle.tables.specs.Calls.{mallocs}
use Rattle.tables.specs.declared.Pool.{Pool}
use Rattle.tables.specs.declared.Outcome.{Outcome}
use Rattle.tables.specs.declared.Outcome.TheVariants.{BadSize, SpansFull}
use Rattle.trace.specs.Kinds.{of_record}
use Rattle.trace.specs.declared.Line.{Line}
use Rattle.keeping.specs.Sound.{Whole, KeptBut}
use Rattle.keeping.specs.Malloc.{Asked}
use Rattle.keeping.proofs.WellFormedEnters.{entry-page, entry-spans}
use Rattle.judge_rules.specs.Sizes.{most_live}
use Rattle.judge_rules.specs.Rules.{Judge}
use Rattle.judge_rules.specs.Verdict.{told, handed, answered, ruled, sized}
use Rattle.judge_rules.specs.Verdict as Verdict
use Rattle.judge_rules.specs.declared.Run.{Run}
use Rattle.judge_rules.specs.declared.Call.TheVariants.{Malloc}
use Rattle.replay_lines.specs.Traced.{result_of}
use Rattle.agreement.specs.Agrees.{SameBy, buffer, Serving, Ends}
use Rattle.agreement.specs.Judges.{Reach, Fair, addresses, ReachedBy, Reached}
use Rattle.agreement.proofs.Reading.{reach_to}
use Rattle.agreement.proofs.Judges.{all_read}
use Rattle.agreement.proofs.Same.{same_length, same-put}
use Rattle.agreement.proofs.HandOver.{Given}
use Rattle.agreement.proofs.HandedOver.{meets-malloc}
use Rattle.agreement.proofs.Malloc.{judges-malloc_steps}
use Rattle.agreement.proofs.Agrees.{agrees-buffers}
use Rattle.agreement.proofs.Standing.{Stands, Standing, stands, calling, agrees-run, inside_calling, agrees_calling, refused-read}
use Rattle.agreement.proofs.Calls.{Read, entry-tables, admitted-read, done-read, ended-read, finished-read}

module _ (n k : ℕ) (s : Judge) (over : s.run.over ≡ false) where
  abbrev in-call : Run
  in-call = (calling (mallocs n k) s).run

  -- A buffer was handed over: the result is R7's.
  module _ {lost : ℕ → ℕ} {o : Outcome} {t : Tables} {y : Judge} (kept : KeptBut lost t) (d : Given in-call n k o t y) where
    abbrev a : ℕ
    a = d.start

    abbrev same : y.run ≡ in-call
    same = d.agrees.runs

    -- the same, of the state that the result's rule sees
    abbrev given-told : Given (told y).run n k o t (told y)
    given-told =
        record {
          start = a;
          outcome = d.outcome;
          before = d.before;
          live = d.live;
          agrees = agrees-run _ (ap (λ (r : Run). r.page) same) (ap (λ (r : Run). r.va) same) d.agrees;
        }

    room : suc (length y.live) ≤ most_live
    room =
        let few = kept.kept.ceilings.spans in
        omega (arith, same_length d.agrees.buffers, ap length d.live, length-put (λ b. b.start.0) (Values.buffer a n k) d.before)

    handed-on : answered Malloc (told y) a n ≡ Verdict.on (handed (told y) a n)
    unfolding answered ruled sized
    handed-on =
        rw (meets-malloc kept.kept.sound given-told (ap (λ (r : Run). r.asked.first) same), le-leb (suc (length y.live)) most_live room)

    buffers : SameBy buffer (handed (told y) a n).live t.live
    buffers =
        subst (λ m. SameBy buffer (handed (told y) a n).live m) (sym d.live)
        (subst (λ j. SameBy buffer (record { start = a; size = n; stream = j } ∷ y.live) (put (λ b. b.start.0) (Values.buffer a n k) d.before)) (sym (ap (λ (r : Run). r.asked.second) same))
        (same-put d.agrees.buffers (λ b. b.start.0) (Values.buffer a n k)))

    handed-stands : Stands (pool_of opened t) (handed (told y) a n)
    handed-stands =
        record {
          tables = t;
          lost = _;
          pool = refl;
          kept = kept.kept;
          opens = ap (λ (r : Run). r.opened) same;
          waiting = refl;
          over = ap (λ (r : Run). r.over) same ∙ over;
          agrees = agrees-buffers (handed (told y) a n).live given-told.agrees buffers;
        }

    given-read : (p : Pool) → Reach y (result_of (numbers o) ∷ []) (Standing (pool_after p t o))
    given-read p =
        subst (λ o. Reach y (result_of (numbers o) ∷ []) (Standing (pool_after p t o))) (sym d.outcome)
        (done-read (mallocs n k) s y same over a n (handed (told y) a n) (Standing (pool_of opened t)) handed-on (stands handed-stands))

  -- Either way.
  result_accepted : (p : Pool) (lost : ℕ → ℕ) (ls : List Line) (t : Tables) (e : Ending Outcome) →
      Reached (λ o t y. KeptBut lost t × Given in-call n k o t y) (Ends in-call lost) (calling (mallocs n k) s) ls t e →
      ReachedBy (outcome_of e) (calling (mallocs n k) s) ls (λ y. Reach y (result_of (numbers (outcome_of e)) ∷ []) (Standing (pool_after p t (outcome_of e))))
  result_accepted p lost ls t (on o) r =
      all_read o (ap (is 15) r.holds.1.outcome) (λ _. reach_to (λ y q. given-read q.0 q.1 p) r)
  result_accepted p lost ls t (ends o) r =
      record {
        breaks = r.breaks;
        reaches = λ x. reach_to (λ y q. ended-read (mallocs n k) p s y o lost t over q.0 q.1 x) (r.reaches x);
      }

module _ (n k : ℕ) (p : Pool) (s : Judge) (h : Stands p s) where
  serving : Serving (calling (mallocs n k) s).run
  serving = record { inside = inside_calling (mallocs n k) s h.over; keeps = λ z. refl }

  -- the steps, from the tables that the pool is read as
  reached : (xs : List ℕ) (w : Went Outcome) → w ≡ malloc_steps n k xs 0 h.tables → Asked h.lost n h.tables → Fair (addresses s.mapped) (map of_record w.records) →
      Reached (λ o t y. KeptBut h.lost t × Given (calling (mallocs n k) s).run n k o t y) (Ends (calling (mallocs n k) s).run h.lost) (calling (mallocs n k) s) (map of_record w.records) w.tables w.ending
  reached xs w e asked =
      subst (λ w. Fair (addresses s.mapped) (map of_record w.records) →
      Reached (λ o t y. KeptBut h.lost t × Given (calling (mallocs n k) s).run n k o t y) (Ends (calling (mallocs n k) s).run h.lost) (calling (mallocs n k) s) (map of_record w.records) w.tables w.ending) (sym e)
      ((judges-malloc_steps serving h.lost n k).reads xs 0 h.tables (calling (mallocs n k) s) (asked, agrees_calling (mallocs n k) h.agrees))

  served : (xs : List ℕ) (w : Went Outcome) → w ≡ malloc_steps n k xs 0 h.tables → Asked h.lost n h.tables → Read (mallocs n k) p s (finished p w)
  served xs w e asked =
      finished-read (mallocs n k) p s h w (λ f.
      result_accepted n k s h.over p h.lost (map of_record w.records) w.tables w.ending (reached xs w e asked f))

  pub malloc-read : (xs : List ℕ) (log : ℕ) → Read (mallocs n k) p s (malloc p n k xs log)
  unfolding malloc_by
  malloc-read xs log =
      admitted-read p s h (mallocs n k) log _ (go (eqb n 0 || not (eqb (n % p.page) 0)) refl (leb SPANS (p.free.count + p.live.count)) refl)
    where
      go : (a : Bool) → (eqb n 0 || not (eqb (n % p.page) 0)) ≡ a → (b : Bool) → leb SPANS (p.free.count + p.live.count) ≡ b →
          Read (mallocs n k) p s (cond a (refused p (BadSize n)) (cond b (refused p SpansFull) (finished p (malloc_steps n k xs 0 (at_entry p)))))
      go true e b q = λ _. refused-read (mallocs n k) p s (BadSize n) refl refl h
      go false e true q = λ _. refused-read (mallocs n k) p s SpansFull refl refl h
      go false e false q =
          let size = neither (eqb n 0) (not (eqb (n % p.page) 0)) e in
          let zero : n ≡ 0 → ⊥ = eqb-false n 0 size.0 in
          let whole : Whole p.page n = record { positive = omega arith; aligned = eqb-true (n % p.page) 0 (not-false (eqb (n % p.page) 0) size.1) } in
          let page : p.page ≡ h.tables.fields.page = sym (entry-page p) ∙ ap (λ (t : Tables). t.fields.page) (entry-tables p s h) in
          let few : length h.tables.free + length h.tables.live ≤ SPANS - 1 =
          subst (λ (t : Tables). length t.free + length t.live ≤ SPANS - 1) (entry-tables p s h) (omega (arith, entry-spans p, leb-false SPANS (p.free.count + p.live.count) q)) in
          served xs (malloc_steps n k xs 0 (at_entry p)) (ap (malloc_steps n k xs 0) (entry-tables p s h)) (h.kept, (subst (λ z. Whole z n) page whole, few))
