-- 1 to 7, 16 and 19 are answered before a call's first step, with the pool as it came and no record: the steps of a call answer none of them. 17 hands
-- back the pool that the call was handed.
use mathlib.Core.Path.{◌≡◌, refl, sym, ◌∙◌}
use mathlib.Core.Bool.{false, false≢true, ◌||◌, not}
use mathlib.Core.List.{List}
use mathlib.Core.Option.{Option, some, none}
use Prim.Native.Nat.{ℕ, ◌+◌, ◌%◌}
use borrow.Author.Tests.{eqb-true}
use lib.Dec.{ltb, leb, eqb}
use Rattle.lists.specs.Tests.{first}
use Rattle.words.specs.declared.Record.{Record}
use Rattle.tables.specs.Bounds.{LOG, SPANS}
use Rattle.tables.specs.Values.{Tables, closed, at_entry, no_tables, closed_pool}
use Rattle.tables.specs.Steps.{Ending, on, ends, Went}
use Rattle.tables.specs.Outcomes.{numbers}
use Rattle.tables.specs.WellFormed.{well_formed}
use Rattle.tables.specs.HandsBack.{refused, outcome_of, finished}
use Rattle.tables.specs.Open.{page_size, bad_configuration, open_finished, open_pool}
use Rattle.tables.specs.Malloc.{malloc_by, malloc}
use Rattle.tables.specs.Free.{free_found, free}
use Rattle.tables.specs.Close.{close_steps, close_finished, close}
use Rattle.tables.specs.Calls.{Call, mallocs, frees, closes, answer}
use Rattle.tables.specs.declared.LiveBuffer.{LiveBuffer}
use Rattle.tables.specs.declared.Pool.{Pool}
use Rattle.tables.specs.declared.Outcome.{Outcome}
use Rattle.keeping.specs.Holds.{After}
use Rattle.answering.specs.Answers.{among}
use Rattle.answering.specs.Unchanged.{refusals, Unchanged}
use Rattle.answering.proofs.Steps.{Done, Met, open_steps-answer, malloc_steps-answer, free_steps-answer, close_steps-ends}
use Rattle.answering.proofs.Calls.{either_way, admitted_by}

-- The outcome is none of the refusals.
abbrev Late : Outcome → Type 0
Late o = among refusals o ≡ false

late_done : Done Late
late_done o e =
    let z = eqb-true (numbers o).number 0 e in
    rw z

late_met : Met Late
late_met = record { reserves = λ _ _. refl; memory = λ _ _. refl; fails = λ _. refl; incredible = refl; short = refl }

unchanged-refused : (p : Pool) (o : Outcome) → Unchanged p (refused p o)
unchanged-refused p o = record { refused = λ _. (refl, refl); short = λ _. refl }

unchanged-finished : (p : Pool) (w : Went Outcome) → Late (outcome_of w.ending) → Unchanged p (finished p w)
unfolding finished
unchanged-finished p w h = record { refused = λ e. absurd (false≢true (sym h ∙ e)); short = λ e. rw e }

-- A closed pool is what open is handed.
pub open-unchanged : (granularity override va initial stream : ℕ) (xs : List ℕ) (log : ℕ) →
    Unchanged closed_pool (open_pool granularity override va initial stream xs log)
unfolding open_pool open_finished
open-unchanged granularity override va initial stream xs log =
    let t = no_tables (page_size granularity override) va in
    let h = open_steps-answer Late late_done late_met initial stream xs 0 t in
    either_way (Unchanged closed_pool) (ltb log LOG) _ _ (unchanged-refused closed_pool _)
    (either_way (Unchanged closed_pool) (bad_configuration granularity override va initial) _ _ (unchanged-refused closed_pool _)
    (record { refused = λ e. absurd (false≢true (sym h ∙ e)); short = λ e. rw e }))

malloc-unchanged : (p : Pool) (n s : ℕ) (xs : List ℕ) (log : ℕ) → Unchanged p (malloc p n s xs log)
unfolding malloc_by
malloc-unchanged p n s xs log =
    let same = unchanged-refused p in
    admitted_by (Unchanged p) p log _ (same _) (same _) (same _) (same _) (same _)
    (either_way (Unchanged p) (eqb n 0 || not (eqb (n % p.page) 0)) _ _ (same _)
    (either_way (Unchanged p) (leb SPANS (p.free.count + p.live.count)) _ _ (same _)
    (unchanged-finished p _
    (malloc_steps-answer Late late_met (record { exceeds = λ _ _. refl; pages = refl; zombies = refl; roots = refl }) n s late_done xs 0 (at_entry p)))))

free-unchanged : (p : Pool) (a : ℕ) (xs : List ℕ) (log : ℕ) → Unchanged p (free p a xs log)
unfolding free free_found
free-unchanged p a xs log =
    let same = unchanged-refused p in
    admitted_by (Unchanged p) p log _ (same _) (same _) (same _) (same _) (same _) (found (first (λ b. eqb b.start.0 a) (at_entry p).live))
  where
    found : (o : Option LiveBuffer) → Unchanged p (free_found p a xs o)
    found none = unchanged-refused p _
    found (some b) = unchanged-finished p _ (free_steps-answer Late refl (λ _. refl) b late_done xs 0 (at_entry p))

close-unchanged : (p : Pool) (xs : List ℕ) (log : ℕ) → Unchanged p (close p xs log)
unfolding close close_finished
close-unchanged p xs log =
    let w = close_steps xs 0 (at_entry p) in
    let same = unchanged-refused p in
    either_way (Unchanged p) (eqb p.state closed) _ _ (same _)
    (either_way (Unchanged p) (not (well_formed p)) _ _ (same _)
    (either_way (Unchanged p) (ltb log LOG) _ _ (same _)
    (left w.records w.tables w.ending ((close_steps-ends Late refl).leaves xs 0 (at_entry p) tt))))
  where
    left : (rs : List Record) (t : Tables) (e : Ending (Unit {0})) → After (λ _ _. Unit {0}) (λ o _. Late o) t e → Unchanged p (close_finished p rs e)
    left rs t (on u) h = record { refused = λ e. absurd (false≢true e); short = λ e. absurd (false≢true e) }
    left rs t (ends o) h = record { refused = λ e. absurd (false≢true (sym h ∙ e)); short = λ _. refl }

-- What a refusal, and 17, leave of the pool: of every call.
pub call-unchanged : (p : Pool) (c : Call) (xs : List ℕ) (log : ℕ) → Unchanged p (answer p c xs log)
call-unchanged p (mallocs n s) xs log = malloc-unchanged p n s xs log
call-unchanged p (frees a) xs log = free-unchanged p a xs log
call-unchanged p closes xs log = close-unchanged p xs log
