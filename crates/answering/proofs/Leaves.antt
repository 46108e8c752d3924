-- What a malloc leaves that answers 8 to 13. Fit changes the tables only where it finds a region, 8 to 12 end the call before a range is taken, and the
-- rollback of 13 undoes all that was done since. No other end of the steps after cleanup has one of these numbers.
use mathlib.Core.Path.{◌≡◌, refl, ap, sym, ◌∙◌}
use mathlib.Core.Logic.{inl, inr, ⊎_elim}
use mathlib.Core.Bool.{Bool, true, false, false≢true, cond, ◌&&◌, ◌||◌, not}
use mathlib.Core.List.{List, [], ◌∷◌}
use mathlib.Core.Option.{Option, some, none}
use Prim.Native.Nat.{ℕ, ◌+◌, ◌-◌, ◌≤◌, ◌<◌, ◌/◌, ◌%◌}
use native.Mathlib.Omega.{arith}
use borrow.Author.Tests.{eqb-true, eqb-false, ne_eqb, ltb-true, leb-false, not-false}
use lib.Dec.{ltb, leb, eqb}
use lib.ListN.{length}
use Rattle.lists.specs.Tests.{every}
use Rattle.lists.proofs.Tests.{both, neither, either, cases_lt}
use Rattle.words.specs.Answers.{value_of, failed}
use Rattle.tables.specs.Bounds.{END, HOLES, PAGES, ROOTS, SPANS, ZOMBIES}
use Rattle.tables.specs.Values.{Tables, address, opened, pool_of, at_entry, with_holes}
use Rattle.tables.specs.Steps.{Ending, on, ends, Went, Step, after, ◌>>=◌, end_if}
use Rattle.tables.specs.Outcomes.{numbers, is}
use Rattle.tables.specs.HandsBack.{refused, outcome_of, pool_after, finished}
use Rattle.tables.specs.InsertHole.{from, insert_hole}
use Rattle.tables.specs.InsertFree.{bytes}
use Rattle.tables.specs.TakeRange.{smallest_hole, cut_hole, credible, reserve_root, take_hole, take_range}
use Rattle.tables.specs.NewPages.{Room, make_pages}
use Rattle.tables.specs.MakeRoom.{missing, make_room}
use Rattle.tables.specs.Cleanup.{cleanup}
use Rattle.tables.specs.Fit.{candidates, smallest, ask_all, on_stream, take_over, or_other, fit}
use Rattle.tables.specs.Malloc.{no_hole, room_refused, or_room, hand_over, malloc_steps, malloc_by, malloc}
use Rattle.tables.specs.declared.FreeRegion.{FreeRegion}
use Rattle.tables.specs.declared.Hole.{Hole}
use Rattle.tables.specs.declared.Pool.{Pool}
use Rattle.tables.specs.declared.Outcome.{Outcome}
use Rattle.tables.specs.declared.Outcome.TheVariants.{
  Allocated,
  RequestedExceedsVa,
  PagesFull,
  ZombiesFull,
  RootsFull,
  ReserveFailed,
  Incredible,
}
use Rattle.keeping.specs.Cover.{within, cover_holes}
use Rattle.keeping.specs.Sound.{Whole, Kept, Left}
use Rattle.keeping.specs.Holds.{After, Holds}
use Rattle.keeping.specs.MakeRoom.{TakesFrom}
use Rattle.keeping.specs.Malloc.{Asked}
use Rattle.keeping.proofs.Cover.{within_le, within_out}
use Rattle.keeping.proofs.Sounds.{sound-once}
use Rattle.keeping.proofs.Counts.{few-ceilings}
use Rattle.keeping.proofs.Holes.{member-smallest_hole}
use Rattle.keeping.proofs.TakeRange.{Reserved, TakenRange, reserves-root, takes-range}
use Rattle.keeping.proofs.MakeRoom.{taken-begins, aligned-missing}
use Rattle.keeping.proofs.Cleanup.{cleans_up}
use Rattle.keeping.proofs.Fit.{Fitting}
use Rattle.keeping.proofs.Malloc.{begins, begins-again, admits-room}
use Rattle.keeping.proofs.WellFormedEnters.{Entered, entry-page, entry-spans}
use Rattle.keeping.proofs.Holds.{
  holds-from,
  holds_to,
  holds-both,
  holds_named,
  holds_then,
  holds-give,
  holds_looked,
  holds-change,
  holds-end_if,
  holds_drive,
  holds-is_complete,
  drives-reserve,
}
use Rattle.answering.specs.Answers.{among}
use Rattle.answering.specs.Leaves.{cleaned, before_room, TakenBack, from_hole, from_root, Leaves}
use Rattle.answering.proofs.Ends.{Ends, ends_then}
use Rattle.answering.proofs.Rules.{cleanup-ends, inserts-new, fills}
use Rattle.answering.proofs.Calls.{tested, admitted-entered}
use Rattle.answering.proofs.HolesBack.{hole-back, root-back}
use Rattle.answering.proofs.PagesBack.{makes_or-back}

-- The outcome is none of 8 to 13.
abbrev Other : Outcome → Type 0
Other o = (among before_room o ≡ false) × (is 13 o ≡ false)

-- What an answer leaves of the tables `u` that cleanup left.
record LeftBy (n : ℕ) (u : Tables) (o : Outcome) (t : Tables) : Type 0 where
  same : among before_room o ≡ true → t ≡ u
  back : is 13 o ≡ true → TakenBack n u (pool_of opened t)

module _ {n : ℕ} {u : Tables} {o : Outcome} where
  left_other : {t : Tables} → Other o → LeftBy n u o t
  left_other h = record { same = λ e. absurd (false≢true (sym h.0 ∙ e)); back = λ e. absurd (false≢true (sym h.1 ∙ e)) }

  left-same : {t : Tables} → is 13 o ≡ false → t ≡ u → LeftBy n u o t
  left-same h q = record { same = λ _. q; back = λ e. absurd (false≢true (sym h ∙ e)) }

  left_back : {t : Tables} → among before_room o ≡ false → TakenBack n u (pool_of opened t) → LeftBy n u o t
  left_back h b = record { same = λ e. absurd (false≢true (sym h ∙ e)); back = λ _. b }

module _ (n : ℕ) (u : Tables) where
  -- whatever step has no end of these numbers
  holds-other : {A : Type 0} {m : Step A} → Ends Other m → Holds (λ _. Unit {0}) m (λ _ _. Unit {0}) (LeftBy n u)
  holds-other h = holds_to (λ _ _ _. tt) (holds-from (λ _ _. (tt, tt)) (holds-both (λ _ _ f _. left_other f) h h))

  -- a refusal leaves the tables
  refuses : (b : Bool) (o : Outcome) → is 13 o ≡ false → Holds (λ t. t ≡ u) (end_if b o) (λ _ t. t ≡ u) (LeftBy n u)
  refuses b o h = holds_to (λ _ t q. q.0) (holds-end_if b o (λ t q _. left-same h q))

  -- Fit: the tables stay where none is found.
  abbrev Found : Option FreeRegion → Tables → Type 0
  Found none t = t ≡ u
  Found (some r) t = Unit {0}

  asks : (l : List FreeRegion) → Holds (λ t. t ≡ u) (ask_all l) (λ _ t. t ≡ u) (LeftBy n u)
  asks [] = holds-give []
  asks (r ∷ l) =
      holds_then (λ _ t. t ≡ u) (holds-is_complete r.id.0 (λ _ _. left_other (refl, refl))) (λ c.
      holds_then (λ _ t. t ≡ u) (asks l) (λ done. holds-give (cond c (r ∷ done) done)))

  takes-over : (s : ℕ) (o : Option FreeRegion) → Holds (λ t. t ≡ u) (take_over s o) Found (LeftBy n u)
  unfolding take_over
  takes-over s none = holds-give none
  takes-over s (some r) = holds_then (λ _ _. Unit {0}) (holds-change _ (λ _ _. tt)) (λ _. holds-give (some (on_stream s r)))

  or-other : (s : ℕ) (l : List FreeRegion) (o : Option FreeRegion) → Holds (λ t. t ≡ u) (or_other s l o) Found (LeftBy n u)
  unfolding or_other
  or-other s l none = holds_then (λ _ t. t ≡ u) (asks l) (λ done. takes-over s (smallest done))
  or-other s l (some r) = holds-from (λ _ _. tt) (holds-give (some r))

  fits : (s : ℕ) → Holds (λ t. t ≡ u) (fit n s) Found (LeftBy n u)
  unfolding fit
  fits s = holds_looked (λ t e. rw e (or-other s (candidates n u.free) _))

  -- 8 to 11
  refuses-room : Holds (λ t. t ≡ u) (room_refused n) (λ _ t. t ≡ u) (LeftBy n u)
  unfolding room_refused
  refuses-room =
      holds_looked (λ t e.
      rw e
      (let pulled = length u.zombies + length u.free in
      holds_then (λ _ t. t ≡ u) (refuses (ltb u.fields.va n) (RequestedExceedsVa n u.fields.va) refl) (λ _.
      holds_then (λ _ t. t ≡ u) (refuses (ltb PAGES (length u.pages + missing n u / u.fields.page)) PagesFull refl) (λ _.
      holds_then (λ _ t. t ≡ u) (refuses (ltb ZOMBIES pulled || ltb (HOLES - 1) (pulled + length u.holes)) ZombiesFull refl) (λ _.
      refuses (no_hole (smallest_hole n u.holes) && leb ROOTS (length u.roots)) RootsFull refl)))))

  -- 12
  reserves : Holds (λ t. t ≡ u) (reserve_root n) (λ b _. credible b u ≡ true) (LeftBy n u)
  unfolding reserve_root
  reserves =
      holds_looked (λ t e.
      rw e
      (holds_then (λ _ t. t ≡ u) (holds_drive (drives-reserve u.fields.va) (λ _ _. left_other (refl, refl))) (λ x.
      holds_then (λ _ t. t ≡ u) (refuses (failed x) (ReserveFailed u.fields.va u.fields.page) refl) (λ _.
      holds_then (λ _ t. (t ≡ u) × (not (credible (value_of x) u) ≡ false))
      (holds-end_if (not (credible (value_of x) u)) Incredible (λ _ _ _. left_other (refl, refl))) (λ _.
      holds_then (λ _ _. credible (value_of x) u ≡ true) (holds-change _ (λ t q. not-false (credible (value_of x) u) q.1)) (λ _.
      holds_then (λ _ _. credible (value_of x) u ≡ true) (holds-change _ (λ _ q. q)) (λ _. holds-give (value_of x))))))))

  -- the range of `n` bytes from `a` can be put back
  abbrev Back : ℕ → Tables → Type 0
  Back a t = TakenBack n u (pool_of opened (with_holes (insert_hole a n t.holes) t))

-- how many pages are missing of `n` bytes
abbrev lacking : ℕ → Tables → ℕ
lacking n u = missing n u / u.fields.page

-- `n` bytes can be taken from the tables `u`
abbrev Takes : (ℕ → ℕ) → ℕ → Tables → Tables → Type 0
Takes lost n u = TakesFrom lost u.fields.page (bytes u.free) (lacking n u) n

module _ (lost : ℕ → ℕ) (n : ℕ) (u : Tables) (given : Takes lost n u u) where
  root-taken : smallest_hole n u.holes ≡ none → (b : ℕ) (t : Tables) → Reserved lost n u b t → credible b u ≡ true → Back n u b t
  root-taken e b t w c =
      rw (w.tables, root-back b n u.fields.va END given.size.positive given.most 0 u.holes given.sound.holes_apart once) (from_root b e c)
    where
      once : (x : ℕ) → within b u.fields.va x + cover_holes u.holes x ≤ 1
      once x =
          let va = u.fields.va in
          ⊎_elim
          (λ q. omega (arith, within_out b va x (inl q), sound-once given.sound x))
          (λ q.
          ⊎_elim
          (λ r. omega (arith, w.fresh x q r, given.sound.covered x, within_le b va x))
          (λ r. omega (arith, within_out b va x (inr r), sound-once given.sound x))
          (cases_lt x (b + va)))
          (cases_lt x b)

  hole-taken : (h : Hole) → smallest_hole n u.holes ≡ some h → Back n u (from h) (with_holes (cut_hole n (from h) u.holes) u)
  hole-taken h e =
      let m = member-smallest_hole n h u.holes e in
      rw (hole-back n END given.size.positive 0 h u.holes given.sound.holes_apart m.0 m.1) (from_hole h e)

  takes : (o : Option Hole) → smallest_hole n u.holes ≡ o → Holds (λ t. t ≡ u) (take_hole n o) (Back n u) (LeftBy n u)
  unfolding take_hole
  takes none e =
      let kept : Kept lost u = record { sound = given.sound; ceilings = few-ceilings (omega arith) given.few } in
      holds-from (λ t q. (q, q))
      (holds_to (λ b t w. root-taken e b t w.0 w.1)
      (holds-both (λ _ _ _ h. h) (reserves-root lost n u kept given.most (inr given.size)) (reserves n u)))
  takes (some h) e = holds_then (λ _. Back n u (from h)) (holds-change _ (λ t q. rw q (hole-taken h e))) (λ _. holds-give (from h))

  -- the range from `a` on is taken, and can be put back
  abbrev Out : ℕ → Tables → Type 0
  Out a t = TakenRange lost u.fields.page (bytes u.free) (lacking n u) n a t × Back n u a t

  takes_out : Holds (λ t. t ≡ u) (take_range n) Out (LeftBy n u)
  unfolding take_range
  takes_out =
      holds-from (λ t e. (rw e given, e))
      (holds-both (λ _ _ _ h. h) (takes-range lost u.fields.page (bytes u.free) (lacking n u) n)
      (holds_looked (λ t e. rw e (takes (smallest_hole n u.holes) refl))))

  -- 13
  makes-room : (s : ℕ) → Holds (λ t. t ≡ u) (make_room n s) (λ _ _. Unit {0}) (LeftBy n u)
  unfolding make_room
  makes-room s =
      holds_looked (λ t e.
      rw e
      (holds_then Out takes_out (λ a.
      holds_then (λ _ _. Unit {0}) (makes a) (λ _.
      holds-other n u (ends_then Other (inserts-new Other (refl, refl) (λ _. (refl, refl)) (room a)) (fills Other (refl, refl) (λ _. (refl, refl)) (room a)))))))
    where
      room : ℕ → Room
      room a = record { start = a; size = n; missing = missing n u; stream = s }

      makes : (a : ℕ) → Holds (Out a) (make_pages (lacking n u) (room a) a) (λ _ _. Unit {0}) (LeftBy n u)
      makes a =
          let p = u.fields.page in
          let f = bytes u.free in
          holds_named (λ v w.
          makes_or-back lost p f (room a) v (LeftBy n u) (λ _. left_other (refl, refl)) (λ _ _. left_other (refl, refl)) (λ _. left_other (refl, refl))
          (λ _. left_back refl w.1) (lacking n u) (taken-begins lost p f n s given.size (aligned-missing lost p f (lacking n u) n u given) a v w.0))

-- what comes after cleanup
abbrev rest : ℕ → ℕ → Step Outcome
rest n s = fit n s >>= λ o. or_room n s o >>= λ r. hand_over n s r

-- Cleanup left `u`.
module _ (lost : ℕ → ℕ) (n s : ℕ) (u : Tables) (asked : Asked lost n u) where
  or-room : (o : Option FreeRegion) → Holds (Found n u o) (or_room n s o) (λ _ _. Unit {0}) (LeftBy n u)
  unfolding or_room
  or-room none =
      let p = u.fields.page in
      let f = bytes u.free in
      holds_then (λ _ t. Takes lost n u t × (t ≡ u))
      (holds-from (λ t e. (rw e (begins lost n f u asked refl), e)) (holds-both (λ _ _ _ h. h) (admits-room lost p f n s asked.1.0) (refuses-room n u))) (λ _.
      holds_named (λ v w. holds-from (λ t e. e ∙ w.1) (makes-room lost n u (rw w.1 at w.0) s)))
  or-room (some r) = holds-from (λ _ _. tt) (holds-give r)

  hands-over : (r : FreeRegion) → Holds (λ _. Unit {0}) (hand_over n s r) (LeftBy n u) (LeftBy n u)
  unfolding hand_over
  hands-over r =
      holds_then (λ _ _. Unit {0}) (holds-change _ (λ _ _. tt)) (λ _.
      holds_then (λ _ _. Unit {0}) (holds-change _ (λ _ _. tt)) (λ _.
      holds_then (λ _ _. Unit {0}) (holds-change _ (λ _ _. tt)) (λ _.
      holds-from (λ _ _. left_other (refl, refl)) (holds-give (Allocated (address r.start.0) n)))))

  rest-leaves : Holds (λ t. t ≡ u) (rest n s) (LeftBy n u) (LeftBy n u)
  rest-leaves = holds_then (Found n u) (fits n u s) (λ o. holds_then (λ _ _. Unit {0}) (or-room o) hands-over)

-- The steps of a malloc, from the tables `t`.
steps-leave : (lost : ℕ → ℕ) (n s : ℕ) (xs : List ℕ) (t : Tables) → Asked lost n t →
    let w = malloc_steps n s xs 0 t in LeftBy n (cleanup xs 0 t).tables (outcome_of w.ending) w.tables
unfolding malloc_steps ◌>>=◌
steps-leave lost n s xs t asked =
    let c = cleanup xs 0 t in
    let p = t.fields.page in
    let f = bytes t.free in
    go c c.ending ((cleans_up lost p f (SPANS - 1)).leaves xs 0 t (begins lost n f t asked refl)) ((cleanup-ends Other (refl, refl)).leaves xs 0 t tt)
  where
    answered : (u : Tables) (e : Ending Outcome) (v : Tables) → After (LeftBy n u) (LeftBy n u) v e → LeftBy n u (outcome_of e) v
    answered u (on o) v h = h
    answered u (ends o) v h = h

    go : (c : Went (Unit {0})) (e : Ending (Unit {0})) → After (λ _. Fitting lost t.fields.page (bytes t.free) (SPANS - 1)) (Left lost) c.tables e →
        After (λ _ _. Unit {0}) (λ o _. Other o) c.tables e →
        let w = after (λ _. rest n s) xs 0 c.tables c.records e in
        LeftBy n c.tables (outcome_of w.ending) w.tables
    go c (on a) h g =
        let u = c.tables in
        let w = rest n s xs (0 + length c.records) u in
        answered u w.ending w.tables
        ((rest-leaves lost n s u (begins-again lost t.fields.page (bytes t.free) n u asked.1.0 h)).leaves xs (0 + length c.records) u refl)
    go c (ends o) h g = left_other g

-- An answer below 14 leaves the pool open, with the tables that the steps left.
open_after : (p : Pool) (t : Tables) (o : Outcome) (l : List ℕ) → every (λ k. ltb k 14) l ≡ true → among l o ≡ true → pool_after p t o ≡ pool_of opened t
open_after p t o [] h e = absurd (false≢true e)
open_after p t o (k ∷ l) h e =
    let b = both (ltb k 14) (every (λ k. ltb k 14) l) h in
    ⊎_elim (λ q. here (ltb-true k 14 b.0) (eqb-true (numbers o).number k q)) (λ q. open_after p t o l b.1 q) (either (is k o) (among l o) e)
  where
    here : k < 14 → (numbers o).number ≡ k → pool_after p t o ≡ pool_of opened t
    here i q =
        let m = (numbers o).number in
        rw (ne_eqb m 17 (λ z. omega arith), ne_eqb m 14 (λ z. omega arith), ne_eqb m 15 (λ z. omega arith))

module _ (p : Pool) (n s : ℕ) (xs : List ℕ) where
  leaves-refused : (o : Outcome) → Other o → Leaves p n xs (refused p o)
  leaves-refused o h =
      record { before = λ e. absurd (false≢true (sym h.0 ∙ e)); memory = λ e. absurd (false≢true (sym h.1 ∙ e)) }

  leaves-finished : (w : Went Outcome) → LeftBy n (cleaned p xs) (outcome_of w.ending) w.tables → Leaves p n xs (finished p w)
  unfolding finished
  leaves-finished w h =
      let o = outcome_of w.ending in
      record {
        before = λ e. open_after p w.tables o before_room refl e ∙ ap (pool_of opened) (h.same e);
        memory = λ e. rw (open_after p w.tables o (13 ∷ []) refl (rw e)) (h.back e);
      }

  -- none of 1 to 7 applies
  leaves-entered : Entered p → (eqb n 0 || not (eqb (n % p.page) 0)) ≡ false → leb SPANS (p.free.count + p.live.count) ≡ false →
      Leaves p n xs (finished p (malloc_steps n s xs 0 (at_entry p)))
  leaves-entered h sized spare =
      let z = neither (eqb n 0) (not (eqb (n % p.page) 0)) sized in
      let zero : n ≡ 0 → ⊥ = eqb-false n 0 z.0 in
      let whole : Whole p.page n = record { positive = omega arith; aligned = eqb-true (n % p.page) 0 (not-false (eqb (n % p.page) 0) z.1) } in
      let few = leb-false SPANS (p.free.count + p.live.count) spare in
      let spans : length (at_entry p).free + length (at_entry p).live ≤ SPANS - 1 = omega (arith, entry-spans p, few) in
      leaves-finished (malloc_steps n s xs 0 (at_entry p)) (steps-leave h.lost n s xs (at_entry p) (h.kept, (rw (entry-page p) whole, spans)))

-- What a malloc leaves, of any pool and whatever it is handed and answered.
pub malloc-leaves : (p : Pool) (n s : ℕ) (xs : List ℕ) (log : ℕ) → Leaves p n xs (malloc p n s xs log)
unfolding malloc_by
malloc-leaves p n s xs log =
    let K = Leaves p n xs in
    let no = leaves-refused p n s xs in
    admitted-entered K p log _ (no _ (refl, refl)) (no _ (refl, refl)) (no _ (refl, refl)) (no _ (refl, refl)) (no _ (refl, refl)) (λ h.
    tested K (eqb n 0 || not (eqb (n % p.page) 0)) _ _ (no _ (refl, refl)) (λ sized.
    tested K (leb SPANS (p.free.count + p.live.count)) _ _ (no _ (refl, refl)) (λ spare. leaves-entered p n s xs h sized spare)))
