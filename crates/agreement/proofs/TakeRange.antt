-- Taking a range. A hole that is cut tells the judge nothing. A new root is read as a reservation: the judge finds its base credible just where the pool does,
-- since the reservations are the roots; where the pool does not, the call ends in 15 and the judge rejects the record by R1.
use mathlib.Core.Path.{◌≡◌, refl, ap, sym, ◌∙◌}
use mathlib.Core.Logic.{◌⊎◌, inl, inr}
use mathlib.Core.Bool.{Bool, true, false, ◌&&◌, not, false≢true}
use mathlib.Core.List.{List, [], ◌∷◌, ◌++◌}
use mathlib.Core.Option.{Option, some, none}
use Prim.Native.Nat.{ℕ, suc, ◌+◌, ◌-◌, ◌≤◌, ◌<◌, ◌%◌}
use native.Mathlib.Omega.{arith}
use borrow.Author.Tests.{not-true, leb-true, le-leb, eq-eqb, ne_eqb}
use lib.Dec.{leb, eqb}
use lib.ListN.{length}
use Rattle.lists.specs.Tests.{every}
use Rattle.lists.proofs.Tests.{both}
use Rattle.words.specs.Words as Words
use Rattle.words.specs.Answers.{code_of, value_of, failed}
use Rattle.words.specs.declared.Answer.{Answer}
use Rattle.words.specs.declared.Answer.TheVariants.{Done, Failed, Missing}
use Rattle.words.specs.declared.Word.TheVariants.{Reserve}
use Rattle.tables.specs.Bounds.{END, VA}
use Rattle.tables.specs.Values.{Tables, address, with_roots}
use Rattle.tables.specs.Steps.{Step, ◌>>=◌, ◌>>◌, give, end_if, change_holes, add_root}
use Rattle.tables.specs.InsertHole.{from, insert_hole}
use Rattle.tables.specs.Driver.{reserve}
use Rattle.tables.specs.TakeRange.{smallest_hole, cut_hole, credible, reserve_root, take_hole, take_range}
use Rattle.tables.specs.declared.Hole.{Hole}
use Rattle.tables.specs.declared.Outcome.TheVariants.{ReserveFailed, Incredible}
use Rattle.trace.specs.Kinds.{of_record}
use Rattle.keeping.specs.Sound as S
use Rattle.keeping.specs.Sound.{Whole, Kept}
use Rattle.keeping.specs.MakeRoom.{TakesFrom}
use Rattle.keeping.proofs.Counts.{few-ceilings}
use Rattle.keeping.proofs.TakeRange.{rooted, Reserved, reserves-root, TakenRange, takes-range}
use Rattle.judge_rules.specs.Ranges as Ranges
use Rattle.judge_rules.specs.Rules.{Judge, R1}
use Rattle.judge_rules.specs.Rules as Rules
use Rattle.judge_rules.specs.Verdict.{recorded, ruled, sized, reserved}
use Rattle.judge_rules.specs.declared.Run.{Run}
use Rattle.agreement.specs.Agrees.{Serving, Agreeing, Ended, Ends}
use Rattle.agreement.specs.Judges.{Reach, Breaks, Judges}
use Rattle.agreement.proofs.Judges.{judges-from, judges_to, judges-and, judges_then, judges-give, judges-end, judges_given, judges_looked, judges-known, judges-change, judges-end_if, judges_never}
use Rattle.agreement.proofs.Words.{Accepts, Heard, Excuses, reach-word, reach-failed, breaks-word, judges_unless}
use Rattle.agreement.proofs.Same.{same-every, same-every-back, same_push, same_length}
use Rattle.agreement.proofs.Meets.{agrees-inside, agrees-seen}
use Rattle.agreement.proofs.Agrees.{agrees-page, agrees-holes}

first_four : (a b c d x y z : Bool) → (a && b && c && d && x && y && z) ≡ true → (a ≡ true) × ((b ≡ true) × ((c ≡ true) × (d ≡ true)))
first_four true true true true x y z e = (refl, (refl, (refl, refl)))
first_four false b c d x y z e = absurd (false≢true e)
first_four true false c d x y z e = absurd (false≢true e)
first_four true true false d x y z e = absurd (false≢true e)
first_four true true true false x y z e = absurd (false≢true e)

module _ {run : Run} (serving : Serving run) where
  module _ {u : Tables} {s : Judge} (g : Agreeing run S.none [] u s) (small : u.fields.va ≤ VA) (whole : Whole u.fields.page u.fields.va) (b : ℕ) (c : credible b u ≡ true) where
    -- A base that the pool finds credible, the judge does.
    reserve-meets : R1 s b u.fields.va ≡ true
    unfolding credible R1 Rules.credible
    reserve-meets =
        let va : s.run.va ≡ u.fields.va = ap (λ (r : Run). r.va) g.runs ∙ g.va in
        let start = both (not (eqb b 0)) _ c in
        let aligned = both (eqb (b % u.fields.page) 0) _ start.1 in
        let fits = both (leb b (END - u.fields.va)) _ aligned.1 in
        let clear = same-every g.reservations (λ r. Ranges.clear b u.fields.va r.base r.size) fits.1 in
        rw (
          agrees-page g,
          va,
          start.0,
          aligned.0,
          le-leb (b + u.fields.va) END (omega (arith, leb-true b (END - u.fields.va) fits.0)),
          clear,
          eq-eqb u.fields.va u.fields.va refl,
          ne_eqb u.fields.va 0 (λ e. omega (arith, whole.positive)),
          eq-eqb (u.fields.va % u.fields.page) 0 whole.aligned,
        )

    agrees-rooted : (n : ℕ) → Agreeing run S.none [] (rooted n b u) (reserved s b u.fields.va)
    agrees-rooted n =
        record {
          runs = g.runs;
          page = g.page;
          va = g.va;
          reservations = same_push g.reservations (address b);
          held = g.held;
          aligned = g.aligned;
          mapped = g.mapped;
          active = g.active;
          owned = g.owned;
          buffers = g.buffers;
          last = g.last;
        }

    accepts-reserve : length u.roots < 16 → {R : Judge → Type 0} → R (reserved s b u.fields.va) → Accepts Reserve b u.fields.va s R
    unfolding recorded ruled sized
    accepts-reserve room r =
        record {
          inside = agrees-inside serving g;
          state = reserved s b u.fields.va;
          accepts =
              rw (agrees-seen serving g, reserve-meets, same_length g.reservations, le-leb (suc (length u.roots)) 16 room);
          holds = r;
        }

  module _ {u : Tables} {s : Judge} (g : Agreeing run S.none [] u s) (small : u.fields.va ≤ VA) (b : ℕ) where
    -- One that the judge finds credible, the pool does;
    met-reserve : R1 s b u.fields.va ≡ true → credible b u ≡ true
    unfolding credible R1 Rules.credible
    met-reserve e =
        let va = u.fields.va in
        let others = every (λ r. Ranges.clear b va r.base r.size) s.reservations in
        let q = first_four (not (eqb b 0)) (eqb (b % s.run.page) 0) (leb (b + va) END) others _ _ _ e in
        let fits : b + va ≤ END = leb-true (b + va) END q.1.1.0 in
        let clear = same-every-back g.reservations (λ r. Ranges.clear b va r.base r.size) q.1.1.1 in
        rw (q.0, ← agrees-page g, q.1.0, le-leb b (END - va) (omega arith), clear)

    -- so it rejects one that the pool does not.
    breaks-reserve : credible b u ≡ false → Breaks s (of_record (Words.reserve b u.fields.va 0) ∷ [])
    unfolding recorded ruled
    breaks-reserve e = breaks-word Reserve b u.fields.va s (agrees-inside serving g) (inl (rw (agrees-seen serving g, fails (R1 s b u.fields.va) refl)))
      where
        fails : (m : Bool) → R1 s b u.fields.va ≡ m → R1 s b u.fields.va ≡ false
        fails true q = absurd (false≢true (sym e ∙ met-reserve q))
        fails false q = q

  module _ (lost : ℕ → ℕ) (n : ℕ) (u : Tables) (kept : Kept lost u) (room : length u.roots < 16) where
    -- what the pool does with the answer
    abbrev takes_root : Answer → Step ℕ
    takes_root x = do
      end_if (failed x) (ReserveFailed u.fields.va u.fields.page)
      end_if (not (credible (value_of x) u)) Incredible
      add_root (value_of x)
      change_holes (insert_hole (value_of x + n) (u.fields.va - n))
      give (value_of x)

    -- where the judge stands once it has read the answer
    abbrev Answered : Answer → Tables → Judge → Type 0
    Answered (Done b) t s = (t ≡ u) × ((credible b u ≡ true) × Agreeing run S.none [] (rooted n b u) s)
    Answered (Failed c) t s = (t ≡ u) × Agreeing run S.none [] u s
    Answered Missing t s = ⊥

    -- what reading the answer may come to
    abbrev Heeds : Answer → Tables → Judge → Type 0
    Heeds x t s =
        let ls = of_record (Words.reserve (value_of x) u.fields.va (code_of x)) ∷ [] in
        Reach s ls (Answered x t) ⊎ (Breaks s ls × ((xs : List ℕ) (k : ℕ) → Excuses (takes_root x xs k t).ending))

    reads-base : (b : ℕ) (t : Tables) (s : Judge) → (t ≡ u) × Agreeing run S.none [] u s → Heeds (Done b) t s
    unfolding ◌>>=◌
    reads-base b t s p = go (credible b u) refl
      where
        go : (c : Bool) → credible b u ≡ c → Heeds (Done b) t s
        go false e = inr (breaks-reserve p.1 kept.sound.small b e, λ xs k. rw e refl)
        go true e =
            let g = p.1 in
            let small = kept.sound.small in
            let whole = kept.sound.va in
            inl (reach-word Reserve b u.fields.va s _ (accepts-reserve g small whole b e room (p.0, (e, agrees-rooted g small whole b e n))))

    reads-answer : (x : Answer) (t : Tables) (s : Judge) → Heard x → (t ≡ u) × Agreeing run S.none [] u s → Heeds x t s
    reads-answer (Done b) t s y p = reads-base b t s p
    reads-answer (Failed c) t s y p =
        inl (reach-failed Reserve 0 u.fields.va c s (Answered (Failed c) t) y (agrees-inside serving p.1) (rw (agrees-seen serving p.1) p))
    reads-answer Missing t s y p = absurd y

    roots-answer : (x : Answer) →
        Judges (Answered x) (takes_root x) (λ _ t s. Agreeing run S.none [] t s) (Ended run)
    roots-answer (Done b) =
        judges_then (λ _. Answered (Done b)) (judges-give tt) (λ _.
        judges_then (λ _. Answered (Done b))
        (judges_to (λ _ t s q. q.0) (judges-end_if (not (credible b u)) Incredible (λ t s p e. absurd (false≢true (sym (not-true (credible b u) e) ∙ p.1.0))))) (λ _.
        judges_then (λ _ t s. (t ≡ with_roots (u.roots ++ address b ∷ []) u) × Agreeing run S.none [] (rooted n b u) s)
        (judges-change _ (λ t s p. (rw p.0, p.1.1))) (λ _.
        judges_then (λ _ t s. Agreeing run S.none [] t s) (judges-change _ (λ t s p. rw p.0 p.1)) (λ _. judges-give b))))
    roots-answer (Failed c) =
        judges_then (λ _ _ _. ⊥) (judges-from (λ t s p. (refl, rw p.0 p.1)) (judges-end (ReserveFailed u.fields.va u.fields.page) refl)) (λ _. judges_never)
    roots-answer Missing = judges_never

    reserves : Judges (λ t s. (t ≡ u) × Agreeing run S.none [] u s) (reserve_root n) (λ _ t s. Agreeing run S.none [] t s) (Ended run)
    unfolding reserve_root reserve
    reserves = judges-known u (λ w e. rw e (judges_unless _ Answered (λ x t s y p _. reads-answer x t s y p) roots-answer))

  pub judges-reserve_root : (lost : ℕ → ℕ) (n : ℕ) (u : Tables) (kept : Kept lost u) (most : n ≤ u.fields.va) (size : (n ≡ 0) ⊎ Whole u.fields.page n) →
      length u.roots < 16 →
      Judges (λ t s. (t ≡ u) × Agreeing run S.none [] u s) (reserve_root n) (λ b t s. Reserved lost n u b t × Agreeing run S.none [] t s)
      (Ends run lost)
  judges-reserve_root lost n u kept most size room = judges-and (reserves-root lost n u kept most size) (reserves lost n u kept room)

  module _ (lost : ℕ → ℕ) (p f k n : ℕ) (u : Tables) (given : TakesFrom lost p f k n u) where
    takes : (o : Option Hole) → smallest_hole n u.holes ≡ o →
        Judges (λ t s. (t ≡ u) × Agreeing run S.none [] u s) (take_hole n o) (λ _ t s. Agreeing run S.none [] t s) (Ended run)
    unfolding take_hole
    takes none e = reserves lost n u (record { sound = given.sound; ceilings = few-ceilings (omega arith) given.few }) (given.root (rw e))
    takes (some h) e =
        judges_then (λ _ t s. Agreeing run S.none [] t s) (judges-change _ (λ t s q. rw q.0 (agrees-holes (cut_hole n (from h) u.holes) q.1))) (λ _.
        judges-give (from h))

  pub judges-take_range : (lost : ℕ → ℕ) (p f k n : ℕ) →
      Judges (λ t s. TakesFrom lost p f k n t × Agreeing run S.none [] t s) (take_range n) (λ a t s. TakenRange lost p f k n a t × Agreeing run S.none [] t s)
      (Ends run lost)
  unfolding take_range
  judges-take_range lost p f k n =
      judges-and (takes-range lost p f k n)
      (judges_looked (λ u.
      judges-from (λ t s q. (q.1.0, (q.0, q.1.1)))
      (judges_given (λ given. takes lost p f k n u given (smallest_hole n u.holes) refl))))
