-- The missing pages. A handle that the pool finds not to be active is held by nobody, so that the judge takes it, and no mapped page has it; the page is
-- mapped in hand, where nothing is. One that is active is held, so that the judge rejects it by R2. Where the creation fails, what was made is rolled back.
use mathlib.Core.Path.{◌≡◌, refl, ap, sym}
use mathlib.Core.Logic.{◌⊎◌, inl, inr, ⊎_elim}
use mathlib.Core.Bool.{Bool, true, false}
use mathlib.Core.List.{List, [], ◌∷◌}
use Prim.Native.Nat.{ℕ, zero, suc, ◌+◌, ◌-◌, ◌*◌, ◌≤◌, ◌<◌, ◌%◌, ◌/◌}
use native.Mathlib.Omega.{arith}
use native.Mathlib.Nat.{suc-mul}
use borrow.Author.Tests.{le-leb, eqb-true}
use lib.Dec.{eqb}
use lib.ListN.{length}
use Rattle.lists.specs.Tests.{All, Member}
use Rattle.lists.specs.Order.{put}
use Rattle.lists.proofs.Tests.{length-mapped, cases_lt, either, all_implies}
use Rattle.lists.proofs.Order.{all-put}
use Rattle.lists.proofs.Walks.{length-sum}
use Rattle.lists.proofs.Members.{member-all, all-members}
use Rattle.words.specs.Words as Words
use Rattle.words.specs.Answers.{code_of, value_of}
use Rattle.words.specs.declared.Answer.{Answer}
use Rattle.words.specs.declared.Answer.TheVariants.{Done, Failed, Missing}
use Rattle.words.specs.declared.Word.TheVariants.{Create, Map}
use Rattle.tables.specs.Values.{Tables, page, with_pages}
use Rattle.tables.specs.Steps.{Act, ◌>>=◌, ◌>>◌}
use Rattle.tables.specs.Driver.{create, map}
use Rattle.tables.specs.NewPages.{Room, at, map_page, is_active, created, make_pages}
use Rattle.tables.specs.declared.Page as Pool
use Rattle.tables.specs.declared.Outcome.TheVariants.{Incredible}
use Rattle.trace.specs.Kinds.{of_record}
use Rattle.keeping.specs.Cover.{within, equal, handles_at}
use Rattle.keeping.specs.Sound as S
use Rattle.keeping.specs.Sound.{Whole}
use Rattle.keeping.specs.MakeRoom.{PagesTo, Made}
use Rattle.keeping.proofs.Cover.{within_in, within_out, within_none}
use Rattle.keeping.proofs.Whole.{aligned-pages}
use Rattle.keeping.proofs.Counting.{none-counted, none_passes}
use Rattle.keeping.proofs.Sounds.{sound-once}
use Rattle.keeping.proofs.NewPages.{next-whole, within-next, next-none, maps-page}
use Rattle.judge_rules.specs.Sizes.{most_held, most_mapped}
use Rattle.judge_rules.specs.Rules.{Judge, Page, R2, R3}
use Rattle.judge_rules.specs.Verdict.{recorded, ruled, sized, with_held, placed}
use Rattle.judge_rules.specs.declared.Run.{Run}
use Rattle.agreement.specs.Premises.{mapped_by}
use Rattle.agreement.specs.Agrees.{held_at, Serving, Agreeing, Ends}
use Rattle.agreement.specs.Judges.{Reach, Breaks, Fair, addresses, Judges}
use Rattle.agreement.proofs.Judges.{judges-from, judges_to, judges-and, judges_then, judges-give, judges_given, judges_looked, judges_looked-at, judges-change, judges-end_if, judges_never}
use Rattle.agreement.proofs.Words.{Accepts, Heard, Excuses, reach-word, reach-failed, breaks-word, fair-code, judges_unless, judges-must}
use Rattle.agreement.proofs.Same.{any-is}
use Rattle.agreement.proofs.Meets.{held-some, held_none, aligned-below, agrees-inside, agrees-seen}
use Rattle.agreement.proofs.Agrees.{agrees_as}
use Rattle.agreement.proofs.Handles.{agrees-created, meets-map, agrees-mapped}
use Rattle.agreement.proofs.RollBack.{Alone, Fresh, judges-roll_back}

-- the page at `a` is active
abbrev with_page : ℕ → ℕ → Tables → Tables
with_page a h t = with_pages (put at (page a h) t.pages) t

-- an active handle counts
active-counted : (h : ℕ) (l : List Pool.Page) → is_active h l ≡ true → 0 < handles_at l h
active-counted h l e = ⊎_elim (λ (q : 0 < handles_at l h). q) (λ (q : handles_at l h ≤ 0). absurd (none (omega arith))) (cases_lt 0 (handles_at l h))
  where
    none : handles_at l h ≡ 0 → ⊥
    none z =
        let r = any-is (λ (g : Pool.Page). eqb g.handle.0 h) l e in
        member-all _ r.0 l r.1.0 (none-counted (λ (g : Pool.Page). g.handle.0) h l z) (eqb-true r.0.handle.0 h r.1.1)

module _ {run : Run} (serving : Serving run) where
  -- What the judge has of the pages made from `s` up to `a`; the same beside what the tables have.
  abbrev JudgedTo : ℕ → ℕ → Tables → Judge → Type 0
  JudgedTo s a t z = Agreeing run (within s (a - s)) [] t z × Fresh s a t z

  abbrev MadeTo : (ℕ → ℕ) → ℕ → ℕ → ℕ → ℕ → ℕ → ℕ → Tables → Judge → Type 0
  MadeTo lost p f k s n a t z = PagesTo lost p f k s n a t × JudgedTo s a t z

  -- The handle `h` for the next one is created, and on no page, neither an active one nor a mapped one.
  record Holding (lost : ℕ → ℕ) (p f k s n a h : ℕ) (t : Tables) (z : Judge) : Type 0 where
    tables : PagesTo lost p f (suc k) s n a t
    agrees : Agreeing run (within s (a - s)) (h ∷ []) t z
    fresh : Fresh s a t z
    active : handles_at t.pages h ≡ 0
    mapped : All (λ q. q.handle ≡ h → ⊥) z.mapped

  -- A handle that is active is held, so that the judge rejects it.
  breaks-create : {new : ℕ → ℕ} {t : Tables} {z : Judge} → Agreeing run new [] t z → (h p : ℕ) → is_active h t.pages ≡ true →
      Breaks z (of_record (Words.create h p 0) ∷ [])
  unfolding recorded ruled R2
  breaks-create {new} {t} {z} g h p e =
      let held : 0 < held_at z.held h = omega (arith, active-counted h t.pages e, g.held (λ i. equal i h)) in
      breaks-word Create h p z (agrees-inside serving g) (inr (rw (agrees-seen serving g, held-some z.held h held)))

  module _ {lost : ℕ → ℕ} {p f k s n a : ℕ} {t : Tables} {z : Judge} where
    -- The active handles are those held, so that one which is not active is held by nobody.
    accepts-create : MadeTo lost p f (suc k) s n a t z → (h : ℕ) → is_active h t.pages ≡ false → Accepts Create h p z (Holding lost p f k s n a h t)
    unfolding recorded ruled sized R2
    accepts-create (w, (g, fresh)) h unused =
        record {
          inside = agrees-inside serving g;
          state = with_held z (h ∷ z.held);
          accepts = rw (agrees-seen serving g, held_none z.held h unheld, le-leb (suc (length z.held)) most_held few);
          holds = record { tables = w; agrees = agrees-created g h; fresh = fresh; active = gone; mapped = all_implies Owned _ other z.mapped g.owned };
        }
      where
        gone : handles_at t.pages h ≡ 0
        gone = none_passes (λ (q : Pool.Page). q.handle.0) h t.pages unused

        unheld : held_at z.held h ≡ 0
        unheld = omega (arith, gone, g.held (λ i. equal i h))

        few : suc (length z.held) ≤ most_held
        few = omega (arith, w.making.few.pages, length-sum z.held, length-sum t.pages, g.held (λ _. 1))

        Owned : Page → Type 0
        Owned q = 0 < held_at z.held q.handle

        -- every handle under a mapped page is held
        other : (q : Page) → Owned q → q.handle ≡ h → ⊥
        other q o e = let i : 0 < held_at z.held h = rw e at o in omega (arith, i, unheld)

    module _ (h : ℕ) (r : Holding lost p f k s n a h t z) where
      abbrev w : PagesTo lost p f (suc k) s n a t
      w = r.tables

      here : Whole t.fields.page a
      here = next-whole w

      in-hand : within s n a ≡ 1
      in-hand = within_in s n a w.place.0 (omega (arith, w.fits, suc-mul k p, w.sound.page, w.making.known.page))

      -- the page at `a` is not yet made
      unmade : within s (a - s) a ≡ 0
      unmade = within_out s (a - s) a (inr (omega (arith, w.place.0)))

      -- The page is in a root, and no range of a table lies there, nor a page made before.
      met : R3 z a h ≡ true
      met =
          meets-map a h r.agrees w.sound.page here.aligned w.sound.va.aligned (all_implies _ _ (λ b q. q.0.aligned) t.roots w.sound.roots)
          (omega (arith, w.sound.covered a, in-hand)) (omega (arith, sound-once w.sound a, in-hand, unmade))

      -- the page at `a` and those made before it
      fresh-mapped : Fresh s (a + p) (with_page a h t) (placed z a h)
      fresh-mapped =
          all-put at _ (page a h) t.pages (λ _ _. ((λ _. refl), all_implies (λ q. q.handle ≡ h → ⊥) _ (λ q d e. absurd (d e)) z.mapped r.mapped))
          (all-members _ t.pages before)
        where
          before : (g : Pool.Page) → Member g t.pages → s ≤ at g → at g < a + p → Alone (placed z a h) g
          before g i lo hi = ((λ e. absurd (differs (sym e))), member-all _ g t.pages i r.fresh lo below)
            where
              differs : g.handle.0 ≡ h → ⊥
              differs = member-all _ g t.pages i (none-counted (λ (q : Pool.Page). q.handle.0) h t.pages r.active)

              below : at g < a
              below =
                  let away : at g ≡ a → ⊥ = member-all _ g t.pages i (none-counted at a t.pages (next-none w)) in
                  let e : at g % t.fields.page ≡ 0 = (member-all _ g t.pages i w.sound.pages).aligned in
                  ⊎_elim
                  (λ (q : at g < a). q)
                  (λ (q : a ≤ at g). absurd (omega (arith, aligned-below t.fields.page (at g) a e here.aligned (omega arith), w.making.known.page)))
                  (cases_lt (at g) a)

      accepts-map : length (mapped_by Map a h (addresses z.mapped)) ≤ most_mapped →
          Accepts Map a h z (JudgedTo s (a + p) (with_page a h t))
      unfolding recorded ruled sized
      accepts-map few =
          let most : suc (length z.mapped) ≤ most_mapped = omega (arith, few, length-mapped (λ (q : Page). q.at) z.mapped (length (addresses z.mapped)) refl) in
          record {
            inside = agrees-inside serving r.agrees;
            state = placed z a h;
            accepts = rw (agrees-seen serving r.agrees, met, le-leb (suc (length z.mapped)) most_mapped most);
            holds = (agrees-mapped a h r.agrees here.aligned (within-next w), fresh-mapped);
          }

  module _ (lost : ℕ → ℕ) (p f k : ℕ) (o : Room) (a : ℕ) where
    abbrev s : ℕ
    s = o.start

    abbrev n : ℕ
    n = o.size

    -- The judge has the page mapped before the pool has it active.
    maps : (h : ℕ) → Judges (Holding lost p f k s n a h) (map_page a h) (λ _. MadeTo lost p f k s n (a + p)) (Ends run lost)
    unfolding map_page map
    maps h =
        judges-from (λ t z r. ((r.tables, r.active), r))
        (judges-and (maps-page lost p f k s n a h)
        (judges-from (λ t z q. q.1)
        (judges_then (λ _ t. JudgedTo s (a + p) (with_page a h t))
        (judges-must Map a h (λ _. refl) (λ t z r few. accepts-map h r few)) (λ _.
        judges-change _ (λ t z q. q)))))

    -- the handle was tested already when it was read
    tests : (h : ℕ) → Judges (Holding lost p f k s n a h) (created o a (Done h)) (λ _. Holding lost p f k s n a h) (Ends run lost)
    unfolding created
    tests h =
        judges-from (λ t z r. (r.active, r))
        (judges_looked-at (λ u gone.
        judges-from (λ t z q. rw q.0 q.1)
        (judges_then (λ _. Holding lost p f k s n a h) (judges-give tt) (λ _.
        judges_then (λ _. Holding lost p f k s n a h) (judges-give tt) (λ _.
        judges_to (λ _ t z q. q.0)
        (judges-end_if (is_active h u.pages) Incredible (λ t z q e. absurd (omega (arith, gone, active-counted h u.pages e)))))))))

    rolls : Judges (MadeTo lost p f (suc k) s n a) (created o a (Failed 2)) (λ _ _ _. ⊥) (Ends run lost)
    unfolding created
    rolls =
        judges_looked (λ u.
        judges-from (λ t z q. rw q.0 q.1)
        (judges_then (λ _ _ _. ⊥) (judges-roll_back serving lost p f (suc k) o a) (λ _. judges_never)))

    -- where the judge stands once it has read the answer to a creation
    abbrev Answered : Answer → Tables → Judge → Type 0
    Answered (Done h) t z = Holding lost p f k s n a h t z
    Answered (Failed c) t z = (c ≡ 2) × MadeTo lost p f (suc k) s n a t z
    Answered Missing t z = ⊥

    module _ (rest : Act) where
      -- what the pool does with the answer
      abbrev makes_page : Answer → Act
      makes_page x = created o a x >> (map_page a (value_of x) >> rest)

      -- what reading the answer may come to
      abbrev Heeds : Answer → Tables → Judge → Type 0
      Heeds x t z =
          let ls = of_record (Words.create (value_of x) p (code_of x)) ∷ [] in
          Reach z ls (Answered x t) ⊎ (Breaks z ls × ((xs : List ℕ) (j : ℕ) → Excuses (makes_page x xs j t).ending))

      reads-handle : (h : ℕ) (t : Tables) (z : Judge) → MadeTo lost p f (suc k) s n a t z → Heeds (Done h) t z
      unfolding created ◌>>=◌
      reads-handle h t z w = go (is_active h t.pages) refl
        where
          go : (b : Bool) → is_active h t.pages ≡ b → Heeds (Done h) t z
          go true e = inr (breaks-create w.1.0 h p e, λ xs j. rw e refl)
          go false e = inl (reach-word Create h p z _ (accepts-create w h e))

      reads-answer : (x : Answer) (t : Tables) (z : Judge) → Heard x → MadeTo lost p f (suc k) s n a t z →
          Fair (addresses z.mapped) (of_record (Words.create (value_of x) p (code_of x)) ∷ []) → Heeds x t z
      reads-answer (Done h) t z y w fair = reads-handle h t z w
      reads-answer (Failed c) t z y w fair =
          let g = w.1.0 in
          let code : c ≡ 2 =
          ⊎_elim (λ e. absurd (y (eqb-true c 0 e))) (λ e. eqb-true c 2 e) (either (eqb c 0) (eqb c 2) (fair-code Create 0 p c (addresses z.mapped) fair)) in
          inl (reach-failed Create 0 p c z (Answered (Failed c) t) y (agrees-inside serving g) (rw (agrees-seen serving g) (code, w)))
      reads-answer Missing t z y w fair = absurd y

      module _ {R : Unit {0} → Tables → Judge → Type 0} (more : Judges (MadeTo lost p f k s n (a + p)) rest R (Ends run lost)) where
        answers : (x : Answer) → Judges (Answered x) (makes_page x) R (Ends run lost)
        answers (Done h) =
            judges_then (λ _. Holding lost p f k s n a h) (tests h) (λ _.
            judges_then (λ _. MadeTo lost p f k s n (a + p)) (maps h) (λ _. more))
        answers (Failed c) = judges_given (λ e. rw e (judges_then (λ _ _ _. ⊥) rolls (λ _. judges_never)))
        answers Missing = judges_never

        creates : Judges (MadeTo lost p f (suc k) s n a) (create p >>= makes_page) R (Ends run lost)
        unfolding create
        creates = judges_unless _ Answered reads-answer answers

  pub judges-make_pages : (lost : ℕ → ℕ) (p f k : ℕ) (o : Room) (a : ℕ) →
      Judges (λ t z. PagesTo lost p f k o.start o.size a t × (Agreeing run (within o.start (a - o.start)) [] t z × Fresh o.start a t z))
      (make_pages k o a)
      (λ _ t z.
      PagesTo lost p f 0 o.start o.size (a + k * p) t ×
      (Agreeing run (within o.start (a + k * p - o.start)) [] t z × Fresh o.start (a + k * p) t z))
      (Ends run lost)
  judges-make_pages lost p f zero o a =
      let e : a + 0 * p ≡ a = omega arith in
      rw e (judges-give tt)
  judges-make_pages lost p f (suc k) o a =
      let e : a + suc k * p ≡ a + p + k * p = omega (arith, suc-mul k p) in
      rw e (judges_looked (λ u.
      judges-from (λ t z q. (q.1.0.making.known.page, rw q.0 q.1))
      (judges_given {P = MadeTo lost p f (suc k) o.start o.size a} (λ (size : u.fields.page ≡ p).
      rw size (creates lost p f k o a (make_pages k o (a + p)) (judges-make_pages lost p f k o (a + p)))))))

  -- All that is missing, in whole pages: before the first one nothing is made.
  pub judges-missing : (lost : ℕ → ℕ) (p f : ℕ) (o : Room) → o.missing % p ≡ 0 →
      Judges (λ t z. PagesTo lost p f (o.missing / p) o.start o.size o.start t × Agreeing run S.none [] t z) (make_pages (o.missing / p) o o.start)
      (λ _ t z. Made lost p f o t × Agreeing run (within o.start o.missing) [] t z) (Ends run lost)
  judges-missing lost p f o e =
      let s = o.start in
      let all : s + o.missing / p * p ≡ s + o.missing = ap (λ m. s + m) (aligned-pages p o.missing e) in
      let made : s + o.missing - s ≡ o.missing = omega arith in
      judges-from (λ t z q. (q.0, (agrees_as (within s (s - s)) q.1 (λ x _. nothing s x), all-members _ t.pages (λ g i lo hi. absurd (omega arith)))))
      (judges_to (λ _ t z q. (q.0, rw made at q.1.0)) (rw all at (judges-make_pages lost p f (o.missing / p) o s)))
    where
      nothing : (s x : ℕ) → 0 ≡ within s (s - s) x
      nothing s x = let e : s - s ≡ 0 = omega arith in rw e (sym (within_none s x))
