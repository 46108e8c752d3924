-- Rolling back: each new page is unmapped, where it is mapped and no live buffer lies, and its handle released, which no other page has ever had; then
-- the range is a hole again and nothing is mapped that is in no table.
use mathlib.Core.Path.{◌≡◌, refl, sym, ◌∙◌}
use mathlib.Core.Logic.{inl, inr, ⊎_elim}
use mathlib.Core.Bool.{true, true≢false, ◌&&◌, not}
use mathlib.Core.List.{List, [], ◌∷◌}
use Prim.Native.Nat.{ℕ, ◌+◌, ◌-◌, ◌≤◌, ◌<◌, ◌%◌}
use native.Mathlib.Omega.{arith}
use native.Mathlib.Nat.{mod_self}
use borrow.Author.Tests.{leb-true, ltb-true, not-true}
use lib.Dec.{leb, ltb}
use Rattle.lists.specs.Tests.{All, Member}
use Rattle.lists.specs.Order.{without}
use Rattle.lists.proofs.Tests.{both, cases_lt, all_implies, all_filter}
use Rattle.lists.proofs.Members.{member-all, all-members, member_filter}
use Rattle.words.specs.declared.Word.TheVariants.{Unmap, Release}
use Rattle.tables.specs.Values.{Tables, with_holes, with_pages}
use Rattle.tables.specs.Driver.{unmap, release}
use Rattle.tables.specs.InsertHole.{insert_hole}
use Rattle.tables.specs.NewPages.{Room, at, unmake, new_pages, roll_back}
use Rattle.tables.specs.declared.Page as Pool
use Rattle.tables.specs.declared.Outcome.{Outcome}
use Rattle.tables.specs.declared.Outcome.TheVariants.{OutOfMemory}
use Rattle.keeping.specs.Cover.{within, equal, pages_at, handles_at}
use Rattle.keeping.specs.Sound as S
use Rattle.keeping.specs.Sound.{WholeRange}
use Rattle.keeping.specs.MakeRoom.{PagesTo}
use Rattle.keeping.proofs.Cover.{within_in, within_out, within_le, equal-same}
use Rattle.keeping.proofs.Whole.{aligned-add, within-page}
use Rattle.keeping.proofs.Counting.{rises-once}
use Rattle.keeping.proofs.Sounds.{sound-once}
use Rattle.keeping.proofs.NewPages.{Unmaking, count-others, unmade, pages-new, unmaking-begins, rolls-back}
use Rattle.judge_rules.specs.Ranges.{inside}
use Rattle.judge_rules.specs.Rules.{Judge, Page, R4, R5}
use Rattle.judge_rules.specs.Verdict.{recorded, ruled, unmapped, released}
use Rattle.judge_rules.specs.declared.Run.{Run}
use Rattle.agreement.specs.Agrees.{mapped_at, held_at, Serving, Agreeing, Ended, Ends}
use Rattle.agreement.specs.Judges.{Judges}
use Rattle.agreement.proofs.Judges.{judges-from, judges_to, judges-and, judges_then, judges-end, judges_looked, judges-change, judges-each}
use Rattle.agreement.proofs.Words.{Accepts, judges-try}
use Rattle.agreement.proofs.Meets.{whole-mapped, none-live, held-some, aligned-below, agrees-inside, agrees-seen}
use Rattle.agreement.proofs.Agrees.{spans_at, agrees-page, agrees_as, agrees-holes}
use Rattle.agreement.proofs.Counted.{under_none}
use Rattle.agreement.proofs.Handles.{inside_self, agrees-unmapped, agrees-released}

-- no other mapped page has the handle of `g`
abbrev pub Alone : Judge → Pool.Page → Type 0
Alone z g = All (λ m. m.handle ≡ g.handle.0 → m.at ≡ at g) z.mapped

-- the same of every page that was made from `s` up to `a`
abbrev pub Fresh : ℕ → ℕ → Tables → Judge → Type 0
Fresh s a t z = All (λ g. s ≤ at g → at g < a → Alone z g) t.pages

-- a range covers no more than one that it is part of
within-part : (a n b k x : ℕ) → b ≤ a → a + n ≤ b + k → within a n x ≤ within b k x
within-part a n b k x lo hi =
    ⊎_elim
    (λ (p : x < a). omega (arith, within_out a n x (inl p)))
    (λ (p : a ≤ x).
    ⊎_elim
    (λ (q : x < a + n). omega (arith, within_le a n x, within_in b k x (omega arith) (omega arith)))
    (λ (q : a + n ≤ x). omega (arith, within_out a n x (inr q)))
    (cases_lt x (a + n)))
    (cases_lt x a)

-- the pages `m`, of `p` bytes each, lie in the range of `n` bytes from `s`
abbrev InRange : ℕ → ℕ → ℕ → List Pool.Page → Type 0
InRange p s n m = All (λ g. (s ≤ at g) × (at g + p ≤ s + n)) m

module _ {lost : ℕ → ℕ} {s n : ℕ} {g : Pool.Page} {m : List Pool.Page} {t : Tables} (w : Unmaking lost s n (g ∷ m) t) where
  -- the page is a range of its own, in hand
  page-range : WholeRange t.fields.page (at g) t.fields.page
  page-range =
      record {
        start = member-all _ g t.pages w.here.0 w.sound.pages;
        size = record { positive = w.sound.page; aligned = mod_self t.fields.page };
      }

  handle_gone : handles_at (without at (at g) t.pages) g.handle.0 ≡ 0
  handle_gone = omega (arith, count-others w (λ q. equal q.handle.0 g.handle.0), w.sound.handles_once g.handle.0, equal-same g.handle.0)

  -- what is mapped still has another handle
  handle-free : (z : Judge) → Alone z g → All (λ q. q.handle ≡ g.handle.0 → ⊥) (unmapped z (at g) t.fields.page).mapped
  handle-free z alone = all-members _ (unmapped z (at g) t.fields.page).mapped other
    where
      other : (q : Page) → Member q (unmapped z (at g) t.fields.page).mapped → q.handle ≡ g.handle.0 → ⊥
      other q i e =
          let f = member_filter (λ (p : Page). not (inside (at g) t.fields.page p.at)) q z.mapped i in
          let here : q.at ≡ at g = member-all _ q z.mapped f.0 alone e in
          true≢false (sym (inside_self t.fields.page (at g) w.sound.page) ∙ not-true (inside (at g) t.fields.page (at g)) (rw here at f.1))

  module _ (range : InRange t.fields.page s n (g ∷ m)) where
    page-in-hand : (x : ℕ) → within (at g) t.fields.page x ≤ within s n x
    page-in-hand x = within-part (at g) t.fields.page s n x range.0.0 range.0.1

    -- no table's range lies there, and no other new page
    page-alone : spans_at t (at g) + pages_at m (at g) ≡ 0
    page-alone =
        omega (
          arith,
          sound-once w.sound (at g),
          within_in s n (at g) range.0.0 (omega (arith, range.0.1, w.sound.page)),
          rises-once at 0 (at g) (g ∷ m) w.rises,
          equal-same (at g),
        )

    meets-unmap : {run : Run} {z : Judge} → Agreeing run (pages_at (g ∷ m)) [] t z → R4 z (at g) t.fields.page ≡ true
    unfolding R4
    meets-unmap {z = z} r =
        rw (agrees-page r, whole-mapped t.fields.page (at g) t.fields.page z.mapped w.sound.page page-range there)
        (none-live t.fields.page (at g) t.fields.page z.live t.live r.buffers w.sound.page w.sound.live
        (λ x. omega (arith, page-in-hand x, sound-once w.sound x)))
      where
        there : (x : ℕ) → x % t.fields.page ≡ 0 → at g ≤ x → x < at g + t.fields.page → 0 < mapped_at z.mapped x
        there x e p q =
            omega (
              arith,
              r.mapped x e,
              within-page t.fields.page (at g) x w.sound.page page-range.start.aligned e,
              within_in (at g) t.fields.page x p q,
            )

module _ {run : Run} (serving : Serving run) where
  -- Tables and judge while the new pages `m` are still to be taken out,
  record RollingBack (lost : ℕ → ℕ) (s n : ℕ) (m : List Pool.Page) (t : Tables) (z : Judge) : Type 0 where
    tables : Unmaking lost s n m t
    range : InRange t.fields.page s n m
    agrees : Agreeing run (pages_at m) [] t z
    alone : All (Alone z) m

  -- and where the handle `h` is still held beside, but on no page, neither an active one nor a mapped one.
  record Loose (lost : ℕ → ℕ) (s n h : ℕ) (m : List Pool.Page) (t : Tables) (z : Judge) : Type 0 where
    tables : Unmaking lost s n m t
    range : InRange t.fields.page s n m
    agrees : Agreeing run (pages_at m) (h ∷ []) t z
    alone : All (Alone z) m
    active : handles_at t.pages h ≡ 0
    mapped : All (λ q. q.handle ≡ h → ⊥) z.mapped

  module _ {lost : ℕ → ℕ} {s n : ℕ} {m : List Pool.Page} {t : Tables} {z : Judge} where
    accepts-unmap : {g : Pool.Page} → RollingBack lost s n (g ∷ m) t z →
        Accepts Unmap (at g) t.fields.page z (Loose lost s n g.handle.0 m (with_pages (without at (at g) t.pages) t))
    unfolding recorded ruled
    accepts-unmap {g} r =
        let w = r.tables in
        record {
          inside = agrees-inside serving r.agrees;
          state = unmapped z (at g) t.fields.page;
          accepts = rw (agrees-seen serving r.agrees, meets-unmap w r.range r.agrees);
          holds =
              record {
                tables = unmade w;
                range = r.range.1;
                agrees = agrees-unmapped g r.agrees w.sound.page w.sound.pages_rise w.here.0 (λ x e. refl) (page-alone w r.range);
                alone = all_implies _ _ (λ q a. all_filter _ _ z.mapped a) m r.alone.1;
                active = handle_gone w;
                mapped = handle-free w z r.alone.0;
              };
        }

    accepts-release : {h : ℕ} → Loose lost s n h m t z → Accepts Release h 0 z (RollingBack lost s n m t)
    unfolding recorded ruled R5
    accepts-release {h} r =
        let held : 0 < held_at z.held h = omega (arith, r.agrees.held (λ k. equal k h), equal-same h) in
        record {
          inside = agrees-inside serving r.agrees;
          state = released z h;
          accepts = rw (agrees-seen serving r.agrees, held-some z.held h held, under_none h z.mapped r.mapped);
          holds = record { tables = r.tables; range = r.range; agrees = agrees-released h r.agrees r.active r.mapped; alone = r.alone };
        }

  module _ (lost : ℕ → ℕ) (s n : ℕ) where
    unmakes : {E : Outcome → Tables → Judge → Type 0} (g : Pool.Page) (m : List Pool.Page) →
        Judges (RollingBack lost s n (g ∷ m)) (unmake g) (λ _. RollingBack lost s n m) E
    unfolding unmake unmap release
    unmakes g m =
        judges_looked (λ u.
        judges_then (λ _ t. Loose lost s n g.handle.0 m (with_pages (without at (at g) t.pages) t))
        (judges-try Unmap (at g) u.fields.page (λ _. refl) (λ t z q few. rw q.0 (accepts-unmap q.1))) (λ _.
        judges_then (λ _. Loose lost s n g.handle.0 m) (judges-change _ (λ t z q. q)) (λ _.
        judges-try Release g.handle.0 0 (λ _. refl) (λ t z q few. accepts-release q))))

  module _ (lost : ℕ → ℕ) (p f k : ℕ) (o : Room) (a : ℕ) where
    abbrev s : ℕ
    s = o.start

    rollback-begins : (t : Tables) (z : Judge) → PagesTo lost p f k s o.size a t × (Agreeing run (within s (a - s)) [] t z × Fresh s a t z) →
        RollingBack lost s o.size (new_pages o a t.pages) t z
    rollback-begins t z (w, (r, fresh)) =
        record {
          tables = unmaking-begins lost p f k o a t w;
          range = all-members _ (new_pages o a t.pages) ranged;
          agrees = agrees_as (pages_at (new_pages o a t.pages)) r (pages-new lost p f k o a t w);
          alone = all-members _ (new_pages o a t.pages) alone;
        }
      where
        -- a new page is one of the pages, and starts from `s` up to `a`
        is_new : (g : Pool.Page) → Member g (new_pages o a t.pages) → Member g t.pages × ((s ≤ at g) × (at g < a))
        is_new g i =
            let q = member_filter (λ (b : Pool.Page). leb s (at b) && ltb (at b) a) g t.pages i in
            let b = both (leb s (at g)) (ltb (at g) a) q.1 in
            (q.0, (leb-true s (at g) b.0, ltb-true (at g) a b.1))

        ranged : (g : Pool.Page) → Member g (new_pages o a t.pages) → (s ≤ at g) × (at g + t.fields.page ≤ s + o.size)
        ranged g i =
            let q = is_new g i in
            let e : (s + o.size) % t.fields.page ≡ 0 = aligned-add t.fields.page s o.size w.start.aligned w.size.aligned in
            let here : at g % t.fields.page ≡ 0 = (member-all _ g t.pages q.0 w.sound.pages).aligned in
            (q.1.0, aligned-below t.fields.page (s + o.size) (at g) e here (omega (arith, q.1.1, w.fits)))

        alone : (g : Pool.Page) → Member g (new_pages o a t.pages) → Alone z g
        alone g i = let q = is_new g i in member-all _ g t.pages q.0 fresh q.1.0 q.1.1

    rollback-ends : (t : Tables) (z : Judge) → RollingBack lost s o.size [] t z → Agreeing run S.none [] (with_holes (insert_hole s o.size t.holes) t) z
    rollback-ends t z r = agrees-holes (insert_hole s o.size t.holes) r.agrees

    -- A rollback always ends the call.
    pub judges-roll_back : Judges (λ t z. PagesTo lost p f k s o.size a t × (Agreeing run (within s (a - s)) [] t z × Fresh s a t z)) (roll_back o a) (λ _ _ _. ⊥)
        (Ends run lost)
    unfolding roll_back
    judges-roll_back =
        judges_to (λ _ t z q. q.0)
        (judges-and (rolls-back lost p f k o a)
        (judges_looked (λ u.
        judges-from (λ t z q. rw q.0 (rollback-begins u z q.1))
        (judges_then (λ _. RollingBack lost s o.size [])
        (judges-each (RollingBack lost s o.size) (unmakes lost s o.size) (new_pages o a u.pages)) (λ _.
        judges_then (λ _. Ended run (OutOfMemory o.missing (a - s))) (judges-change _ (λ t z r. (refl, rollback-ends t z r))) (λ _.
        judges-end (OutOfMemory o.missing (a - s)) refl {Q = λ _ _ _. ⊥}))))))
