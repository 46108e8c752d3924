-- A rollback takes out just the pages that were made: before the first of them no page starts in the range taken, so that the pages outside the range are
-- those that were there.
use mathlib.Core.Path.{◌≡◌, refl, ap, ◌∙◌}
use mathlib.Core.Logic.{⊎_elim, inr}
use mathlib.Core.Bool.{Bool, true, false, cond, not, ◌&&◌}
use mathlib.Core.List.{List, [], ◌∷◌}
use Prim.Native.Nat.{ℕ, zero, suc, ◌+◌, ◌-◌, ◌≤◌, ◌<◌}
use native.Mathlib.Omega.{arith}
use native.Mathlib.Nat.{suc-mul}
use borrow.Author.Tests.{eq-eqb, ne_eqb, le-leb, lt-leb, lt-ltb, le-ltb}
use lib.Dec.{leb, ltb, eqb}
use Rattle.lists.specs.Tests.{All, Member, filter}
use Rattle.lists.specs.Order.{put, without, Rises}
use Rattle.lists.proofs.Tests.{cases_lt, all_implies}
use Rattle.lists.proofs.Order.{without-none}
use Rattle.lists.proofs.Pairs.{rises_above}
use Rattle.lists.proofs.Filters.{rises-filter, filter-all}
use Rattle.lists.proofs.Members.{member-all, all-members, sum-member}
use Rattle.words.specs.Answers.{code_of, value_of, failed}
use Rattle.words.specs.declared.Answer.{Answer}
use Rattle.tables.specs.Values.{Tables, page, with_holes, with_pages}
use Rattle.tables.specs.InsertHole.{insert_hole}
use Rattle.tables.specs.NewPages.{Room, at, unmake, new_pages, roll_back, is_active, created, make_pages}
use Rattle.tables.specs.declared.Page.{Page}
use Rattle.tables.specs.declared.Outcome.{Outcome}
use Rattle.tables.specs.declared.Outcome.TheVariants.{OutOfMemory, DriverFailed, Incredible, AnswersRanOut}
use Rattle.keeping.specs.Cover.{equal, handles_at}
use Rattle.keeping.specs.Holds.{Holds}
use Rattle.keeping.specs.MakeRoom.{PagesTo}
use Rattle.keeping.proofs.Cover.{within_in, within_out, equal-same}
use Rattle.keeping.proofs.Sounds.{sound-once}
use Rattle.keeping.proofs.NewPages.{holds-map_page, checks-created, maps-page}
use Rattle.keeping.proofs.Holds.{
  holds-from,
  holds_to,
  holds-both,
  holds_then,
  holds-give,
  holds-end,
  holds_looked,
  holds-change,
  holds-cond,
  holds-end_if,
  holds-each,
  holds_drive,
  holds-try,
  drives-create,
  drives-unmap,
  drives-release,
}

-- the page starts at or above `s`, and below `e`
abbrev inside : ℕ → ℕ → Page → Bool
inside s e g = leb s (at g) && ltb (at g) e

-- without the pages that start where one of a list does
abbrev removed : List Page → List Page → List Page
removed [] l = l
removed (g ∷ m) l = removed m (without at (at g) l)

removed-past : (m : List Page) (x : Page) (l : List Page) → All (λ g. at x < at g) m → removed m (x ∷ l) ≡ x ∷ removed m l
removed-past [] x l a = refl
removed-past (g ∷ m) x l a =
    let ne : at x ≡ at g → ⊥ = λ e. omega (arith, a.0) in
    rw (ne_eqb (at x) (at g) ne) (removed-past m x (without at (at g) l) a.1)

without-first : (x : Page) (l : List Page) → Rises at (at x) l → without at (at x) (x ∷ l) ≡ l
without-first x l r = rw (eq-eqb (at x) (at x) refl) (without-none at (at x) (at x) l (omega arith) r)

-- without those that pass a test: those that do not
removed-passed : (q : Page → Bool) (b : ℕ) (l : List Page) → Rises at b l → removed (filter q l) l ≡ filter (λ g. not (q g)) l
removed-passed q b [] r = refl
removed-passed q b (x ∷ l) r = go (q x) (removed-passed q (at x) l r.1)
  where
    go : (c : Bool) → removed (filter q l) l ≡ filter (λ g. not (q g)) l →
        removed (cond c (x ∷ filter q l) (filter q l)) (x ∷ l) ≡ cond (not c) (x ∷ filter (λ g. not (q g)) l) (filter (λ g. not (q g)) l)
    go true e = ap (removed (filter q l)) (without-first x l r.1) ∙ e
    go false e =
        removed-past (filter q l) x l (rises_above at (at x) (filter q l) (rises-filter at q (at x) l r.1)) ∙ ap (λ m. x ∷ m) e

-- tests that go the same way on every page
filter_same : (p q : Page → Bool) (l : List Page) → All (λ g. p g ≡ q g) l → filter p l ≡ filter q l
filter_same p q [] a = refl
filter_same p q (x ∷ l) a = rw (a.0, filter_same p q l a.1)

-- a page that does not pass is put in
filter-put : (q : Page → Bool) (x : Page) (l : List Page) → q x ≡ false → filter q (put at x l) ≡ filter q l
filter-put q x [] e = rw e
filter-put q x (y ∷ l) e = go (leb (at x) (at y)) (filter-put q x l e)
  where
    go : (b : Bool) → filter q (put at x l) ≡ filter q l → filter q (cond b (x ∷ y ∷ l) (y ∷ put at x l)) ≡ filter q (y ∷ l)
    go true h = rw e
    go false h = rw h

-- While pages are made, those in the range are below the next one.
module _ {lost : ℕ → ℕ} {p f k s n a : ℕ} {t : Tables} (w : PagesTo lost p f k s n a t) where
  pages-below : All (λ g. inside s a g ≡ inside s (s + n) g) t.pages
  pages-below = all-members _ t.pages below
    where
      none : (g : Page) → Member g t.pages → s ≤ at g → a ≤ at g → at g < s + n → ⊥
      none g i q r h =
          let x = at g in
          omega (
            arith,
            w.sound.pages_match x (member-all _ g t.pages i w.sound.pages).aligned,
            sound-once w.sound x,
            within_in s n x q h,
            within_out s (a - s) x (inr (omega arith)),
            sum-member (λ y. equal (at y) x) g t.pages i,
            equal-same x,
          )

      below : (g : Page) → Member g t.pages → inside s a g ≡ inside s (s + n) g
      below g i =
          let x = at g in
          ⊎_elim
          (λ q. rw (lt-leb s x q))
          (λ q.
          ⊎_elim
          (λ r.
          let h : x < s + n = omega (arith, w.fits) in
          rw (lt-ltb x a r, lt-ltb x (s + n) h))
          (λ r.
          ⊎_elim (λ h. absurd (none g i q r h)) (λ h. rw (le-ltb x a r, le-ltb x (s + n) h)) (cases_lt x (s + n)))
          (cases_lt x a))
          (cases_lt x s)

-- Before the first page is made, none starts in the range.
pages_outside : {lost : ℕ → ℕ} {p f k s n : ℕ} {t : Tables} → PagesTo lost p f k s n s t →
    filter (λ g. not (inside s (s + n) g)) t.pages ≡ t.pages
pages_outside {s = s} {n} {t} w =
    filter_same (λ g. not (inside s (s + n) g)) (λ g. true) t.pages (all_implies _ _ outside t.pages (pages-below w)) ∙ filter-all t.pages
  where
    outside : (g : Page) → inside s s g ≡ inside s (s + n) g → not (inside s (s + n) g) ≡ true
    outside g e =
        rw (← e)
        (⊎_elim (λ q. rw (lt-leb s (at g) q)) (λ q. rw (le-leb s (at g) q, le-ltb (at g) s q)) (cases_lt (at g) s))

-- Pages are made in the room `o` from the tables `v` on. `E` is what an end leaves: a rollback leaves `v`, with the range as a hole.
module _ (lost : ℕ → ℕ) (p f : ℕ) (o : Room) (v : Tables) (E : Outcome → Tables → Type 0) (short : (t : Tables) → E AnswersRanOut t)
    (fails : (c : ℕ) (t : Tables) → E (DriverFailed c) t) (incredible : (t : Tables) → E Incredible t)
    (back : (made : ℕ) → E (OutOfMemory o.missing made) (with_holes (insert_hole o.start o.size v.holes) v)) where
  -- all tables but the pages are those of `v`, and so are the pages outside the range
  record Adding (t : Tables) : Type 0 where
    tables : t ≡ with_pages t.pages v
    pages : filter (λ g. not (inside o.start (o.start + o.size) g)) t.pages ≡ v.pages

  -- the same, without the pages of a list
  record Removing (m : List Page) (t : Tables) : Type 0 where
    tables : t ≡ with_pages t.pages v
    pages : removed m t.pages ≡ v.pages

  unmakes : (g : Page) (m : List Page) → Holds (Removing (g ∷ m)) (unmake g) (λ _. Removing m) E
  unfolding unmake
  unmakes g m =
      holds_looked (λ u w.
      holds-from (λ t e. rw e w)
      (holds_then (λ _. Removing (g ∷ m)) (holds-try (drives-unmap (at g) u.fields.page) (λ t _. short t)) (λ _.
      holds_then (λ _. Removing m)
      (holds-change _ (λ t w. record { tables = ap (with_pages (without at (at g) t.pages)) w.tables; pages = w.pages })) (λ _.
      holds-try (drives-release g.handle.0) (λ t _. short t)))))

  removes : (k a : ℕ) (u : Tables) → PagesTo lost p f k o.start o.size a u → Adding u → Removing (new_pages o a u.pages) u
  removes k a u w d =
      let s = o.start in
      let e = s + o.size in
      record {
        tables = d.tables;
        pages =
            removed-passed (inside s a) 0 u.pages w.sound.pages_rise ∙
            filter_same _ _ u.pages (all_implies _ (λ g. not (inside s a g) ≡ not (inside s e g)) (λ g e. ap not e) u.pages (pages-below w)) ∙
            d.pages;
      }

  rolls-back : (k a : ℕ) (u : Tables) → PagesTo lost p f k o.start o.size a u → Adding u → Holds (λ t. t ≡ u) (roll_back o a) (λ _ _. ⊥) E
  unfolding roll_back
  rolls-back k a u w d =
      holds_looked (λ z e.
      rw e
      (holds_then (λ _. Removing []) (holds-from (λ t q. rw q (removes k a u w d)) (holds-each Removing unmakes (new_pages o a u.pages))) (λ _.
      holds_then (λ _ t. t ≡ with_holes (insert_hole o.start o.size v.holes) v)
      (holds-change _ (λ t r. ap (λ x. with_holes (insert_hole o.start o.size x.holes) x) (r.tables ∙ ap (λ l. with_pages l v) r.pages))) (λ _.
      holds-from (λ t q. rw q (back (a - o.start))) (holds-end (OutOfMemory o.missing (a - o.start)))))))

  -- A creation that does not end the call changes nothing.
  creates : (k a : ℕ) (x : Answer) (u : Tables) → PagesTo lost p f k o.start o.size a u → Adding u →
      Holds (λ t. t ≡ u) (created o a x) (λ _ t. t ≡ u) E
  unfolding created
  creates k a x u w d =
      holds_looked (λ z e.
      rw e
      (holds_then (λ _ t. t ≡ u)
      (holds-cond (eqb (code_of x) 2) (λ _. holds_to (λ _ t z. absurd z) (rolls-back k a u w d)) (λ _. holds-give tt)) (λ _.
      holds_then (λ _ t. t ≡ u) (holds_to (λ _ t q. q.0) (holds-end_if (failed x) (DriverFailed (code_of x)) (λ t _ _. fails (code_of x) t))) (λ _.
      holds_to (λ _ t q. q.0) (holds-end_if (is_active (value_of x) u.pages) Incredible (λ t _ _. incredible t))))))

  -- the page at `a` is one more
  adds : (k a h : ℕ) (u : Tables) → PagesTo lost p f (suc k) o.start o.size a u → Adding u →
      Adding (with_pages (put at (page a h) u.pages) u)
  adds k a h u w d =
      record {
        tables = ap (with_pages (put at (page a h) u.pages)) d.tables;
        pages = filter-put _ (page a h) u.pages within-range ∙ d.pages;
      }
    where
      within-range : not (inside o.start (o.start + o.size) (page a h)) ≡ false
      within-range =
          let some : 0 < p = omega (arith, w.sound.page, w.making.known.page) in
          let low : o.start ≤ a = w.place.0 in
          let high : a < o.start + o.size = omega (arith, w.fits, suc-mul k p) in
          rw (le-leb o.start a low, lt-ltb a (o.start + o.size) high)

  makes : (k a : ℕ) → Holds (λ t. PagesTo lost p f k o.start o.size a t × Adding t) (make_pages k o a) (λ _ _. Unit {0}) E
  makes zero a = holds-from (λ _ _. tt) (holds-give tt)
  makes (suc k) a =
      let s = o.start in
      let n = o.size in
      holds_looked (λ u w.
      let q : u.fields.page ≡ p = w.0.making.known.page in
      holds_then (λ _ t. t ≡ u) (holds_drive (drives-create u.fields.page) (λ t _. short t)) (λ x.
      holds_then (λ _ t. (PagesTo lost p f (suc k) s n a t × (handles_at t.pages (value_of x) ≡ 0)) × (t ≡ u))
      (holds-from (λ t e. (rw e w.0, e)) (holds-both (λ _ _ _ e. e) (checks-created lost p f (suc k) o a x) (creates (suc k) a x u w.0 w.1))) (λ _.
      holds_then (λ _ t. PagesTo lost p f k s n (a + p) t × Adding t)
      (holds-both (λ _ _ _ e. e) (maps-page lost p f k s n a (value_of x))
      (holds-map_page a (value_of x) Adding (λ t _. short t) (λ c t _. fails c t) (λ t e. rw e (adds k a (value_of x) u w.0 w.1)))) (λ _.
      rw q (makes k (a + p))))))

  -- From the first page on.
  pub makes_or-back : (k : ℕ) → PagesTo lost p f k o.start o.size o.start v → Holds (λ t. t ≡ v) (make_pages k o o.start) (λ _ _. Unit {0}) E
  makes_or-back k w = holds-from (λ t e. rw e (w, record { tables = refl; pages = pages_outside w })) (makes k o.start)
