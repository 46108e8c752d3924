-- The missing pages. While they are made, the range taken is in hand and the pages from its start up to the next one are bare. A rollback takes out just
-- those, and puts the range back among the holes.
use mathlib.Core.Path.{◌≡◌, refl, ◌∙◌, sym}
use mathlib.Core.Logic.{◌⊎◌, inl, inr, ⊎_elim}
use mathlib.Core.Bool.{Bool, false, ◌&&◌}
use mathlib.Core.List.{List, [], ◌∷◌}
use Prim.Native.Nat.{ℕ, zero, suc, ◌+◌, ◌-◌, ◌*◌, ◌≤◌, ◌<◌, ◌%◌, ◌/◌}
use native.Mathlib.Omega.{arith}
use native.Mathlib.Nat.{suc-mul, zero-mod, mod_self}
use borrow.Author.Tests.{le-leb, lt-leb, lt-ltb, le-ltb}
use lib.Dec.{leb, ltb, eqb}
use lib.ListN.{length}
use Rattle.lists.specs.Tests.{All, Member}
use Rattle.lists.specs.Order.{put, Rises, without}
use Rattle.lists.specs.Walks.{sum}
use Rattle.lists.proofs.Tests.{cases_eq, cases_lt}
use Rattle.lists.proofs.Order.{sum-put, length-put, all-put, rises-below}
use Rattle.lists.proofs.Members.{
  member-all,
  all-members,
  member_filter,
  member_above,
  all_without,
  rises-without,
  sum-without,
  length_without,
  rises-put,
  without-keeps,
}
use Rattle.lists.proofs.Filters.{rises-filter}
use Rattle.words.specs.Answers.{code_of, value_of, failed}
use Rattle.words.specs.declared.Answer.{Answer}
use Rattle.tables.specs.Bounds.{PAGES}
use Rattle.tables.specs.Values.{Tables, page, with_holes, with_pages}
use Rattle.tables.specs.InsertHole.{insert_hole}
use Rattle.tables.specs.NewPages.{Room, at, map_page, unmake, new_pages, roll_back, is_active, created, make_pages}
use Rattle.tables.specs.declared.Page.{Page}
use Rattle.tables.specs.declared.Outcome.{Outcome}
use Rattle.tables.specs.declared.Outcome.TheVariants.{OutOfMemory, DriverFailed, Incredible, AnswersRanOut}
use Rattle.keeping.specs.Cover.{within, equal, pages_at, handles_at}
use Rattle.keeping.specs.Sound.{none, Whole, WholeRange, Sound, Ceilings, Kept, Left}
use Rattle.keeping.specs.Counts.{Making}
use Rattle.keeping.specs.Holds.{Holds}
use Rattle.keeping.specs.MakeRoom.{PagesTo}
use Rattle.keeping.proofs.Holds.{
  holds-from,
  holds_to,
  holds_then,
  holds-give,
  holds-end,
  holds_looked,
  holds-change,
  holds-cond,
  holds-end_if,
  holds-each,
  holds_drive,
  holds-must,
  holds-try,
  drives-create,
  drives-map,
  drives-unmap,
  drives-release,
}
use Rattle.keeping.proofs.Counts.{few-ceilings}
use Rattle.keeping.proofs.Cover.{within_join, within_cut, within_in, within_out, within_none, equal-same, equal-other}
use Rattle.keeping.proofs.Sounds.{sound_as, sound-once, sound-hole, sound-pages, sound-bare}
use Rattle.keeping.proofs.Whole.{aligned-add, aligned-pages, whole-past, within-page}
use Rattle.keeping.proofs.Counting.{none-counted, none_passes, count_kept, count-dropped}

-- a page is mapped, and active there
pub holds-map_page : (a h : ℕ) {P : Tables → Type 0} {E : Outcome → Tables → Type 0} (Q : Tables → Type 0) → ((t : Tables) → P t → E AnswersRanOut t) →
    ((c : ℕ) (t : Tables) → P t → E (DriverFailed c) t) → ((t : Tables) → P t → Q (with_pages (put at (page a h) t.pages) t)) →
    Holds P (map_page a h) (λ _. Q) E
unfolding map_page
holds-map_page a h {P} Q short fails put = holds_then (λ _. P) (holds-must (drives-map a h) short fails) (λ _. holds-change _ put)

-- While a rollback goes on: the range from `s` is in hand, and the new pages `m` in it are still to be taken out,
pub record Unmaking (lost : ℕ → ℕ) (s n : ℕ) (m : List Page) (t : Tables) : Type 0 where
  pub sound : Sound lost (within s n) (pages_at m) t
  pub here : All (λ g. Member g t.pages) m
  pub rises : Rises at 0 m

-- and there is room for the hole that the range becomes.
record RollingBack (lost : ℕ → ℕ) (p f k s n : ℕ) (m : List Page) (t : Tables) : Type 0 where
  pub pages : Unmaking lost s n m t
  pub start : Whole t.fields.page s
  pub size : Whole t.fields.page n
  pub making : Making p f k s n t

-- While pages are made the ceilings hold, whatever ends the call.
pub making-ceilings : {p f k s n : ℕ} {t : Tables} → Making p f k s n t → Ceilings t
making-ceilings w = few-ceilings (omega arith) w.few

making-pages : {p f k s n : ℕ} {t : Tables} (j : ℕ) (l : List Page) → length l + j ≤ PAGES → Making p f k s n t → Making p f j s n (with_pages l t)
making-pages j l h w =
    record {
      few = record { pages = h; spans = w.few.spans; zombies = w.few.zombies; holes = w.few.holes; roots = w.few.roots };
      pullable = record { zombies = w.pullable.zombies; holes = w.pullable.holes };
      back = w.back;
      known = record { page = w.known.page; free = w.known.free };
    }

-- At what is in hand no free or live range lies, so that every page there is bare.
pages-bare : {lost bare : ℕ → ℕ} {t : Tables} (s n : ℕ) → Sound lost (within s n) bare t → (x : ℕ) → x % t.fields.page ≡ 0 → s ≤ x → x < s + n →
    pages_at t.pages x ≡ bare x
pages-bare s n w x e p q = omega (arith, w.pages_match x e, sound-once w x, within_in s n x p q)

module _ {lost : ℕ → ℕ} {s n : ℕ} {g : Page} {m : List Page} {t : Tables} (w : Unmaking lost s n (g ∷ m) t) where
  abbrev left : List Page
  left = without at (at g) t.pages

  -- the others, as a count has them
  pub count-others : (c : Page → ℕ) → c g + sum c left ≡ sum c t.pages
  count-others c = sum-without at c 0 g t.pages w.sound.pages_rise w.here.0

  -- a page is taken out
  pub unmade : Unmaking lost s n m (with_pages left t)
  unmade =
      record {
        sound =
            sound-pages w.sound left (all_without at _ (at g) t.pages w.sound.pages) (rises-without at (at g) 0 t.pages w.sound.pages_rise)
            (λ x e. omega (arith, count-others (λ q. equal q.start.0 x)))
            (λ h. omega (arith, count-others (λ q. equal q.handle.0 h), w.sound.handles_once h));
        here = all-members _ m still;
        rises = rises-below at 0 (at g) m (omega arith) w.rises.1;
      }
    where
      -- the others start above `g`
      still : (q : Page) → Member q m → Member q left
      still q i =
          let apart : at q ≡ at g → ⊥ = λ e. omega (arith, member_above at (at g) q m w.rises.1 i) in
          without-keeps at (at g) q t.pages (member-all _ q m i w.here.1) apart

-- One more page is to be made, the one at `a`.
module _ {lost : ℕ → ℕ} {p f k s n a : ℕ} {t : Tables} (w : PagesTo lost p f (suc k) s n a t) where
  pub next-whole : Whole t.fields.page a
  next-whole =
      let e : s + (a - s) ≡ a = omega (arith, w.place.0) in
      rw e at (whole-past (a - s) w.start w.place.1)

  next-room : a + p + k * p ≤ s + n
  next-room = omega (arith, w.fits, suc-mul k p)

  next-ends : a + p - s ≡ a - s + p
  next-ends = omega (arith, w.place.0)

  pub within-next : (x : ℕ) → x % t.fields.page ≡ 0 → within s (a + p - s) x ≡ within s (a - s) x + equal a x
  within-next x e =
      let q : t.fields.page ≡ p = w.making.known.page in
      let b : s + (a - s) ≡ a = omega (arith, w.place.0) in
      let j : within s (a - s + p) x ≡ within s (a - s) x + within a p x = rw b at (within_join s (a - s) p x) in
      rw next-ends (j ∙ rw (within-page p a x (rw q at w.sound.page) (rw q at next-whole.aligned) (rw q at e)))

  -- no page starts there yet
  pub next-none : pages_at t.pages a ≡ 0
  next-none =
      let g : 0 < p = omega (arith, w.sound.page, w.making.known.page) in
      pages-bare s n w.sound a next-whole.aligned w.place.0 (omega (arith, next-room)) ∙ within_out s (a - s) a (inr (omega (arith, w.place.0)))

module _ (lost : ℕ → ℕ) (p f : ℕ) where
  rolls-on : (k s n : ℕ) (g : Page) (m : List Page) (t : Tables) → RollingBack lost p f k s n (g ∷ m) t →
      RollingBack lost p f k s n m (with_pages (without at (at g) t.pages) t)
  rolls-on k s n g m t w =
      let u = w.pages in
      let fewer = length_without at 0 g t.pages u.sound.pages_rise u.here.0 in
      record {
        pages = unmade u;
        start = w.start;
        size = w.size;
        making = making-pages k (without at (at g) t.pages) (omega (arith, fewer, w.making.few.pages)) w.making;
      }

  unmakes : (k s n : ℕ) (g : Page) (m : List Page) →
      Holds (RollingBack lost p f k s n (g ∷ m)) (unmake g) (λ _. RollingBack lost p f k s n m) (Left lost)
  unfolding unmake
  unmakes k s n g m =
      holds_looked (λ u w.
      holds-from (λ t e. rw e w)
      (holds_then (λ _. RollingBack lost p f k s n (g ∷ m)) (holds-try (drives-unmap (at g) u.fields.page) (λ t _. tt)) (λ _.
      holds_then (λ _. RollingBack lost p f k s n m) (holds-change _ (rolls-on k s n g m)) (λ _.
      holds-try (drives-release g.handle.0) (λ t _. tt)))))

  -- The new pages are those that are bare.
  pub pages-new : (k : ℕ) (o : Room) (a : ℕ) (t : Tables) → PagesTo lost p f k o.start o.size a t → (x : ℕ) → x % t.fields.page ≡ 0 →
      within o.start (a - o.start) x ≡ pages_at (new_pages o a t.pages) x
  pages-new k o a t w x e =
      ⊎_elim
      (λ q. outside (inl q) (rw (lt-leb s x q)))
      (λ g. ⊎_elim (inside g) (λ q. outside (inr (omega (arith, w.place.0))) (rw (le-leb s x g, le-ltb x a q))) (cases_lt x a))
      (cases_lt x s)
    where
      s : ℕ
      s = o.start

      new : ℕ → Bool
      new y = leb s y && ltb y a

      outside : (x < s) ⊎ (s + (a - s) ≤ x) → new x ≡ false → within s (a - s) x ≡ pages_at (new_pages o a t.pages) x
      outside q n = within_out s (a - s) x q ∙ sym (count-dropped at new x t.pages n)

      inside : s ≤ x → x < a → within s (a - s) x ≡ pages_at (new_pages o a t.pages) x
      inside g q = sym (count_kept at new x t.pages (rw (le-leb s x g, lt-ltb x a q)) ∙ pages-bare s o.size w.sound x e g (omega (arith, w.fits)))

  pub unmaking-begins : (k : ℕ) (o : Room) (a : ℕ) (t : Tables) → PagesTo lost p f k o.start o.size a t →
      Unmaking lost o.start o.size (new_pages o a t.pages) t
  unmaking-begins k o a t w =
      record {
        sound = sound-bare w.sound (pages-new k o a t w);
        here = all-members _ (new_pages o a t.pages) (λ g i. (member_filter _ g t.pages i).0);
        rises = rises-filter at _ 0 t.pages w.sound.pages_rise;
      }

  rollback-begins : (k : ℕ) (o : Room) (a : ℕ) (t : Tables) → PagesTo lost p f k o.start o.size a t →
      RollingBack lost p f k o.start o.size (new_pages o a t.pages) t
  rollback-begins k o a t w =
      record { pages = unmaking-begins k o a t w; start = w.start; size = w.size; making = w.making }

  rollback-ends : (k s n : ℕ) (t : Tables) → RollingBack lost p f k s n [] t → Kept lost (with_holes (insert_hole s n t.holes) t)
  rollback-ends k s n t w =
      record {
        sound = sound-hole w.pages.sound s n (λ x. omega arith) (λ _. record { start = w.start; size = w.size });
        ceilings =
            record {
              pages = omega (arith, w.making.few.pages);
              spans = omega (arith, w.making.few.spans);
              zombies = w.making.few.zombies;
              holes = w.making.back;
              roots = w.making.few.roots;
            };
      }

  -- A rollback always ends the call, and loses no address.
  pub rolls-back : (k : ℕ) (o : Room) (a : ℕ) → Holds (PagesTo lost p f k o.start o.size a) (roll_back o a) (λ _ _. ⊥) (Left lost)
  unfolding roll_back
  rolls-back k o a =
      holds_looked (λ u w.
      holds-from (λ t e. rw e (rollback-begins k o a u w))
      (holds_then (λ _. RollingBack lost p f k o.start o.size [])
      (holds-each (RollingBack lost p f k o.start o.size) (unmakes k o.start o.size) (new_pages o a u.pages)) (λ _.
      holds_then (λ _. Kept lost) (holds-change _ (rollback-ends k o.start o.size)) (λ _.
      holds-end (OutOfMemory o.missing (a - o.start))))))

  -- A creation that does not end the call gave a handle that is not active.
  pub checks-created : (k : ℕ) (o : Room) (a : ℕ) (x : Answer) →
      Holds (PagesTo lost p f k o.start o.size a) (created o a x)
      (λ _ t. PagesTo lost p f k o.start o.size a t × (handles_at t.pages (value_of x) ≡ 0)) (Left lost)
  unfolding created
  checks-created k o a x =
      holds_looked (λ u w.
      let ceilings : (t : Tables) → t ≡ u → Ceilings t = λ t e. rw e (making-ceilings w.making) in
      holds_then (λ _ t. t ≡ u)
      (holds-cond (eqb (code_of x) 2) (λ _. holds_to (λ _ t z. absurd z) (holds-from (λ t e. rw e w) (rolls-back k o a))) (λ _. holds-give tt)) (λ _.
      holds_then (λ _ t. t ≡ u) (holds_to (λ _ t q. q.0) (holds-end_if (failed x) (DriverFailed (code_of x)) (λ t e _. ceilings t e))) (λ _.
      holds_to (λ _ t q. (rw q.0 w, rw q.0 (none_passes (λ (g : Page). g.handle.0) (value_of x) u.pages q.1)))
      (holds-end_if (is_active (value_of x) u.pages) Incredible (λ t e _. ceilings t e)))))

  module _ (k s n a h : ℕ) (t : Tables) (w : PagesTo lost p f (suc k) s n a t) (fresh : handles_at t.pages h ≡ 0) where
    handles-once : (i : ℕ) → equal h i + handles_at t.pages i ≤ 1
    handles-once i =
        ⊎_elim
        (λ e. rw (← e) (omega (arith, equal-same h)))
        (λ e. omega (arith, equal-other h i e, w.sound.handles_once i))
        (cases_eq h i)

    page-mapped : PagesTo lost p f k s n (a + p) (with_pages (put at (page a h) t.pages) t)
    page-mapped =
        let l = put at (page a h) t.pages in
        let q : t.fields.page ≡ p = w.making.known.page in
        record {
          sound =
              sound-pages w.sound l (all-put at _ (page a h) t.pages (next-whole w) w.sound.pages)
              (rises-put at 0 (page a h) t.pages (next-whole w).positive (none-counted at a t.pages (next-none w)) w.sound.pages_rise)
              (λ x e. omega (arith, sum-put at (λ (g : Page). equal g.start.0 x) (page a h) t.pages, within-next w x e))
              (λ i. omega (arith, sum-put at (λ (g : Page). equal g.handle.0 i) (page a h) t.pages, handles-once i));
          start = w.start;
          size = w.size;
          place = (omega (arith, w.place.0), rw (next-ends w) (aligned-add t.fields.page (a - s) p w.place.1 (rw q (mod_self p))));
          fits = next-room w;
          making = making-pages k l (omega (arith, length-put at (page a h) t.pages, w.making.few.pages)) w.making;
        }

  pub maps-page : (k s n a h : ℕ) →
      Holds (λ t. PagesTo lost p f (suc k) s n a t × (handles_at t.pages h ≡ 0)) (map_page a h) (λ _. PagesTo lost p f k s n (a + p)) (Left lost)
  maps-page k s n a h =
      holds-map_page a h (PagesTo lost p f k s n (a + p)) (λ t _. tt) (λ c t w. making-ceilings w.0.making)
      (λ t w. page-mapped k s n a h t w.0 w.1)

  pub makes-pages : (k : ℕ) (o : Room) (a : ℕ) →
      Holds (PagesTo lost p f k o.start o.size a) (make_pages k o a) (λ _. PagesTo lost p f 0 o.start o.size (a + k * p)) (Left lost)
  makes-pages zero o a =
      let e : a + 0 * p ≡ a = omega arith in
      rw e (holds-give tt)
  makes-pages (suc k) o a =
      let s = o.start in
      let n = o.size in
      let e : a + suc k * p ≡ a + p + k * p = omega (arith, suc-mul k p) in
      rw e (holds_looked (λ u w.
      let q : u.fields.page ≡ p = w.making.known.page in
      holds-from (λ t e. rw e w)
      (holds_then (λ _. PagesTo lost p f (suc k) s n a) (holds_drive (drives-create u.fields.page) (λ t _. tt)) (λ x.
      holds_then _ (checks-created (suc k) o a x) (λ _.
      holds_then (λ _. PagesTo lost p f k s n (a + p)) (maps-page k s n a (value_of x)) (λ _.
      rw q (makes-pages k o (a + p))))))))

-- Before the first page nothing is bare.
pub pages-begin : (lost : ℕ → ℕ) (p f k s n : ℕ) (t : Tables) → Sound lost (within s n) none t → Whole t.fields.page s → Whole t.fields.page n → k * p ≤ n →
    Making p f k s n t → PagesTo lost p f k s n s t
pages-begin lost p f k s n t w start size h making =
    let z : s - s ≡ 0 = omega arith in
    record {
      sound = rw z (sound_as w (λ x. refl) (λ x. sym (within_none s x)));
      start = start;
      size = size;
      place = (omega arith, rw z (zero-mod t.fields.page));
      fits = omega arith;
      making = making;
    }

-- All that is missing, in whole pages.
pub makes-missing : (lost : ℕ → ℕ) (p f : ℕ) (o : Room) → o.missing % p ≡ 0 →
    Holds (PagesTo lost p f (o.missing / p) o.start o.size o.start) (make_pages (o.missing / p) o o.start)
    (λ _. PagesTo lost p f 0 o.start o.size (o.start + o.missing)) (Left lost)
makes-missing lost p f o e =
    rw (aligned-pages p o.missing e) at (makes-pages lost p f (o.missing / p) o o.start)

-- Once all are made: the range is the made part, which is bare, and the rest.
module _ (lost : ℕ → ℕ) (p f s n m : ℕ) (t : Tables) (w : PagesTo lost p f 0 s n (s + m) t) where
  made : s + m - s ≡ m
  made = omega arith

  pub made-within : m ≤ n
  made-within = omega (arith, w.fits)

  pub made-sound : Sound lost (λ x. within (s + m) (n - m) x + within s m x) (λ x. none x + within s m x) t
  made-sound = sound_as w.sound (λ x. omega (arith, within_cut s n m x made-within)) (λ x. rw made (omega arith))

  pub made-whole : 0 < m → WholeRange t.fields.page s m
  made-whole h = record { start = w.start; size = record { positive = h; aligned = rw made at w.place.1 } }
