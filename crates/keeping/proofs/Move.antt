-- Moving pages: the page at each address of a list is taken out of the page table and put in, with its handle, at the next address of a range in hand.
-- What is left of the list and what is filled of the range are bare all along.
use mathlib.Core.Path.{◌≡◌, refl, ap, ◌∙◌}
use mathlib.Core.Logic.{inl, inr}
use mathlib.Core.List.{List, [], ◌∷◌}
use Prim.Native.Nat.{ℕ, suc, ◌+◌, ◌-◌, ◌*◌, ◌≤◌, ◌<◌, ◌%◌}
use native.Mathlib.Omega.{arith}
use native.Mathlib.Nat.{zero-mul, suc-mul, mod_self}
use borrow.Author.Tests.{eq-eqb, ne_eqb}
use lib.ListN.{length}
use Rattle.lists.specs.Tests.{All, Member}
use Rattle.lists.specs.Order.{put, Rises, without}
use Rattle.lists.specs.Walks.{sum}
use Rattle.lists.proofs.Order.{sum-put, length-put, all-put}
use Rattle.lists.proofs.Members.{member_above, all_without, rises-without, sum-without, length_without, rises-put, member-sum}
use Rattle.tables.specs.Bounds.{SPANS}
use Rattle.tables.specs.Values
use Rattle.tables.specs.Values.{Tables, with_pages}
use Rattle.tables.specs.Steps.{◌>>◌, change_pages}
use Rattle.tables.specs.NewPages.{at, map_page}
use Rattle.tables.specs.Pull.{pages_in, handle_at, move_pages}
use Rattle.tables.specs.declared.FreeRegion.{FreeRegion}
use Rattle.tables.specs.declared.Zombie.{Zombie}
use Rattle.tables.specs.declared.Page.{Page}
use Rattle.keeping.specs.Cover.{within, equal, cover_zombies, pages_at, keys_at}
use Rattle.keeping.specs.Sound.{none, Sound, Whole, WholeRange, Ceilings, Left}
use Rattle.keeping.specs.Counts.{Few}
use Rattle.keeping.specs.Move.{Movable, Moving}
use Rattle.keeping.specs.Holds.{Holds}
use Rattle.keeping.proofs.Cover.{within_join, within_none, within_out, equal-same, equal-positive}
use Rattle.keeping.proofs.Whole.{whole-past, within-page}
use Rattle.keeping.proofs.Counting.{none-counted}
use Rattle.keeping.proofs.Sounds.{sound-bare, sound-pages}
use Rattle.keeping.proofs.NewPages.{holds-map_page}
use Rattle.keeping.proofs.Pull.{Pulled}
use Rattle.keeping.proofs.PageStarts.{whole_starts_of, length_starts_of, count_starts_of}
use Rattle.keeping.proofs.Holds.{holds-known, holds-from, holds_to, holds_given, holds_then, holds-give, holds_looked}

-- the handle of the page that starts there
pub handle_at-is : (b : ℕ) (g : Page) (l : List Page) → Rises at b l → Member g l → handle_at (at g) l ≡ g.handle.0
handle_at-is b g (k ∷ l) r (inl e) = rw (← e, eq-eqb (at g) (at g) refl)
handle_at-is b g (k ∷ l) r (inr m) =
    let apart : at k ≡ at g → ⊥ = λ e. omega (arith, member_above at (at k) g l r.1 m) in
    rw (ne_eqb (at k) (at g) apart) (handle_at-is (at k) g l r.1 m)
handle_at-is b g [] r x'' = elim x'' [ ]

-- the tables without the page at `b`, and with it at `a`
abbrev pub unpaged : ℕ → Tables → Tables
unpaged b t = with_pages (without at b t.pages) t

abbrev moved : ℕ → ℕ → Tables → Tables
moved b a t = with_pages (put at (Values.page a (handle_at b t.pages)) (without at b t.pages)) t

module _ (lost hand before : ℕ → ℕ) (b : ℕ) (t : Tables) (w : Sound lost hand before t) (g : Page) (m : Member g t.pages) (e : at g ≡ b) where
  without-page : (f : Page → ℕ) → f g + sum f (without at b t.pages) ≡ sum f t.pages
  without-page f = rw (← e) (sum-without at f 0 g t.pages w.pages_rise m)

  pub length_unpaged : suc (length (without at b t.pages)) ≡ length t.pages
  length_unpaged = rw (← e) (length_without at 0 g t.pages w.pages_rise m)

  length_moved : (a : ℕ) → length (moved b a t).pages ≡ length t.pages
  length_moved a = length-put at _ (without at b t.pages) ∙ length_unpaged

  -- one page moved to `a`, where none is: `before` and `after` are what is bare
  sound-moved : (after : ℕ → ℕ) (a : ℕ) → Whole t.fields.page a → pages_at t.pages a ≡ 0 →
      ((x : ℕ) → x % t.fields.page ≡ 0 → before x + equal a x ≡ after x + equal b x) → Sound lost hand after (moved b a t)
  sound-moved after a whole empty bare =
      sound-pages w (put at new left)
      (all-put at _ new left whole (all_without at _ b t.pages w.pages))
      (rises-put at 0 new left whole.positive (none-counted at a left (omega (arith, without-page (λ k. equal (at k) a)))) (rises-without at b 0 t.pages w.pages_rise))
      (λ x h.
      omega (arith, bare x h, without-page (λ k. equal (at k) x), sum-put at (λ k. equal (at k) x) new left, ap (λ y. equal y x) e))
      (λ h.
      omega (
        arith,
        w.handles_once h,
        without-page (λ k. equal k.handle.0 h),
        sum-put at (λ k. equal k.handle.0 h) new left,
        ap (λ y. equal y h) same,
      ))
    where
      left : List Page
      left = without at b t.pages

      new : Page
      new = Values.page a (handle_at b t.pages)

      same : handle_at b t.pages ≡ g.handle.0
      same = rw (← e) (handle_at-is 0 g t.pages w.pages_rise m)

module _ (lost hand : ℕ → ℕ) (p base a c : ℕ) (f : List FreeRegion) (b : ℕ) (bs : List ℕ) (t : Tables) (w : Moving lost hand p base a c f (b ∷ bs) t) where
  -- the page at `b`
  pub page-there : (g : Page) × (Member g t.pages × (at g ≡ b))
  page-there =
      let some : 0 < pages_at t.pages b = omega (arith, w.sound.pages_match b (rw w.page w.starts.0.aligned), equal-same b) in
      let r = member-sum (λ g. equal (at g) b) t.pages some in
      (r.0, (r.1.0, equal-positive (at r.0) b r.1.1))

  -- none is at `a`: it is in hand, so no table holds it
  none-there : pages_at t.pages a ≡ 0
  none-there =
      omega (
        arith,
        w.sound.pages_match a (rw w.page w.whole.aligned),
        w.sound.covered a,
        w.sound.roots_once a,
        w.room a (omega arith) (omega (arith, suc-mul (length bs) p, rw w.page at w.sound.page)),
        w.apart a w.whole.aligned,
        within_out base (a - base) a (inr (omega (arith, w.past))),
      )

  pub moving-next : Moving lost hand p base (a + p) c f bs (moved b a t)
  moving-next =
      record {
        sound = sound-moved lost hand _ b t w.sound g m e _ a (rw w.page w.whole) none-there bare;
        starts = w.starts.1;
        apart = λ x h. omega (arith, w.apart x h);
        whole = whole-past p w.whole (mod_self p);
        past = omega (arith, w.past);
        room = λ x le lt. w.room x (omega arith) (omega (arith, suc-mul (length bs) p));
        few =
            record {
              pages = omega (arith, w.few.pages, length_moved lost hand _ b t w.sound g m e a);
              spans = w.few.spans;
              zombies = w.few.zombies;
              holes = w.few.holes;
              roots = w.few.roots;
            };
        page = w.page;
        free = w.free;
      }
    where
      g : Page
      g = page-there.0

      m : Member g t.pages
      m = page-there.1.0

      e : at g ≡ b
      e = page-there.1.1

      bare : (x : ℕ) → x % t.fields.page ≡ 0 →
          keys_at (λ b. b) (b ∷ bs) x + within base (a - base) x + equal a x ≡ keys_at (λ b. b) bs x + within base (a + p - base) x + equal b x
      bare x h =
          let here : base + (a - base) ≡ a = omega (arith, w.past) in
          let size : (a - base) + p ≡ a + p - base = omega (arith, w.past) in
          let join : within base (a + p - base) x ≡ within base (a - base) x + within a p x = rw (here, size) at (within_join base (a - base) p x) in
          omega (arith, within-page p a x (rw w.page at w.sound.page) w.whole.aligned (rw w.page at h))

  -- a page that is out of the tables when a map fails leaves them within their ceilings
  ceilings_unpaged : c ≤ SPANS → Ceilings (unpaged b t)
  ceilings_unpaged bound =
      record {
        pages = omega (arith, w.few.pages, length_unpaged lost hand _ b t w.sound page-there.0 page-there.1.0 page-there.1.1);
        spans = omega (arith, w.few.spans);
        zombies = w.few.zombies;
        holes = w.few.holes;
        roots = w.few.roots;
      }

holds-moves : (lost hand : ℕ → ℕ) (p base a c : ℕ) (f : List FreeRegion) (bs : List ℕ) → c ≤ SPANS →
    Holds (Moving lost hand p base a c f bs) (move_pages bs a) (λ _. Moving lost hand p base (a + length bs * p) c f []) (Left lost)
holds-moves lost hand p base a c f [] bound =
    let e : a + 0 * p ≡ a = omega (arith, zero-mul p) in
    rw e (holds-give tt)
holds-moves lost hand p base a c f (b ∷ bs) bound = holds_looked (λ u w. one u w (holds-moves lost hand p base (a + p) c f bs bound))
  where
    one : (u : Tables) → Moving lost hand p base a c f (b ∷ bs) u →
        Holds (Moving lost hand p base (a + p) c f bs) (move_pages bs (a + p)) (λ _. Moving lost hand p base (a + p + length bs * p) c f []) (Left lost) →
        Holds (λ t. t ≡ u) (change_pages (without at b) >> (map_page a (handle_at b u.pages) >> move_pages bs (a + u.fields.page)))
        (λ _. Moving lost hand p base (a + length (b ∷ bs) * p) c f []) (Left lost)
    one u w next =
        let e : a + suc (length bs) * p ≡ a + p + length bs * p = omega (arith, suc-mul (length bs) p) in
        rw e
        (holds_then (λ _ t. t ≡ unpaged b u) (holds-known _ u)
        (λ _. holds_then (λ _. Moving lost hand p base (a + p) c f bs)
        (holds-map_page a (handle_at b u.pages) _ (λ t q. tt) (λ k t q. rw q (ceilings_unpaged lost hand p base a c f b bs u w bound))
        (λ t q. rw q (moving-next lost hand p base a c f b bs u w)))
        (λ _. rw w.page next)))

-- They are there: just the range is bare.
pub record Moved (lost hand : ℕ → ℕ) (p a n c : ℕ) (f : List FreeRegion) (t : Tables) : Type 0 where
  pub sound : Sound lost hand (within a n) t
  pub few : Few 0 c t
  pub page : t.fields.page ≡ p
  pub free : t.free ≡ f

module _ (lost hand : ℕ → ℕ) (p a c : ℕ) (f : List FreeRegion) (zs : List Zombie) where
  pub moving-first : (t : Tables) → Movable lost hand p a c f zs t → Moving lost hand p a a c f (pages_in p zs) t
  moving-first t w =
      record {
        sound = sound-bare w.sound bare;
        starts = whole_starts_of (λ z. z.start.0) (λ z. z.size) p zs w.ranges;
        apart = λ x h. omega (arith, count_starts_of (λ z. z.start.0) (λ z. z.size) p zs pos w.ranges x h, w.among x, w.sound.covered x, w.sound.roots_once x);
        whole = w.whole;
        past = omega arith;
        room = λ x le lt. w.room x le (omega (arith, length_starts_of (λ z. z.start.0) (λ z. z.size) p zs w.ranges));
        few = w.few;
        page = w.page;
        free = w.free;
      }
    where
      pos : 0 < p
      pos = rw w.page at w.sound.page

      bare : (x : ℕ) → x % t.fields.page ≡ 0 → cover_zombies zs x ≡ keys_at (λ b. b) (pages_in p zs) x + within a (a - a) x
      bare x h =
          let nothing : a - a ≡ 0 = omega arith in
          rw nothing (omega (arith, within_none a x, count_starts_of (λ z. z.start.0) (λ z. z.size) p zs pos w.ranges x (rw w.page at h)))

  moved-last : (t : Tables) → All (λ z. WholeRange p z.start.0 z.size) zs → Moving lost hand p a (a + length (pages_in p zs) * p) c f [] t →
      Moved lost hand p a (sum (λ z. z.size) zs) c f t
  moved-last t ranges w =
      record { sound = sound-bare w.sound bare; few = w.few; page = w.page; free = w.free }
    where
      n : ℕ
      n = sum (λ z. z.size) zs

      bare : (x : ℕ) → x % t.fields.page ≡ 0 → 0 + within a (a + length (pages_in p zs) * p - a) x ≡ within a n x
      bare x h =
          let e : a + length (pages_in p zs) * p - a ≡ n =
          omega (arith, length_starts_of (λ z. z.start.0) (λ z. z.size) p zs ranges) in
          rw e (omega arith)

  pub moves-pages : c ≤ SPANS → Holds (Movable lost hand p a c f zs) (move_pages (pages_in p zs) a) (λ _. Moved lost hand p a (sum (λ z. z.size) zs) c f) (Left lost)
  moves-pages bound =
      holds-from (λ t w. (w.ranges, moving-first t w))
      (holds_given (λ ranges. holds_to (λ _ t. moved-last t ranges) (holds-moves lost hand p a a c f (pages_in p zs) bound)))

  -- the parts that were pulled can be moved
  pub pulled-movable : (lacks : ℕ) (keep l : List FreeRegion) (t : Tables) → Pulled lost hand none p lacks c keep l zs t → t.free ≡ f → Whole p a →
      ((x : ℕ) → a ≤ x → x < a + lacks → hand x ≡ 1) → Movable lost hand p a c f zs t
  pulled-movable lacks keep l t w free whole room =
      record {
        sound = sound-bare w.sound (λ x h. omega arith);
        ranges = w.whole;
        among = λ x. omega (arith, w.among x);
        whole = whole;
        room = λ x le lt. room x le (omega (arith, w.total));
        few = w.few;
        page = w.page;
        free = free;
      }
