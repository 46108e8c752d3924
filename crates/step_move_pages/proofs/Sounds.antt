-- What the code leans on, read off the tables around it: a page to be moved is in the table, so there is room for it at its new address; the range in
-- hand and the zombies end where addresses end.
use mathlib.Core.Path.{◌≡◌, ap, ◌∙◌}
use mathlib.Core.Logic.{inl, inr, ⊎_elim}
use mathlib.Core.List.{List, [], ◌∷◌, ◌++◌}
use Prim.Native.Nat.{ℕ, suc, ◌+◌, ◌*◌, ◌/◌, ◌≤◌, ◌<◌}
use native.Mathlib.Omega.{arith}
use native.Mathlib.Nat.{suc-mul, add-mul}
use lib.Dec.{eqb}
use lib.ListN.{length, length-append}
use Rattle.lists.specs.Tests.{All, Member}
use Rattle.lists.specs.Places.{place}
use Rattle.lists.specs.Order.{put, without}
use Rattle.lists.proofs.Tests.{cases_lt}
use Rattle.lists.proofs.Order.{length-put, without_is}
use Rattle.lists.proofs.Found.{remove_at-past}
use Rattle.lists.proofs.Members.{all-members, member-all, sum-member}
use Rattle.tables.specs.Bounds.{END, PAGES}
use Rattle.tables.specs.Values
use Rattle.tables.specs.Values.{pages_of, pack_pages, with_pages}
use Rattle.tables.specs.Kept.{KeptPages}
use Rattle.tables.specs.NewPages.{at}
use Rattle.tables.specs.Pull.{starts, pages_in, handle_at}
use Rattle.tables.specs.declared.Zombie.{Zombie}
use Rattle.tables.specs.Values.{Pages}
use Rattle.tables.proofs.Packs.{pages_pack, pages-kept, pages-count}
use Rattle.keeping.specs.Cover.{within, cover_zombies}
use Rattle.keeping.specs.Sound.{WholeRange}
use Rattle.keeping.proofs.Cover.{within_in, within_out}
use Rattle.keeping.proofs.Whole.{aligned-pages}
use Rattle.keeping.proofs.PageStarts.{length-starts}
use Rattle.keeping.proofs.Sounds.{sound-zombies, sound-range}
use Rattle.keeping.proofs.Move.{page-there, length_unpaged, moving-next, moving-first}
use Rattle.step_move_pages.specs.Promises.{Waiting, PagesMovable}

module _ {page a : ℕ} {bs : List ℕ} {g : Pages} (w : Waiting page a bs g) where
  pub page-positive : 0 < page
  page-positive = omega (arith, w.moving.sound.page, w.moving.page)

  -- the new range ends where addresses end
  pub fits : (n : ℕ) → 0 < n → n ≤ length bs * page → a + n ≤ END
  fits n positive le = sound-range w.moving.sound a n positive inside
    where
      inside : (x : ℕ) → within a n x ≤ w.hand x
      inside x =
          ⊎_elim
          (λ lt. omega (arith, within_out a n x (inl lt)))
          (λ past.
          ⊎_elim (λ lt. omega (arith, within_in a n x past lt, w.moving.room x past (omega arith))) (λ out. omega (arith, within_out a n x (inr out)))
          (cases_lt x (a + n)))
          (cases_lt x a)

module _ {page a b : ℕ} {bs : List ℕ} {g : Pages} (w : Waiting page a (b ∷ bs) g) where
  fewer : suc (length (without at b (pages_of g))) ≡ length (pages_of g)
  fewer =
      let t = with_pages (pages_of g) w.around in
      let q = page-there w.lost w.hand page w.base a w.spans w.around.free b bs t w.moving in
      length_unpaged w.lost w.hand _ b t w.moving.sound q.0 q.1.0 q.1.1

  pub fits-page : a + page ≤ END
  fits-page = fits w page (page-positive w) (omega (arith, suc-mul (length bs) page))

  few : length (pages_of g) ≤ PAGES
  few = omega (arith, w.moving.few.pages)

  -- its place is one of those in use
  pub in-use : place (λ q. eqb (at q) b) (pages_of g) < g.count
  in-use =
      let gone : length (pages_of g) ≤ place (λ q. eqb (at q) b) (pages_of g) → without at b (pages_of g) ≡ pages_of g =
      λ past. without_is at b 0 (pages_of g) w.moving.sound.pages_rise ∙ remove_at-past _ (pages_of g) past in
      ⊎_elim (λ h. omega (arith, pages-count g w.pages)) (λ past. absurd (omega (arith, fewer, ap length (gone past))))
      (cases_lt (place (λ q. eqb (at q) b) (pages_of g)) (length (pages_of g)))

  pub kept-left : KeptPages (pack_pages (without at b (pages_of g)))
  kept-left = pages-kept _ (omega (arith, fewer, few))

  kept_there : (h : ℕ) → KeptPages (pack_pages (put at (Values.page a h) (without at b (pages_of g))))
  kept_there h = pages-kept _ (omega (arith, length-put at (Values.page a h) (without at b (pages_of g)), fewer, few))

  pub waiting-next : Waiting page (a + page) bs (pack_pages (put at (Values.page a (handle_at b (pages_of g))) (without at b (pages_of g))))
  waiting-next =
      record {
        pages = kept_there _;
        lost = w.lost;
        hand = w.hand;
        base = w.base;
        spans = w.spans;
        around = w.around;
        moving = rw pages_pack
            (moving-next w.lost w.hand page w.base a w.spans w.around.free b bs (with_pages (pages_of g) w.around) w.moving);
      }

-- the pages of a whole range, and the others
module _ {page b n : ℕ} (range : WholeRange page b n) where
  pub length-range : length (starts (n / page) b page) * page ≡ n
  length-range = rw (length-starts (n / page) b page) (aligned-pages page n range.size.aligned)

  pub fits-range : {a : ℕ} {g : Pages} (bs : List ℕ) → Waiting page a (starts (n / page) b page ++ bs) g → a + n ≤ END
  fits-range bs w =
      let l = starts (n / page) b page in
      fits w n range.size.positive (rw (length-append l bs, add-mul (length l) (length bs) page) (omega (arith, length-range)))

module _ {page a : ℕ} {pulled : List Zombie} {g : Pages} (c : PagesMovable page a pulled g) where
  pub waiting-first : Waiting page a (pages_in page pulled) g
  waiting-first =
      record {
        pages = c.pages;
        lost = c.lost;
        hand = c.hand;
        base = a;
        spans = c.spans;
        around = c.around;
        moving = moving-first c.lost c.hand page a c.spans c.around.free pulled (with_pages (pages_of g) c.around) c.movable;
      }

  -- a zombie is in no other table, and the roots end where addresses end
  pub ranges : All (λ y. WholeRange page y.start.0 y.size × (y.start.0 + y.size ≤ END)) pulled
  ranges = all-members _ pulled one
    where
      one : (y : Zombie) → Member y pulled → WholeRange page y.start.0 y.size × (y.start.0 + y.size ≤ END)
      one y m =
          let range = member-all _ y pulled m c.movable.ranges in (
            range,
            sound-range (sound-zombies c.movable.sound {hand' = λ x. cover_zombies c.around.zombies x + c.hand x} [] tt (λ x. omega arith) tt) y.start.0 y.size range.size.positive
                (λ x. omega (arith, sum-member (λ q. within q.start.0 q.size x) y pulled m, c.movable.among x)),
          )
