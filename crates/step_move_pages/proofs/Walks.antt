-- The loops: where moving the pages that are left goes from here, moving all of them goes from where the loop began. The rule takes a page out before its
-- map and puts it in after; the map reads no table, so the code does both at once after it, or only takes it out where the map failed.
use mathlib.Core.Path.{◌≡◌, refl, sym, ap, ◌∙◌}
use mathlib.Core.List.{List, ◌∷◌, ◌++◌}
use Prim.Native.Nat.{ℕ, suc, ◌+◌, ◌-◌, ◌*◌, ◌/◌, ◌≤◌, ◌<◌}
use native.Mathlib.Omega.{arith}
use native.Mathlib.Nat.{zero-mul}
use lib.ListN.{length, length-append, get_or, drop, drop_of_length-le}
use lib.Seq.{drop-cons}
use Rattle.std.specs.Prelude.{Ok, Err}
use Rattle.lists.specs.Tests.{All}
use Rattle.lists.specs.Order.{without}
use Rattle.words.specs.declared.Word.TheVariants.{Map}
use Rattle.tables.specs.Bounds.{END}
use Rattle.tables.specs.Values.{Tables, Pages, pages_of, pack_pages, with_pages}
use Rattle.tables.specs.Steps.{Ending, on, ends}
use Rattle.tables.specs.Driver.{must, map}
use Rattle.tables.specs.NewPages.{at}
use Rattle.tables.specs.Pull.{starts, pages_in, handle_at, move_pages}
use Rattle.tables.specs.declared.Outcome.{Outcome}
use Rattle.tables.specs.declared.Zombie.{Zombie}
use Rattle.tables.proofs.Packs.{pages_pack}
use Rattle.keeping.specs.Sound.{WholeRange}
use Rattle.keeping.proofs.PageStarts.{length-starts}
use Rattle.driving.specs.Ran.{Ran, Point, Drove, Lent, stands}
use Rattle.driving.specs.Promises.{telling}
use Rattle.driving.specs.declared.Driver.{Driver}
use Rattle.driving.proofs.Ran.{gave}
use Rattle.driving.proofs.Lent.{lent-same, lent-then}
use Rattle.plain_tables.specs.Promises.{moved_page}
use Rattle.step_move_pages.specs.Promises.{starts_in, ZombieMovable, Waiting, Moves, PagesMovable, MovesPages}
use Rattle.step_move_pages.proofs.Turns.{starts_more, starts_none, mul-more, not-on, mapped_as, move-on, move-stop}
use Rattle.step_move_pages.proofs.Sounds.{kept-left, waiting-next, waiting-first, ranges, length-range, fits-range}

-- Of the `k` pages from `b` on, that go to `a` and on, `left` are left: those from `b'` on, that go to `a'` and on.
pub record Walks (page a b k : ℕ) (d : Driver) (g : Pages) (left a' b' : ℕ) (d' : Driver) (g' : Pages) : Type 0 where
  pub lent : Lent d d'
  pub most : d'.made + left ≤ d.made + k
  pub from : b' + left * page ≡ b + k * page
  pub to : a' + left * page ≡ a + k * page
  pub again : (others : List ℕ) → Waiting page a (starts k b page ++ others) g → Waiting page a' (starts left b' page ++ others) g'
  pub goes : (others : List ℕ) (t : Tables) → t.fields.page ≡ page → (e : Ending (Unit {0})) (u : Point) →
      Ran (move_pages (starts left b' page ++ others) a') d.answers.now (stands d' (with_pages (pages_of g') t)) e u →
      Ran (move_pages (starts k b page ++ others) a) d.answers.now (stands d (with_pages (pages_of g) t)) e u

pub walks-first : {page a b k left : ℕ} {d : Driver} {g : Pages} → left ≡ k → Walks page a b k d g left a b d g
walks-first {d = d} z =
    rw z (record { lent = lent-same d; most = omega arith; from = refl; to = refl; again = λ others w. w; goes = λ others t q e u r. r })

module _ {page a b k left a' b' : ℕ} {d d' : Driver} {g g' : Pages} (s : Walks page a b k d g left a' b' d' g') where
  pub walks_done : left ≡ 0 → (others : List ℕ) → Waiting page a (starts k b page ++ others) g → Moves (starts k b page) page a d g (Ok tt) d' g'
  walks_done z others w =
      let none = starts_none left b' page z in
      let nothing : left * page ≡ 0 = rw z (zero-mul page) in
      let last : a + length (starts k b page) * page ≡ a' = rw (length-starts k b page) (omega (arith, s.to)) in
      record {
        lent = s.lent;
        goes = λ f others t q e u r. s.goes others t q e u (rw none (rw last at r));
        stops = λ o f. not-on (sym f);
        pages = (s.again others w).pages;
        most = omega (arith, s.most, length-starts k b page);
        again = λ f others w. rw last (rw none at (s.again others w));
      }

  module _ (h : 0 < left) where
    -- the first of the pages that are left, and the others
    pub waits : (others : List ℕ) → Waiting page a (starts k b page ++ others) g → Waiting page a' (b' ∷ starts (left - 1) (b' + page) page ++ others) g'
    waits others w = rw (starts_more left b' page h) at (s.again others w)

    module _ {x : ℕ} {e : Ending (Unit {0})} {d'' : Driver} (q : x ≡ handle_at b' (pages_of g')) (c : Drove (must (telling Map a' x)) d' e d'') where
      -- the map, of the rule's own handle
      mapped : (t : Tables) →
          Ran (must (map a' (handle_at b' (pages_of g')))) d.answers.now (stands d' (with_pages (without at b' (pages_of g')) t)) e
          (stands d'' (with_pages (without at b' (pages_of g')) t))
      mapped t = mapped_as a' q (rw s.lent.answers at (c.ran (with_pages (without at b' (pages_of g')) t)))

      pub walks-next : e ≡ on tt → {g'' : Pages} → g'' ≡ pack_pages (moved_page b' a' (pages_of g')) →
          Walks page a b k d g (left - 1) (a' + page) (b' + page) d'' g''
      walks-next on-is p =
          record {
            lent = lent-then s.lent c.lent;
            most = omega (arith, s.most, c.made, h);
            from = omega (arith, s.from, mul-more left page h);
            to = omega (arith, s.to, mul-more left page h);
            again = λ others w. rw p (waiting-next (waits others w));
            goes = λ others t f e u r. s.goes others t f e u
                (rw (starts_more left b' page h)
                (move-on b' a' (starts (left - 1) (b' + page) page ++ others) (mapped t) on-is (a' + page) (omega (arith, f))
                (rw (p, pages_pack) at r)));
          }

      pub walks-stop : {o : Outcome} → e ≡ ends o → {g'' : Pages} → g'' ≡ pack_pages (without at b' (pages_of g')) → (others : List ℕ) →
          Waiting page a (starts k b page ++ others) g → Moves (starts k b page) page a d g (Err o) d'' g''
      walks-stop is p others w =
          let left_is : pages_of _ ≡ without at b' (pages_of g') = ap pages_of p ∙ pages_pack _ in
          record {
            lent = lent-then s.lent c.lent;
            goes = λ f. not-on f;
            stops = λ o f others t q. s.goes others t q _ _
                (rw (starts_more left b' page h, left_is)
                (move-stop b' a' (starts (left - 1) (b' + page) page ++ others) (mapped t) (is ∙ f)));
            pages = rw p (kept-left (waits others w));
            most = omega (arith, s.most, c.made, h, length-starts k b page);
            again = λ f. not-on f;
          }

-- whole, and within the addresses
abbrev pub Ranges : ℕ → List Zombie → Type 0
Ranges page = All (λ z. WholeRange page z.start.0 z.size × (z.start.0 + z.size ≤ END))

-- Of the zombies just pulled, those from place `i` on are left: their pages go to `a'` and on.
pub record Goes (page a : ℕ) (pulled : List Zombie) (d : Driver) (g : Pages) (i a' : ℕ) (d' : Driver) (g' : Pages) : Type 0 where
  pub lent : Lent d d'
  pub most : d'.made + length (pages_in page (drop i pulled)) ≤ d.made + length (pages_in page pulled)
  pub waits : Waiting page a' (pages_in page (drop i pulled)) g'
  pub ranges : Ranges page (drop i pulled)
  pub goes : (t : Tables) → t.fields.page ≡ page → (e : Ending (Unit {0})) (u : Point) →
      Ran (move_pages (pages_in page (drop i pulled)) a') d.answers.now (stands d' (with_pages (pages_of g') t)) e u →
      Ran (move_pages (pages_in page pulled) a) d.answers.now (stands d (with_pages (pages_of g) t)) e u

module _ {page a : ℕ} {pulled : List Zombie} {d : Driver} {g : Pages} where
  pub goes-first : PagesMovable page a pulled g → Goes page a pulled d g 0 a d g
  goes-first c = record { lent = lent-same d; most = omega arith; waits = waiting-first c; ranges = ranges c; goes = λ t q e u r. r }

  module _ {i a' : ℕ} {d' : Driver} {g' : Pages} (s : Goes page a pulled d g i a' d' g') where
    pub goes_done : length pulled ≤ i → MovesPages page a pulled d g (Ok tt) d' g'
    goes_done h =
        let none = drop_of_length-le pulled {i = i} h in
        record { lent = s.lent; ran = λ t q. s.goes t q _ _ (rw none gave); pages = s.waits.pages; most = omega (arith, s.most) }

    -- the zombie of a turn, and those after it
    module _ (z : Zombie) (h : i < length pulled) where
      abbrev it : Zombie
      it = get_or pulled i z

      abbrev rest : List Zombie
      rest = drop (i + 1) pulled

      more : drop i pulled ≡ it ∷ rest
      more = let e : suc i ≡ i + 1 = omega arith in rw e at (drop-cons pulled i z h)

      -- as many pages are left as are this zombie's, and those of the others
      longer : length (pages_in page (drop i pulled)) ≡ length (starts_in page it) + length (pages_in page rest)
      longer = ap (λ l. length (pages_in page l)) more ∙ length-append (starts_in page it) (pages_in page rest)

      here : Ranges page (it ∷ rest)
      here = rw more at s.ranges

      waits-here : Waiting page a' (starts_in page it ++ pages_in page rest) g'
      waits-here = rw more at s.waits

      pub movable : ZombieMovable page a' it g'
      movable = record { others = _; waiting = waits-here; range = here.0.0; end = here.0.1 }

      pub few : d'.made + it.size / page ≤ d.made + length (pages_in page pulled)
      few = omega (arith, s.most, longer, length-starts (it.size / page) it.start.0 page)

      pub ends-within : a' + it.size ≤ END
      ends-within = fits-range here.0.0 _ waits-here

      pub goes-stop : {o : Outcome} {d'' : Driver} {g'' : Pages} → Moves (starts_in page it) page a' d' g' (Err o) d'' g'' →
          MovesPages page a pulled d g (Err o) d'' g''
      goes-stop m =
          record {
            lent = lent-then s.lent m.lent;
            ran = λ t q. s.goes t q _ _ (rw more (rw s.lent.answers at (m.stops _ refl (pages_in page rest) t q)));
            pages = m.pages;
            most = omega (arith, m.most, s.most, longer);
          }

      pub goes-next : {d'' : Driver} {g'' : Pages} → Moves (starts_in page it) page a' d' g' (Ok tt) d'' g'' →
          Goes page a pulled d g (i + 1) (a' + it.size) d'' g''
      goes-next m =
          let whole : a' + length (starts_in page it) * page ≡ a' + it.size = omega (arith, length-range here.0.0) in
          record {
            lent = lent-then s.lent m.lent;
            most = omega (arith, m.most, s.most, longer);
            waits = rw whole at (m.again refl _ waits-here);
            ranges = here.1;
            goes = λ t q e u r. s.goes t q e u (rw more (rw s.lent.answers at (m.goes refl (pages_in page rest) t q e u (rw s.lent.answers (rw whole r)))));
          }
