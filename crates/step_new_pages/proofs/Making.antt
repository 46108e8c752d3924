-- The loop that makes the pages: `left` are still to be made, from `a` on, and what making them does, making all of them does.
use mathlib.Core.Path.{◌≡◌, ap, ◌∙◌}
use mathlib.Core.Bool.{true, false}
use Prim.Native.Nat.{ℕ, suc, ◌+◌, ◌-◌, ◌*◌, ◌≤◌, ◌<◌}
use native.Mathlib.Omega.{arith}
use native.Mathlib.Nat.{suc-mul}
use lib.ListN.{length}
use Rattle.std.specs.Prelude.{Result, Ok, Err}
use Rattle.words.specs.declared.Answer.{Answer}
use Rattle.words.specs.declared.Answer.TheVariants.{Done, Failed, Missing}
use Rattle.words.specs.declared.Word.TheVariants.{Map}
use Rattle.lists.specs.Order.{put}
use Rattle.lists.proofs.Tests.{one_more}
use Rattle.lists.proofs.Order.{length-put}
use Rattle.tables.specs.Bounds.{END, PAGES}
use Rattle.tables.specs.Values.{Tables, Pages, Holes, page, pages_of, pack_pages}
use Rattle.tables.specs.Kept.{KeptHoles, KeptPages}
use Rattle.tables.specs.Steps.{Ending, on, ends}
use Rattle.tables.specs.Driver.{create, must, map}
use Rattle.tables.specs.NewPages.{at, new_pages, is_active, map_page, make_pages}
use Rattle.tables.proofs.Packs.{pages-count, pages-kept, pages_pack}
use Rattle.tables.specs.declared.Page.{Page}
use Rattle.tables.specs.declared.Outcome.{Outcome}
use Rattle.tables.specs.declared.Outcome.TheVariants.{DriverFailed, Incredible}
use Rattle.driving.specs.Ran.{Point, Ran, Drove, Lent, RoomFor, stands}
use Rattle.driving.specs.Promises.{telling}
use Rattle.driving.specs.declared.Driver.{Driver}
use Rattle.driving.proofs.Ran.{gave}
use Rattle.driving.proofs.Lent.{lent-same, lent-then}
use Rattle.keeping.specs.MakeRoom.{PagesTo}
use Rattle.keeping.proofs.Sounds.{sound-range}
use Rattle.step_new_pages.specs.Promises.{room_of, paging, Ready, Returnable, RollsBack, MakesPages}
use Rattle.step_new_pages.specs.declared.Room.{Room}
use Rattle.step_new_pages.proofs.Turns.{
  not-missing,
  make-missing,
  make-back,
  make-failed,
  make-active,
  make-unmapped,
  make-page,
  checked,
  page-unmapped,
  page-mapped,
}
use Rattle.step_new_pages.proofs.Carried.{page-made}
use Rattle.step_new_pages.proofs.Counted.{held, held-put, new-held, none-held}

-- The tables at entry are `g` and `h`, and those now `active` and `h'`.
pub record Making (p : ℕ) (o : Room) (count : ℕ) (d : Driver) (g : Pages) (h : Holes) (left a : ℕ) (d' : Driver) (active : Pages) (h' : Holes) : Type 0 where
  pub lent : Lent d d'
  pub pages : KeptPages active
  pub holes : KeptHoles h'
  pub lost : ℕ → ℕ
  pub free : ℕ
  pub around : Tables
  pub taken : PagesTo lost p free left o.start.0 o.size a (paging active h' around)
  pub few : length (held (room_of o) (pages_of active)) + left ≤ count
  pub most : d'.made + 2 * left ≤ d.made + 2 * count
  pub whole : (t : Tables) → t.fields.page ≡ p → (e : Ending (Unit {0})) (u : Point) →
      Ran (make_pages left (room_of o) a) d.answers.now (stands d' (paging active h' t)) e u →
      Ran (make_pages count (room_of o) o.start.0) d.answers.now (stands d (paging g h t)) e u

pub making-begins : {g : Pages} {h : Holes} {p : ℕ} {o : Room} {count left : ℕ} {d : Driver} → Ready g h p o count d → left ≡ count →
    Making p o count d g h left o.start.0 d g h
making-begins {g} {h} {p} {o} {count} {d = d} w z =
    rw z (record {
      lent = lent-same d;
      pages = w.pages;
      holes = w.holes;
      lost = w.lost;
      free = w.free;
      around = w.around;
      taken = w.taken;
      few = omega (arith, none-held (room_of o) w.lost p w.free count (paging g h w.around) w.taken);
      most = omega arith;
      whole = λ t q e u r. r;
    })

module _ {p : ℕ} {o : Room} {count : ℕ} {d : Driver} {g : Pages} {h : Holes} {left a : ℕ} {d' : Driver} {active : Pages} {h' : Holes}
    (w : Making p o count d g h left a d' active h') where
  pub range-ends : o.start.0 + o.size ≤ END
  range-ends = sound-range w.taken.sound o.start.0 o.size w.taken.size.positive (λ x. omega arith)

  pub new-few : length (new_pages (room_of o) a (pages_of active)) + left ≤ count
  new-few =
      let within : a ≤ o.start.0 + o.size = omega (arith, w.taken.fits) in
      omega (arith, new-held (room_of o) a (pages_of active) within, w.few)

  pub making_done : left ≡ 0 → MakesPages count p o d g h (Ok tt) d' active h'
  making_done z =
      record { lent = w.lent; ran = λ t e. w.whole t e _ _ (rw z gave); pages = w.pages; holes = w.holes; most = omega (arith, w.most) }

  module _ (some : 0 < left) where
    pub room-driver : RoomFor (4 * count) d → RoomFor 2 d'
    room-driver r = omega (arith, r, w.lent.cells, w.most, some, w.few)

    pub room_for-one : active.count < PAGES
    room_for-one = omega (arith, w.taken.making.few.pages, pages-count active w.pages)

    pub page-fits : a + p ≤ END
    page-fits =
        let e : left * p ≡ suc (left - 1) * p = ap (λ n. n * p) (one_more left some) in
        omega (arith, suc-mul (left - 1) p, range-ends, w.taken.fits)

    -- the call ends with one driver call more or two, both tables as they are
    pub making-stops : {f : Outcome} {d'' : Driver} → Lent d' d'' → d''.made ≤ d'.made + 2 →
        ((t : Tables) → t.fields.page ≡ p →
        Ran (make_pages left (room_of o) a) d.answers.now (stands d' (paging active h' t)) (ends f) (stands d'' (paging active h' t))) →
        MakesPages count p o d g h (Err f) d'' active h'
    making-stops l m r =
        record {
          lent = lent-then w.lent l;
          ran = λ t e. w.whole t e _ _ (r t e);
          pages = w.pages;
          holes = w.holes;
          most = omega (arith, w.most, m, some);
        }

    -- the answer to the creation
    module _ {x : Ending Answer} {d₁ : Driver} (c : Drove (create p) d' x d₁) where
      asked : (t : Tables) → Ran (create p) d.answers.now (stands d' (paging active h' t)) x (stands d₁ (paging active h' t))
      asked t = rw w.lent.answers at (c.ran (paging active h' t))

      pub making-missing : {f : Outcome} → x ≡ ends f → MakesPages count p o d g h (Err f) d₁ active h'
      making-missing z = making-stops c.lent (omega (arith, c.made)) (λ t e. make-missing p left (room_of o) a e some (rw z at (asked t)))

      -- an answer that went on is there
      pub making-there : x ≡ on Missing → {A : Type 0} → A
      making-there z = absurd (not-missing p (rw z at (asked w.around)))

      pub making-failed : {e : ℕ} → x ≡ on (Failed e) → (e ≡ 2 → ⊥) → MakesPages count p o d g h (Err (DriverFailed e)) d₁ active h'
      making-failed z n = making-stops c.lent (omega (arith, c.made)) (λ t e. make-failed p left (room_of o) a e some (rw z at (asked t)) n)

      pub returnable : RoomFor (4 * count) d → Returnable active h' o a d₁
      returnable r =
          record {
            pages = w.pages;
            rises = w.taken.sound.pages_rise;
            holes = w.holes;
            some = w.taken.size.positive;
            back = omega (arith, w.taken.making.back);
            apart = w.taken.sound.holes_apart;
            ends = range-ends;
            place = w.taken.place.0;
            log = omega (arith, w.lent.cells, c.lent.cells, c.made, w.most, new-few, some, r);
          }

      pub making-back : {e : ℕ} → x ≡ on (Failed e) → e ≡ 2 → {r : Result (Unit {0}) Outcome} {d₂ : Driver} {g' : Pages} {h'' : Holes} →
          RollsBack p o a d₁ active h' r d₂ g' h'' → MakesPages count p o d g h r d₂ g' h''
      making-back z two m =
          let l = lent-then w.lent c.lent in
          let end = m.stops.1 in
          record {
            lent = lent-then l m.lent;
            ran = λ t e.
                let back = rw (end, l.answers) at (m.ran t e) in
                rw end (w.whole t e _ _ (make-back p left (room_of o) a e some (rw z at (asked t)) two back));
            pages = m.pages;
            holes = m.holes;
            most = omega (arith, w.most, new-few, some, c.made, m.most);
          }

      -- a handle was given
      module _ {j : ℕ} (z : x ≡ on (Done j)) where
        pub making-active : is_active j (pages_of active) ≡ true → MakesPages count p o d g h (Err Incredible) d₁ active h'
        making-active y = making-stops c.lent (omega (arith, c.made)) (λ t e. make-active p left (room_of o) a e some j (rw z at (asked t)) y)

        module _ (once : is_active j (pages_of active) ≡ false) {v : Ending (Unit {0})} {d₂ : Driver} (m : Drove (must (telling Map a j)) d₁ v d₂) where
          mapped : (t : Tables) → Ran (must (map a j)) d.answers.now (stands d₁ (paging active h' t)) v (stands d₂ (paging active h' t))
          unfolding map
          mapped t = let l = lent-then w.lent c.lent in rw l.answers at (m.ran (paging active h' t))

          pub making-unmapped : {f : Outcome} → v ≡ ends f → MakesPages count p o d g h (Err f) d₂ active h'
          making-unmapped y =
              making-stops (lent-then c.lent m.lent) (omega (arith, c.made, m.made))
              (λ t e. make-unmapped p left (room_of o) a e some j (rw z at (asked t)) (checked (room_of o) a j once) (page-unmapped a j (rw y at (mapped t))))

          pub making-next : v ≡ on tt → {g' : Pages} → g' ≡ pack_pages (put at (page a j) (pages_of active)) →
              Making p o count d g h (left - 1) (a + p) d₂ g' h'
          making-next y {g' = g'} placed =
              let k : Page = page a j in
              let new : pages_of g' ≡ put at k (pages_of active) = ap pages_of placed ∙ pages_pack _ in
              let made : (t : Tables) → Ran (map_page a j) d.answers.now (stands d₁ (paging active h' t)) (on tt) (stands d₂ (paging g' h' t)) =
              λ t. rw new (page-mapped a j y (mapped t)) in
              let fewer : length (put at k (pages_of active)) ≤ PAGES = omega (arith, length-put at k (pages_of active), pages-count active w.pages, room_for-one) in
              record {
                lent = lent-then w.lent (lent-then c.lent m.lent);
                pages = rw placed (pages-kept _ fewer);
                holes = w.holes;
                lost = w.lost;
                free = w.free;
                around = w.around;
                taken = page-made w.lost p w.free left (room_of o) a j some w.taken (checked (room_of o) a j once) (made w.around);
                few = rw new (omega (arith, held-put (room_of o) k (pages_of active), w.few, some));
                most = omega (arith, w.most, c.made, m.made, some);
                whole = λ t e f u r. w.whole t e f u
                    (make-page p left (room_of o) a e some j (rw z at (asked t)) (checked (room_of o) a j once) (made t) r);
              }
