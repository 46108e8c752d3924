-- The loop that unmakes the new pages: at place `i` those from there on are left, and what unmaking them does, unmaking all of them does.
use mathlib.Core.Path.{◌≡◌, refl, ap, ◌∙◌}
use mathlib.Core.Bool.{true, false}
use mathlib.Core.List.{List, ◌∷◌}
use Prim.Native.Nat.{ℕ, suc, ◌+◌, ◌-◌, ◌*◌, ◌≤◌, ◌<◌}
use native.Mathlib.Omega.{arith}
use lib.ListN.{length, get_or, drop, drop_of_length-le}
use lib.Seq.{drop-cons}
use Rattle.std.specs.Prelude.{Ok, Err}
use Rattle.lists.specs.Order.{Rises}
use Rattle.tables.specs.Values.{Tables, Pages, Holes, pages_of, holes_of, pack_holes, with_holes}
use Rattle.tables.specs.Kept.{KeptPages}
use Rattle.tables.specs.InsertHole.{insert_hole}
use Rattle.tables.specs.Steps.{Ending, each}
use Rattle.tables.specs.NewPages.{at, unmake, new_pages, roll_back}
use Rattle.tables.specs.declared.Page.{Page}
use Rattle.tables.specs.declared.Outcome.{Outcome}
use Rattle.tables.specs.declared.Outcome.TheVariants.{OutOfMemory}
use Rattle.tables.proofs.Packs.{holes_pack, holes-kept}
use Rattle.driving.specs.Ran.{Point, Ran, Lent, stands}
use Rattle.driving.specs.declared.Driver.{Driver}
use Rattle.driving.proofs.Ran.{gave, ended, looked, changed, next, stop}
use Rattle.driving.proofs.Lent.{lent-same, lent-then}
use Rattle.step_new_pages.specs.Promises.{room_of, is_new, paging, Unmakable, Unmakes, Returnable, RollsBack}
use Rattle.step_new_pages.specs.declared.Room.{Room}

-- the new pages from place `i` on
abbrev pub new_from : Room → ℕ → ℕ → List Page → List Page
new_from o a i all = new_pages (room_of o) a (drop i all)

-- The pages at entry are `g`, all of them `all`, and `rest` are those that are not unmade yet.
pub record Unmaking (page : ℕ) (o : Room) (a : ℕ) (all : List Page) (d : Driver) (g : Pages) (h : Holes) (i : ℕ) (d' : Driver) (rest : Pages) : Type 0 where
  pub is : all ≡ pages_of g
  pub lent : Lent d d'
  pub pages : KeptPages rest
  pub rises : Rises at 0 (pages_of rest)
  pub most : d'.made + 2 * length (new_from o a i all) ≤ d.made + 2 * length (new_pages (room_of o) a (pages_of g))
  pub whole : (t : Tables) → t.fields.page ≡ page → (e : Ending (Unit {0})) (u : Point) →
      Ran (each unmake (new_from o a i all)) d.answers.now (stands d' (paging rest h t)) e u →
      Ran (each unmake (new_pages (room_of o) a (pages_of g))) d.answers.now (stands d (paging g h t)) e u

module _ {page : ℕ} {o : Room} {a : ℕ} {all : List Page} {d : Driver} {g : Pages} {h : Holes} where
  pub unmaking-first : all ≡ pages_of g → Returnable g h o a d → Unmaking page o a all d g h 0 d g
  unmaking-first e k =
      record { is = e; lent = lent-same d; pages = k.pages; rises = k.rises; most = rw e (omega arith); whole = λ t q f u r. rw e at r }

  module _ {i : ℕ} {d' : Driver} {rest : Pages} (s : Unmaking page o a all d g h i d' rest) where
    pub unmaking_done : Returnable g h o a d → length all ≤ i → {h' : Holes} →
        h' ≡ pack_holes (insert_hole o.start.0 o.size (holes_of h)) → RollsBack page o a d g h (Err (OutOfMemory o.missing (a - o.start.0))) d' rest h'
    unfolding roll_back
    unmaking_done k past p =
        let none = drop_of_length-le all {i = i} past in
        let back = ap holes_of p ∙ holes_pack _ in
        record {
          lent = s.lent;
          ran = λ t q. rw back (next _ looked (next _ (s.whole t q _ _ (rw none gave)) (next _ (changed _) ended)));
          pages = s.pages;
          holes = rw p (holes-kept _ k.back);
          most = omega (arith, s.most);
          stops = (_, refl);
        }

    -- the page of a turn, and those after it
    module _ (z : Page) (less : i < length all) where
      abbrev it : Page
      it = get_or all i z

      more : drop i all ≡ it ∷ drop (i + 1) all
      more = let e : suc i ≡ i + 1 = omega arith in rw e at (drop-cons all i z less)

      pub unmaking-old : is_new o a it ≡ false → Unmaking page o a all d g h (i + 1) d' rest
      unmaking-old b =
          let e : new_from o a i all ≡ new_from o a (i + 1) all = rw (more, b) in
          record {
            is = s.is;
            lent = s.lent;
            pages = s.pages;
            rises = s.rises;
            most = omega (arith, s.most, ap length e);
            whole = λ t q f u r. s.whole t q f u (rw e r);
          }

      -- the page is new
      module _ (b : is_new o a it ≡ true) where
        new : new_from o a i all ≡ it ∷ new_from o a (i + 1) all
        new = rw (more, b)

        pub unmakable : Returnable g h o a d → Unmakable rest d'
        unmakable k = record { pages = s.pages; rises = s.rises; log = omega (arith, s.lent.cells, s.most, ap length new, k.log) }

        pub unmaking-next : {d'' : Driver} {g' : Pages} → Unmakes it page d' rest (Ok tt) d'' g' → Unmaking page o a all d g h (i + 1) d'' g'
        unmaking-next m =
            record {
              is = s.is;
              lent = lent-then s.lent m.lent;
              pages = m.pages;
              rises = m.rises;
              most = omega (arith, s.most, m.most, ap length new);
              whole = λ t q f u r. s.whole t q f u (rw new (next _ (rw s.lent.answers at (m.ran (with_holes (holes_of h) t) q)) r));
            }

        pub unmaking-stop : {f : Outcome} {d'' : Driver} {g' : Pages} → Returnable g h o a d → Unmakes it page d' rest (Err f) d'' g' →
            RollsBack page o a d g h (Err f) d'' g' h
        unfolding roll_back
        unmaking-stop k m =
            record {
              lent = lent-then s.lent m.lent;
              ran = λ t q. next _ looked
                  (stop _ (s.whole t q _ _ (rw new (stop _ (rw s.lent.answers at (m.ran (with_holes (holes_of h) t) q))))));
              pages = m.pages;
              holes = k.holes;
              most = omega (arith, s.most, m.most, ap length new);
              stops = (_, refl);
            }
