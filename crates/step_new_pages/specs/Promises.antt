-- What making the missing pages needs and promises. The code holds the pages and the holes: what it promises is for all other tables.
use Rattle.std.specs.Prelude.{◌≡◌, Result, Bool, ◌&&◌, ℕ, ◌+◌, ◌*◌, ◌≤◌, ◌<◌, leb, ltb, length}
use Rattle.lists.specs.Order.{Rises}
use Rattle.tables.specs.Bounds.{END, HOLES}
use Rattle.tables.specs.Values.{Tables, holes_of, pages_of, with_holes, with_pages}
use Rattle.tables.specs.Kept.{KeptHoles, KeptPages}
use Rattle.tables.specs.InsertHole.{Apart, insert_hole}
use Rattle.tables.specs.NewPages.{Room as Taken, at, unmake, new_pages, roll_back, make_pages}
use Rattle.tables.specs.Steps.{ends}
use Rattle.tables.specs.declared.Page.{Page}
use Rattle.tables.specs.Values.{Pages}
use Rattle.tables.specs.Values.{Holes}
use Rattle.tables.specs.declared.Outcome.{Outcome}
use Rattle.driving.specs.Ran.{Ran, RoomFor, Lent, stands}
use Rattle.driving.specs.Endings.{ending}
use Rattle.driving.specs.declared.Driver.{Driver}
use Rattle.keeping.specs.MakeRoom.{PagesTo}
use Rattle.step_new_pages.specs.declared.Room.{Room}

-- the room of the rules
abbrev pub room_of : Room → Taken
room_of o = record { start = o.start.0; size = o.size; missing = o.missing; stream = o.stream }

-- the test of the new pages
abbrev pub is_new : Room → ℕ → Page → Bool
is_new o a g = leb o.start.0 (at g) && ltb (at g) a

-- the tables `t`, with these pages and holes
abbrev pub paging : Pages → Holes → Tables → Tables
paging g h t = with_holes (holes_of h) (with_pages (pages_of g) t)

-- What `unmake` needs: the pages in order, and room for two records.
pub record Unmakable (g : Pages) (d : Driver) : Type 0 where
  pub pages : KeptPages g
  pub rises : Rises at 0 (pages_of g)
  pub log : RoomFor 2 d

pub record Unmakes (q : Page) (page : ℕ) (d : Driver) (g : Pages) (r : Result (Unit {0}) Outcome) (d' : Driver) (g' : Pages) : Type 0 where
  pub lent : Lent d d'
  pub ran : (t : Tables) → t.fields.page ≡ page →
      Ran (unmake q) d.answers.now (stands d (with_pages (pages_of g) t)) (ending r) (stands d' (with_pages (pages_of g') t))
  pub pages : KeptPages g'
  pub rises : Rises at 0 (pages_of g')
  pub most : d'.made ≤ d.made + 2

-- What `roll_back` needs: both tables in order, room for the range among the holes, and for two records for each new page.
pub record Returnable (g : Pages) (h : Holes) (o : Room) (a : ℕ) (d : Driver) : Type 0 where
  pub pages : KeptPages g
  pub rises : Rises at 0 (pages_of g)
  pub holes : KeptHoles h
  pub some : 0 < o.size
  pub back : length (insert_hole o.start.0 o.size (holes_of h)) ≤ HOLES
  pub apart : Apart 0 END (holes_of h)
  pub ends : o.start.0 + o.size ≤ END
  pub place : o.start.0 ≤ a
  pub log : RoomFor (2 * length (new_pages (room_of o) a (pages_of g))) d

pub record RollsBack (page : ℕ) (o : Room) (a : ℕ) (d : Driver) (g : Pages) (h : Holes) (r : Result (Unit {0}) Outcome) (d' : Driver) (g' : Pages) (h' : Holes) : Type 0 where
  pub lent : Lent d d'
  pub ran : (t : Tables) → t.fields.page ≡ page →
      Ran (roll_back (room_of o) a) d.answers.now (stands d (paging g h t)) (ending r) (stands d' (paging g' h' t))
  pub pages : KeptPages g'
  pub holes : KeptHoles h'
  pub most : d'.made ≤ d.made + 2 * length (new_pages (room_of o) a (pages_of g))
  pub stops : (e : Outcome) × (ending r ≡ ends e)

-- What `make_pages` needs: there are tables around these in which the range is in hand, and room for `n` pages and four records for each.
pub record Ready (g : Pages) (h : Holes) (page : ℕ) (o : Room) (n : ℕ) (d : Driver) : Type 0 where
  pub pages : KeptPages g
  pub holes : KeptHoles h
  pub lost : ℕ → ℕ
  pub free : ℕ
  pub around : Tables
  pub taken : PagesTo lost page free n o.start.0 o.size o.start.0 (paging g h around)
  pub log : RoomFor (4 * n) d

pub record MakesPages (n page : ℕ) (o : Room) (d : Driver) (g : Pages) (h : Holes) (r : Result (Unit {0}) Outcome) (d' : Driver) (g' : Pages) (h' : Holes) : Type 0 where
  pub lent : Lent d d'
  pub ran : (t : Tables) → t.fields.page ≡ page →
      Ran (make_pages n (room_of o) o.start.0) d.answers.now (stands d (paging g h t)) (ending r) (stands d' (paging g' h' t))
  pub pages : KeptPages g'
  pub holes : KeptHoles h'
  pub most : d'.made ≤ d.made + 4 * n
