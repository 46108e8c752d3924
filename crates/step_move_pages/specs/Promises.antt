-- What the code that moves pages needs, and what it promises.
use Rattle.std.specs.Prelude.{◌≡◌, Result, List, ◌++◌, ℕ, ◌+◌, ◌*◌, ◌/◌, ◌≤◌, length}
use Rattle.tables.specs.Bounds.{END}
use Rattle.tables.specs.Values.{Tables, pages_of, with_pages}
use Rattle.tables.specs.Kept.{KeptPages}
use Rattle.tables.specs.Steps.{Ending, on, ends}
use Rattle.tables.specs.Pull.{starts, pages_in, move_pages}
use Rattle.tables.specs.declared.Outcome.{Outcome}
use Rattle.tables.specs.declared.Zombie.{Zombie}
use Rattle.tables.specs.Values.{Pages}
use Rattle.keeping.specs.Sound.{WholeRange}
use Rattle.keeping.specs.Move.{Movable, Moving}
use Rattle.driving.specs.Ran.{Ran, Point, Lent, stands}
use Rattle.driving.specs.Endings.{ending}
use Rattle.driving.specs.declared.Driver.{Driver}

-- The pages at `bs` wait to be moved to `a` and on: there are tables around the page table of which that is true.
pub record Waiting (page a : ℕ) (bs : List ℕ) (g : Pages) : Type 0 where
  pub pages : KeptPages g
  pub lost : ℕ → ℕ
  pub hand : ℕ → ℕ
  pub base : ℕ
  pub spans : ℕ
  pub around : Tables
  pub moving : Moving lost hand page base a spans around.free bs (with_pages (pages_of g) around)

-- where the pages of a zombie start
abbrev pub starts_in : ℕ → Zombie → List ℕ
starts_in page z = starts (z.size / page) z.start.0 page

-- The pages of a zombie wait, before others.
pub record ZombieMovable (page a : ℕ) (z : Zombie) (g : Pages) : Type 0 where
  pub others : List ℕ
  pub waiting : Waiting page a (starts_in page z ++ others) g
  pub range : WholeRange page z.start.0 z.size
  pub end : z.start.0 + z.size ≤ END

-- The pages at `bs` are moved to `a` and on: what the rule does from there on with others, it does with all of them, and where that ended it ended.
pub record Moves (bs : List ℕ) (page a : ℕ) (d : Driver) (g : Pages) (r : Result (Unit {0}) Outcome) (d' : Driver) (g' : Pages) : Type 0 where
  pub lent : Lent d d'
  pub goes : ending r ≡ on tt → (others : List ℕ) (t : Tables) → t.fields.page ≡ page → (e : Ending (Unit {0})) (u : Point) →
      Ran (move_pages others (a + length bs * page)) d.answers.now (stands d' (with_pages (pages_of g') t)) e u →
      Ran (move_pages (bs ++ others) a) d.answers.now (stands d (with_pages (pages_of g) t)) e u
  pub stops : (o : Outcome) → ending r ≡ ends o → (others : List ℕ) (t : Tables) → t.fields.page ≡ page →
      Ran (move_pages (bs ++ others) a) d.answers.now (stands d (with_pages (pages_of g) t)) (ends o) (stands d' (with_pages (pages_of g') t))
  pub pages : KeptPages g'
  pub most : d'.made ≤ d.made + length bs
  pub again : ending r ≡ on tt → (others : List ℕ) → Waiting page a (bs ++ others) g → Waiting page (a + length bs * page) others g'

-- There are tables around the page table in which the pages of the zombies just pulled can be moved.
pub record PagesMovable (page a : ℕ) (pulled : List Zombie) (g : Pages) : Type 0 where
  pub pages : KeptPages g
  pub lost : ℕ → ℕ
  pub hand : ℕ → ℕ
  pub spans : ℕ
  pub around : Tables
  pub movable : Movable lost hand page a spans around.free pulled (with_pages (pages_of g) around)

-- Their pages are moved, with at most one driver call for each page.
pub record MovesPages (page a : ℕ) (pulled : List Zombie) (d : Driver) (g : Pages) (r : Result (Unit {0}) Outcome) (d' : Driver) (g' : Pages) : Type 0 where
  pub lent : Lent d d'
  pub ran : (t : Tables) → t.fields.page ≡ page →
      Ran (move_pages (pages_in page pulled) a) d.answers.now (stands d (with_pages (pages_of g) t)) (ending r) (stands d' (with_pages (pages_of g') t))
  pub pages : KeptPages g'
  pub most : d'.made ≤ d.made + length (pages_in page pulled)
