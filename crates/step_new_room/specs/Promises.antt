-- What the code that makes room needs, and what it promises.
use Rattle.std.specs.Prelude.{◌≡◌, Result, ℕ, ◌+◌, ◌-◌, ◌*◌, ◌/◌, ◌≤◌, ◌<◌}
use Rattle.std.proofs.Math.Option.{Option, some}
use Rattle.tables.specs.Bounds.{END, IDS, PAGES}
use Rattle.tables.specs.Values.{tables_of, free_of}
use Rattle.tables.specs.Kept.{KeptPool}
use Rattle.tables.specs.Steps.{Ending, on, ends, ◌>>=◌}
use Rattle.tables.specs.InsertFree.{bytes}
use Rattle.tables.specs.NewPages.{insert_new}
use Rattle.tables.specs.MakeRoom.{missing, fill, make_room}
use Rattle.tables.specs.declared.FreeRegion.{FreeRegion}
use Rattle.tables.specs.declared.Pool.{Pool}
use Rattle.tables.specs.declared.Outcome.{Outcome}
use Rattle.keeping.specs.MakeRoom.{TakesFrom, Made, Measured}
use Rattle.driving.specs.Ran.{Ran, Point, Lent, stands}
use Rattle.driving.specs.Endings.{ending}
use Rattle.driving.specs.Pools.{PoolRan}
use Rattle.driving.specs.declared.Driver.{Driver}
use Rattle.step_new_pages.specs.Promises.{room_of}
use Rattle.step_new_pages.specs.declared.Room.{Room}

-- The most driver calls of taking a room: one reserve; a create and a map for each missing page, and an unmap and a release where it is taken back.
abbrev pub take_room_calls : ℕ
take_room_calls = 1 + 4 * PAGES

-- the free bytes of a pool
abbrev pub free_bytes : Pool → ℕ
free_bytes p = bytes (free_of p.free)

-- `n` bytes can be taken from holes or a new root, and nothing is in hand.
abbrev pub CanTake : (ℕ → ℕ) → ℕ → Pool → Type 0
CanTake lost n p = TakesFrom lost p.page (free_bytes p) ((n - free_bytes p) / p.page) n (tables_of p)

-- The same, with an id to spare; `m` bytes are missing.
pub record Roomable (n m : ℕ) (p : Pool) : Type 0 where
  pub kept : KeptPool p
  pub ids : p.counter < IDS
  pub lost : ℕ → ℕ
  pub takes : CanTake lost n p
  pub lacks : m ≡ missing n (tables_of p)

-- the missing pages of the room are made, `f` bytes were free before
abbrev pub PagesMade : (ℕ → ℕ) → ℕ → Room → Pool → Type 0
PagesMade lost f o p = Made lost p.page f (room_of o) (tables_of p) × Measured p.page f (room_of o)

-- A range is taken and its missing pages are made: what the rest of make room does from there, the whole does, and where that ended it ended.
pub record TakesRoom (n s : ℕ) (d : Driver) (p : Pool) (r : Result Room Outcome) (d' : Driver) (q : Pool) : Type 0 where
  pub lent : Lent d d'
  pub goes : (o : Room) → ending r ≡ on o → (e : Ending FreeRegion) (u : Point) →
      Ran (insert_new (room_of o) >>= λ x. fill (room_of o) x) d.answers.now (stands d' (tables_of q)) e u →
      Ran (make_room n s) d.answers.now (stands d (tables_of p)) e u
  pub stops : (o : Outcome) → ending r ≡ ends o → Ran (make_room n s) d.answers.now (stands d (tables_of p)) (ends o) (stands d' (tables_of q))
  pub kept : KeptPool q
  pub state : q.state ≡ p.state
  pub ids : q.counter ≡ p.counter
  pub size : (o : Room) → ending r ≡ on o → o.size ≡ n
  pub taken : (lost : ℕ → ℕ) → CanTake lost n p → (o : Room) → ending r ≡ on o → PagesMade lost (free_bytes p) o q
  pub most : d'.made ≤ d.made + take_room_calls

-- What `insert_new` needs: pages are missing, and they are made.
pub record Insertable (o : Room) (p : Pool) : Type 0 where
  pub kept : KeptPool p
  pub ids : p.counter < END
  pub some : 0 < o.missing
  pub lost : ℕ → ℕ
  pub free : ℕ
  pub pages : PagesMade lost free o p

-- A step that gives a value gives that there is one.
abbrev pub given : {A : Type 0} → Ending A → Ending (Option A)
given (on a) = on (some a)
given (ends o) = ends o

-- They are inserted as free, with two driver calls; at most one id is spent.
pub record InsertsNew (o : Room) (d : Driver) (p : Pool) (r : Result FreeRegion Outcome) (d' : Driver) (q : Pool) : Type 0 where
  pub walked : PoolRan (insert_new (room_of o)) 2 d p (given (ending r)) d' q
  pub spent : q.counter ≤ p.counter + 1
