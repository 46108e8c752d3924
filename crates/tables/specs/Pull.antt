-- docs/RULES.md 3.7, 3.8: other regions are pulled, and their pages moved.
use Rattle.std.specs.Prelude.{cond, not, List, [], ◌∷◌, ◌++◌, ℕ, zero, suc, ◌+◌, ◌-◌, ◌/◌, min, eqb}
use Rattle.lists.specs.Tests.{filter}
use Rattle.lists.specs.Order.{sorted, without}
use Rattle.lists.specs.Walks.{joined}
use Rattle.tables.specs.Values.{zombie}
use Rattle.tables.specs.Steps.{Step, Act, ◌>>=◌, ◌>>◌, give, nothing, tables, change_free, change_zombies, change_pages}
use Rattle.tables.specs.Driver.{must, is_complete, access, wait}
use Rattle.tables.specs.InsertFree.{from, put_rest, without_free, insert_free}
use Rattle.tables.specs.NewPages.{Room, at, map_page}
use Rattle.tables.specs.declared.FreeRegion.{FreeRegion}
use Rattle.tables.specs.declared.Zombie.{Zombie}
use Rattle.tables.specs.declared.Page.{Page}

abbrev pub own_of : ℕ → List FreeRegion → List FreeRegion
own_of s = filter (λ r. eqb r.stream s)

abbrev pub others_of : ℕ → List FreeRegion → List FreeRegion
others_of s = filter (λ r. not (eqb r.stream s))

-- those on the stream, then the others, each part by ascending id
abbrev pub pull_order : ℕ → List FreeRegion → List FreeRegion
pull_order s l = sorted (λ r. r.id.0) (own_of s l) ++ sorted (λ r. r.id.0) (others_of s l)

-- The stream waits for another's region, unless that is complete.
unfoldable pub settle : ℕ → FreeRegion → Act
settle s r =
    cond (eqb r.stream s) nothing (do
      c ← is_complete r.id.0
      cond c nothing (must (wait r.id.0 s)))

-- The first bytes of a region, all or as many as lack, become a zombie; what they leave goes back.
unfoldable pub pull_one : ℕ → ℕ → FreeRegion → Step Zombie
pull_one s lacks r = do
  let z = zombie (from r) (min lacks r.size) r.id.0
  change_free (without_free (from r))
  settle s r
  change_zombies (λ l. l ++ z ∷ [])
  change_free (put_rest z.size r)
  give z

-- One region after the other, until nothing lacks.
abbrev pub pull : List FreeRegion → ℕ → ℕ → Step (List Zombie)
pull [] s lacks = give []
pull (r ∷ l) s lacks =
    cond (eqb lacks 0) (give []) (do
      z ← pull_one s lacks r
      zs ← pull l s (lacks - z.size)
      give (z ∷ zs))

-- the starts of `k` pages of size `p`, from `a` on
abbrev pub starts : ℕ → ℕ → ℕ → List ℕ
starts zero a p = []
starts (suc k) a p = a ∷ starts k (a + p) p

-- the pages of the parts taken, in that order
abbrev pub pages_in : ℕ → List Zombie → List ℕ
pages_in p = joined (λ z. starts (z.size / p) z.start.0 p)

abbrev pub handle_at : ℕ → List Page → ℕ
handle_at a [] = 0
handle_at a (g ∷ l) = cond (eqb (at g) a) g.handle.0 (handle_at a l)

-- The pages at these addresses are mapped from `a` on, and active there instead.
abbrev pub move_pages : List ℕ → ℕ → Act
move_pages [] a = nothing
move_pages (b ∷ l) a = do
  t ← tables
  change_pages (without at b)
  map_page a (handle_at b t.pages)
  move_pages l (a + t.fields.page)

-- `lacks` bytes are pulled out of the regions `others`, and stand behind the new pages.
unfoldable pub pull_in : Room → ℕ → List FreeRegion → Step FreeRegion
pull_in o lacks others = do
  let a = o.start + o.missing
  zs ← pull (pull_order o.stream others) o.stream lacks
  t ← tables
  move_pages (pages_in t.fields.page zs) a
  must (access a lacks)
  insert_free a lacks o.stream
