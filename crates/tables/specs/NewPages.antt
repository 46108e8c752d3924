-- docs/RULES.md 3.4 to 3.6: the missing pages are made, or all taken back; then they are a free region.
use Rattle.std.specs.Prelude.{Bool, cond, ◌&&◌, List, ℕ, zero, suc, ◌+◌, ◌-◌, ltb, leb, eqb}
use Rattle.std.proofs.Math.Option.{Option, some, none}
use Rattle.lists.specs.Tests.{filter, any}
use Rattle.lists.specs.Order.{put, without}
use Rattle.words.specs.Answers.{code_of, value_of, failed}
use Rattle.words.specs.declared.Answer.{Answer}
use Rattle.tables.specs.Values.{page}
use Rattle.tables.specs.Steps.{Step, Act, ◌>>=◌, ◌>>◌, give, end, end_if, nothing, each, tables, change_holes, change_pages}
use Rattle.tables.specs.Driver.{must, try, create, map, access, unmap, release}
use Rattle.tables.specs.InsertHole.{insert_hole}
use Rattle.tables.specs.InsertFree.{insert_free}
use Rattle.tables.specs.declared.FreeRegion.{FreeRegion}
use Rattle.tables.specs.declared.Page.{Page}
use Rattle.tables.specs.declared.Outcome.TheVariants.{OutOfMemory, DriverFailed, Incredible}

-- The range taken for a request: where it starts, its size, how much of it is missing, and for which stream.
pub record Room : Type 0 where
  pub start : ℕ
  pub size : ℕ
  pub missing : ℕ
  pub stream : ℕ

abbrev pub at : Page → ℕ
at g = g.start.0

-- map a page, which is then active
unfoldable pub map_page : ℕ → ℕ → Act
map_page a h = do
  must (map a h)
  change_pages (put at (page a h))

-- a new page is taken back, whatever the driver says
unfoldable pub unmake : Page → Act
unmake g = do
  t ← tables
  try (unmap (at g) t.fields.page)
  change_pages (without at (at g))
  try (release g.handle.0)

-- the new pages: those from the range's start up to `a`
abbrev pub new_pages : Room → ℕ → List Page → List Page
new_pages o a = filter (λ g. leb o.start (at g) && ltb (at g) a)

-- docs/RULES.md 3.5: every new page is taken back, and the range, all of it, is a hole again.
unfoldable pub roll_back : Room → ℕ → Act
roll_back o a = do
  t ← tables
  each unmake (new_pages o a t.pages)
  change_holes (insert_hole o.start o.size)
  end (OutOfMemory o.missing (a - o.start))

-- docs/RULES.md 4.4: a handle that can't be true. One made earlier in the call is active too.
abbrev pub is_active : ℕ → List Page → Bool
is_active h = any (λ g. eqb g.handle.0 h)

-- what the answer to a creation for the page at `a` may end
unfoldable pub created : Room → ℕ → Answer → Act
created o a x = do
  t ← tables
  cond (eqb (code_of x) 2) (roll_back o a) nothing
  end_if (failed x) (DriverFailed (code_of x))
  end_if (is_active (value_of x) t.pages) Incredible

-- `k` pages are to be made, from `a` on.
abbrev pub make_pages : ℕ → Room → ℕ → Act
make_pages zero o a = nothing
make_pages (suc k) o a = do
  t ← tables
  x ← create t.fields.page
  created o a x
  map_page a (value_of x)
  make_pages k o (a + t.fields.page)

-- docs/RULES.md 3.6: the new pages, if there are any, become a free region.
unfoldable pub insert_new : Room → Step (Option FreeRegion)
insert_new o =
    cond (eqb o.missing 0) (give none) (do
      must (access o.start o.missing)
      r ← insert_free o.start o.missing o.stream
      give (some r))
