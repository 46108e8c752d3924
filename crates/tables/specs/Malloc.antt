-- docs/RULES.md 3.14: malloc. `xs` are the lent answers, `log` counts the records that the log has room for.
use Rattle.std.specs.Prelude.{Bool, true, false, cond, ◌&&◌, ◌||◌, not, List, ℕ, ◌+◌, ◌-◌, ◌/◌, ◌%◌, ltb, leb, eqb, length}
use Rattle.std.proofs.Math.Option.{Option, some, none}
use Rattle.lists.specs.Order.{put}
use Rattle.tables.specs.Bounds.{HOLES, PAGES, ROOTS, SPANS, ZOMBIES}
use Rattle.tables.specs.Values.{address, buffer, at_entry}
use Rattle.tables.specs.Steps.{Step, Act, ◌>>=◌, ◌>>◌, give, end_if, tables, change_free, change_live}
use Rattle.tables.specs.InsertFree.{from, put_rest, without_free}
use Rattle.tables.specs.TakeRange.{smallest_hole}
use Rattle.tables.specs.MakeRoom.{missing, make_room}
use Rattle.tables.specs.Cleanup.{cleanup}
use Rattle.tables.specs.Fit.{fit}
use Rattle.tables.specs.HandsBack.{Reply, refused, finished, admitted}
use Rattle.tables.specs.declared.FreeRegion.{FreeRegion}
use Rattle.tables.specs.declared.Hole.{Hole}
use Rattle.tables.specs.declared.Pool.{Pool}
use Rattle.tables.specs.declared.Outcome.{Outcome}
use Rattle.tables.specs.declared.Outcome.TheVariants.{Allocated, BadSize, SpansFull, RequestedExceedsVa, PagesFull, ZombiesFull, RootsFull}

abbrev pub no_hole : Option Hole → Bool
no_hole none = true
no_hole (some h) = false

-- docs/RULES.md 4.3: 8, 9, 10, 11, in this order.
unfoldable pub room_refused : ℕ → Act
room_refused n = do
  t ← tables
  let pulled = length t.zombies + length t.free
  end_if (ltb t.fields.va n) (RequestedExceedsVa n t.fields.va)
  end_if (ltb PAGES (length t.pages + missing n t / t.fields.page)) PagesFull
  end_if (ltb ZOMBIES pulled || ltb (HOLES - 1) (pulled + length t.holes)) ZombiesFull
  end_if (no_hole (smallest_hole n t.holes) && leb ROOTS (length t.roots)) RootsFull

-- Room is made only where nothing fits.
unfoldable pub or_room : ℕ → ℕ → Option FreeRegion → Step FreeRegion
or_room n s (some r) = give r
or_room n s none = do
  room_refused n
  make_room n s

-- docs/RULES.md 3.12: the region's first bytes are the buffer, what they leave stays free.
unfoldable pub hand_over : ℕ → ℕ → FreeRegion → Step Outcome
hand_over n s r = do
  change_free (without_free (from r))
  change_free (put_rest n r)
  change_live (put (λ b. b.start.0) (buffer (from r) n s))
  give (Allocated (address (from r)) n)

-- The order matters: 8 comes after the fit (docs/RULES.md 9.3).
unfoldable pub malloc_steps : ℕ → ℕ → Step Outcome
malloc_steps n s = do
  cleanup
  o ← fit n s
  r ← or_room n s o
  hand_over n s r

-- docs/RULES.md 4.2: 1 to 7, in this order, and then the steps.
unfoldable pub malloc_by : (ℕ → ℕ → Step Outcome) → Pool → ℕ → ℕ → List ℕ → ℕ → Reply
malloc_by steps p n s xs log =
    admitted p log
    (cond (eqb n 0 || not (eqb (n % p.page) 0)) (refused p (BadSize n))
    (cond (leb SPANS (p.free.count + p.live.count)) (refused p SpansFull)
    (finished p (steps n s xs 0 (at_entry p)))))

abbrev pub malloc : Pool → ℕ → ℕ → List ℕ → ℕ → Reply
malloc = malloc_by malloc_steps
