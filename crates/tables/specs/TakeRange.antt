-- docs/RULES.md 3.3: a range is taken from a hole, or from a new root.
use Rattle.std.specs.Prelude.{Bool, cond, ◌&&◌, ◌||◌, not, List, [], ◌∷◌, ℕ, ◌+◌, ◌-◌, ◌%◌, leb, eqb}
use Rattle.std.proofs.Math.Option.{Option, some, none}
use Rattle.lists.specs.Tests.{filter, every}
use Rattle.lists.specs.Order.{least}
use Rattle.words.specs.Answers.{value_of, failed}
use Rattle.words.specs.declared.Address.{Address}
use Rattle.tables.specs.Bounds.{END}
use Rattle.tables.specs.Values.{Tables, hole}
use Rattle.tables.specs.Steps.{Step, ◌>>=◌, ◌>>◌, give, end_if, tables, change_holes, add_root}
use Rattle.tables.specs.Driver.{reserve}
use Rattle.tables.specs.InsertHole.{from, insert_hole}
use Rattle.tables.specs.declared.Hole.{Hole}
use Rattle.tables.specs.declared.Outcome.TheVariants.{ReserveFailed, Incredible}

-- the smallest hole of at least `n` bytes, the first of equal ones
unfoldable pub smallest_hole : ℕ → List Hole → Option Hole
smallest_hole n l = least (λ h. h.size) (filter (λ h. leb n h.size) l)

-- the low part of the hole that starts at `a` is taken, its rest stays
unfoldable pub cut_hole : ℕ → ℕ → List Hole → List Hole
cut_hole n a [] = []
cut_hole n a (h ∷ l) = cond (eqb (from h) a) (cond (eqb h.size n) l (hole (a + n) (h.size - n) ∷ l)) (h ∷ cut_hole n a l)

-- two roots have no address in common
abbrev pub apart : ℕ → ℕ → ℕ → Bool
apart va a b = leb (a + va) b || leb (b + va) a

-- docs/RULES.md 4.4: the base can be true.
abbrev pub credible_for : ℕ → ℕ → ℕ → List Address → Bool
credible_for page va b roots = not (eqb b 0) && (eqb (b % page) 0 && (leb b (END - va) && every (λ a. apart va b a.0) roots))

unfoldable pub credible : ℕ → Tables → Bool
credible b t = credible_for t.fields.page t.fields.va b t.roots

-- A new root, of which `n` bytes are taken: the rest is a hole.
unfoldable pub reserve_root : ℕ → Step ℕ
reserve_root n = do
  t ← tables
  x ← reserve t.fields.va
  end_if (failed x) (ReserveFailed t.fields.va t.fields.page)
  end_if (not (credible (value_of x) t)) Incredible
  add_root (value_of x)
  change_holes (insert_hole (value_of x + n) (t.fields.va - n))
  give (value_of x)

unfoldable pub take_hole : ℕ → Option Hole → Step ℕ
take_hole n none = reserve_root n
take_hole n (some h) = do
  change_holes (cut_hole n (from h))
  give (from h)

-- A new root is reserved only where no hole is large enough.
unfoldable pub take_range : ℕ → Step ℕ
take_range n = do
  t ← tables
  take_hole n (smallest_hole n t.holes)
