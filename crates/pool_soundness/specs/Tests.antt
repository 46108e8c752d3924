-- The tests that the code makes of ranges in ascending address, one pass each.
use Rattle.std.specs.Prelude.{Bool, true, ◌&&◌, not, List, [], ◌∷◌, ◌++◌, map, ℕ, ◌-◌, ltb, leb, eqb}
use Rattle.lists.specs.Tests.{every, pairwise, distinct}
use Rattle.lists.specs.Order.{Ascends, sorted}
use Rattle.lists.specs.Walks.{sum}
use Rattle.words.specs.declared.Address.{Address}
use Rattle.tables.specs.Bounds.{END}
use Rattle.tables.specs.Values.{Tables}
use Rattle.tables.specs.TakeRange.{apart}
use Rattle.tables.specs.declared.FreeRegion.{FreeRegion}
use Rattle.tables.specs.declared.Zombie.{Zombie}
use Rattle.tables.specs.declared.Page.{Page}
use Rattle.tables.specs.WellFormed.{range, upto, common, whole, spans, holes_in}
use Rattle.tables.specs.WellFormed as well_formed

-- the ranges of all four tables, in ascending address
abbrev pub ranges_in : Tables → List well_formed.Range
ranges_in t = sorted (λ h. h.from) (spans t ++ (holes_in t ++ map (λ z. range z.start.0 z.size) (sorted (λ z. z.start.0) t.zombies)))

-- how many addresses of a range are in the roots
abbrev pub bytes_inside : ℕ → List Address → well_formed.Range → ℕ
bytes_inside va roots h = sum (λ a. common h (range a.0 va)) roots

-- all its addresses are in the roots
abbrev pub is_inside : ℕ → List Address → well_formed.Range → Bool
is_inside va roots h = eqb (bytes_inside va roots h) h.size

-- none starts where the one before ends, the first not at `b`
abbrev pub untouched : ℕ → List well_formed.Range → Bool
untouched b [] = true
untouched b (h ∷ l) = not (eqb b h.from) && untouched (upto h) l

-- a range that starts at or after `b`, ends at or below 2^63, is aligned, nonzero, inside the roots
unfoldable pub placed : ℕ → ℕ → List Address → ℕ → well_formed.Range → Bool
placed page va roots b h = leb b h.from && (leb (upto h) END && (whole page h.from && (whole page h.size && is_inside va roots h)))

-- each is so after the end of the one before, the first after `b`
abbrev pub passes : ℕ → ℕ → List Address → ℕ → List well_formed.Range → Bool
passes page va roots b [] = true
passes page va roots b (h ∷ l) = placed page va roots b h && passes page va roots (upto h) l

-- the tests of the roots, of handles and ids
unfoldable pub roots_pass : ℕ → ℕ → List Address → Bool
roots_pass page va roots = pairwise (λ a b. apart va a.0 b.0) roots && every (λ a. whole page a.0 && leb a.0 (END - va)) roots

unfoldable pub names_pass : List FreeRegion → List Zombie → List Page → ℕ → Bool
names_pass free zombies pages counter =
    distinct (map (λ g. g.handle.0) pages)
    && (distinct (map (λ f. f.id.0) free) && (every (λ f. ltb f.id.0 counter) free && every (λ z. ltb z.id.0 counter) zombies))

-- free, live and holes in ascending address
pub record InOrder (t : Tables) : Type 0 where
  pub free : Ascends (λ r. r.start.0) 0 t.free
  pub live : Ascends (λ b. b.start.0) 0 t.live
  pub holes : Ascends (λ h. h.start.0) 0 t.holes
