-- docs/RULES.md 5: well formed, test by test.
use Rattle.std.specs.Prelude.{Bool, ◌&&◌, ◌||◌, not, List, ◌++◌, map, ℕ, ◌+◌, ◌-◌, ◌/◌, ◌%◌, min, max, ltb, leb, eqb}
use Rattle.lists.specs.Tests.{every, pairwise, distinct, same}
use Rattle.lists.specs.Order.{sorted}
use Rattle.lists.specs.Walks.{sum, joined}
use Rattle.tables.specs.Bounds.{END, HOLES, PAGES, ROOTS, SPANS, VA, ZOMBIES}
use Rattle.tables.specs.Values.{Tables, opened, stopped, at_entry}
use Rattle.tables.specs.TakeRange.{apart}
use Rattle.tables.specs.Pull.{starts}
use Rattle.tables.specs.declared.Pool.{Pool}

pub record Range : Type 0 where
  pub from : ℕ
  pub size : ℕ

abbrev pub range : ℕ → ℕ → Range
range a n = record { from = a; size = n }

abbrev pub upto : Range → ℕ
upto h = h.from + h.size

-- how many addresses two ranges have in common
abbrev pub common : Range → Range → ℕ
common h k = min (upto h) (upto k) - max h.from k.from

abbrev pub holes_in : Tables → List Range
holes_in t = map (λ h. range h.start.0 h.size) t.holes

-- the ranges of free and live
abbrev pub spans : Tables → List Range
spans t = map (λ r. range r.start.0 r.size) t.free ++ map (λ b. range b.start.0 b.size) t.live

-- the ranges of all four tables
abbrev pub ranges : Tables → List Range
ranges t = spans t ++ (holes_in t ++ map (λ z. range z.start.0 z.size) t.zombies)

-- 5.2: page size and va_size
unfoldable pub allowed : ℕ → ℕ → Bool
allowed page va = not (eqb page 0) && (not (eqb va 0) && (eqb (va % page) 0 && leb va VA))

-- 5.3: no two roots overlap
abbrev pub roots_disjoint : Tables → Bool
roots_disjoint t = pairwise (λ a b. apart t.fields.va a.0 b.0) t.roots

-- 1.2: a number of whole pages
abbrev pub whole : ℕ → ℕ → Bool
whole page n = not (eqb n 0) && eqb (n % page) 0

-- 5.3, 5.4: roots and ranges are whole, and no root ends above `END`
abbrev pub roots_aligned : Tables → Bool
roots_aligned t = every (λ a. whole t.fields.page a.0 && leb a.0 (END - t.fields.va)) t.roots

abbrev pub ranges_aligned : Tables → Bool
ranges_aligned t = every (λ h. whole t.fields.page h.from && whole t.fields.page h.size) (ranges t)

-- 5.4: no two ranges overlap
abbrev pub ranges_disjoint : Tables → Bool
ranges_disjoint t = pairwise (λ h k. eqb (common h k) 0) (ranges t)

-- 5.4: a range has all its addresses in common with the roots
abbrev pub inside_roots : Tables → Bool
inside_roots t = every (λ h. eqb (sum (λ a. common h (range a.0 t.fields.va)) t.roots) h.size) (ranges t)

-- 5.4: no two holes touch
abbrev pub no_holes_touch : Tables → Bool
no_holes_touch t = pairwise (λ h k. not (eqb (upto h) k.from) && not (eqb (upto k) h.from)) (holes_in t)

-- 5.5: the active pages are those of free and live
abbrev pub pages_match : Tables → Bool
pages_match t = same (map (λ g. g.start.0) t.pages) (joined (λ h. starts (h.size / t.fields.page) h.from t.fields.page) (sorted (λ h. h.from) (spans t)))

-- 5.5: no handle twice
abbrev pub handles_distinct : Tables → Bool
handles_distinct t = distinct (map (λ g. g.handle.0) t.pages)

-- 5.6: no free id twice
abbrev pub free_ids_distinct : Tables → Bool
free_ids_distinct t = distinct (map (λ r. r.id.0) t.free)

-- 5.6: the counter is above every id
abbrev pub ids_below : Tables → Bool
ids_below t = every (λ r. ltb r.id.0 t.fields.counter) t.free && every (λ z. ltb z.id.0 t.fields.counter) t.zombies

-- 5.1: counts within the ceilings
unfoldable pub ceilings_kept : Pool → Bool
ceilings_kept p =
    leb p.pages.count PAGES
    && (leb (p.free.count + p.live.count) SPANS
    && (leb p.zombies.count ZOMBIES
    && (leb (p.holes.count + p.zombies.count) HOLES
    && leb p.roots.count ROOTS)))

unfoldable pub sound : Tables → Bool
sound t =
    allowed t.fields.page t.fields.va
    && (roots_disjoint t
    && (roots_aligned t
    && (ranges_aligned t
    && (ranges_disjoint t
    && (inside_roots t
    && (no_holes_touch t
    && (pages_match t
    && (handles_distinct t
    && (free_ids_distinct t
    && ids_below t)))))))))

-- Of a stopped pool only the counts are tested.
unfoldable pub well_formed : Pool → Bool
well_formed p = ceilings_kept p && (eqb p.state stopped || (eqb p.state opened && sound (at_entry p)))
