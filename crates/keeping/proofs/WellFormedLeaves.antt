-- What a call leaves is well formed: each clause holds of sound tables, and the pool that holds them is read back as they are. The pages stand in
-- the order of the test, since both lists rise and count the same at every address.
use mathlib.Core.Path.{◌≡◌, ap, ◌∙◌, sym}
use mathlib.Core.Logic.{⊎_elim}
use mathlib.Core.Bool.{true}
use mathlib.Core.List.{List, [], ◌∷◌, map}
use Prim.Native.Nat.{ℕ, ◌+◌, ◌%◌, ◌≤◌, ◌<◌}
use native.Mathlib.Omega.{arith}
use borrow.Author.Tests.{le-leb}
use lib.Dec.{leb}
use lib.ListN.{length}
use Rattle.lists.specs.Tests.{All, Pairs}
use Rattle.lists.specs.Order.{sorted, Rises}
use Rattle.lists.proofs.Tests.{cases_eq, all_implies}
use Rattle.lists.proofs.Every.{and-true}
use Rattle.lists.proofs.Pairs.{rises_above, pairs_implies, pairs-map, rises-pairs}
use Rattle.lists.proofs.Order.{sorted-ascends, sorted-same, rises-ascends}
use Rattle.lists.proofs.Maps.{sum-map}
use Rattle.cells.specs.Table.{pack}
use Rattle.tables.specs.Bounds.{END, HOLES, PAGES, ROOTS, SPANS, ZOMBIES}
use Rattle.tables.specs.Values.{Tables, in_order, at_entry, pool_of, opened, pack_free, pack_live, pack_holes, pack_zombies, pack_pages, pack_roots}
use Rattle.tables.specs.InsertHole.{from, upto, Apart}
use Rattle.tables.specs.WellFormed.{spans, ranges, holes_in, ceilings_kept, sound, well_formed}
use Rattle.tables.specs.declared.Hole.{Hole}
use Rattle.tables.proofs.Packs.{tables-pool}
use Rattle.keeping.specs.Cover.{within, equal, pages_at, keys_at}
use Rattle.keeping.specs.Sound.{none, Sound, Ceilings, Kept}
use Rattle.keeping.proofs.Counting.{once_differ, counts_same, once-parted, ordered, all_cover}
use Rattle.keeping.proofs.Holes.{apart-rises}
use Rattle.keeping.proofs.Inside.{covered-inside}
use Rattle.keeping.proofs.PageStarts.{WholeSpan, page_starts, count-pages, whole-pages, rise-pages, unaligned-none}
use Rattle.keeping.proofs.Ranges.{tables_at, roots_at, of_hole, spans_in_order, cover-in_order, all-in_order, cover-ranges, of-each}
use Rattle.keeping.proofs.WellFormedTests.{Loose, Clauses, clauses-pass}

-- holes in order, pair by pair
apart-pairs : (b m : ℕ) (l : List Hole) → Apart b m l → Pairs (λ h k. upto h < from k) l
apart-pairs b m [] w = tt
apart-pairs b m (h ∷ l) w = (rises_above from (upto h) l (apart-rises (upto h) m l w.1.1), apart-pairs (upto h) m l w.1.1)

module _ (lost : ℕ → ℕ) (t : Tables) (s : Sound lost none none t) where
  tables-held : (x : ℕ) → tables_at t x ≤ roots_at t x
  tables-held x = omega (arith, s.covered x)

  ranges-whole : All (WholeSpan t.fields.page) (ranges t)
  ranges-whole = of-each t (WholeSpan t.fields.page) (record { free = s.free; live = s.live; holes = s.holes; zombies = s.zombies })

  ranges-inside : All (λ h. (x : ℕ) → within h.from h.size x ≤ roots_at t x) (ranges t)
  ranges-inside = all_cover (λ h. h.from) (λ h. h.size) (roots_at t) (ranges t) (λ x. omega (arith, cover-ranges t x, tables-held x))

  holes_loose : Pairs Loose (holes_in t)
  holes_loose =
      pairs-map of_hole Loose t.holes
      (pairs_implies (λ h k. upto h < from k) (λ h k. Loose (of_hole h) (of_hole k)) (λ h k p. ((λ e. omega arith), (λ e. omega arith))) t.holes
      (apart-pairs 0 END t.holes s.holes_apart))

  spans-whole : All (WholeSpan t.fields.page) (spans_in_order t)
  spans-whole = all-in_order t (WholeSpan t.fields.page) ranges-whole

  spans_rise : Pairs (λ h k. h.from + h.size ≤ k.from) (spans_in_order t)
  spans_rise =
      ordered (λ h. h.from) (λ h. h.size) 0 (spans_in_order t) (all_implies _ _ (λ h w. w.size.positive) (spans_in_order t) spans-whole)
      (sorted-ascends (λ h. h.from) (spans t)) (λ x. omega (arith, cover-in_order t x, tables-held x, s.roots_once x))

  pages-count : (x : ℕ) → pages_at t.pages x ≡ keys_at (λ s. s) (page_starts t.fields.page (spans_in_order t)) x
  pages-count x = ⊎_elim aligned unaligned (cases_eq (x % t.fields.page) 0)
    where
      aligned : x % t.fields.page ≡ 0 → pages_at t.pages x ≡ keys_at (λ s. s) (page_starts t.fields.page (spans_in_order t)) x
      aligned e =
          omega (arith, s.pages_match x e, count-pages t.fields.page s.page (spans_in_order t) spans-whole x e, cover-in_order t x)

      unaligned : (x % t.fields.page ≡ 0 → ⊥) → pages_at t.pages x ≡ keys_at (λ s. s) (page_starts t.fields.page (spans_in_order t)) x
      unaligned e =
          unaligned-none (λ g. g.start.0) t.fields.page x e t.pages s.pages
          ∙ sym (unaligned-none (λ s. s) t.fields.page x e (page_starts t.fields.page (spans_in_order t)) (whole-pages t.fields.page s.page (spans_in_order t) spans-whole))

  pages-same : map (λ g. g.start.0) t.pages ≡ page_starts t.fields.page (spans_in_order t)
  pages-same =
      counts_same (map (λ g. g.start.0) t.pages) (page_starts t.fields.page (spans_in_order t))
      (pairs-map (λ g. g.start.0) (λ a b. a < b) t.pages (rises-pairs (λ g. g.start.0) 0 t.pages s.pages_rise))
      (rise-pages t.fields.page s.page (spans_in_order t) spans-whole spans_rise)
      (λ x. sum-map (λ g. g.start.0) (λ a. equal a x) t.pages ∙ pages-count x)

  sound_clauses : Clauses t
  sound_clauses =
      record {
        page = s.page;
        va = s.va;
        small = s.small;
        roots_parted = once-parted (λ a. a.0) (λ a. t.fields.va) t.roots s.roots_once;
        roots = s.roots;
        whole = ranges-whole;
        parted = once-parted (λ h. h.from) (λ h. h.size) (ranges t) (λ x. omega (arith, cover-ranges t x, tables-held x, s.roots_once x));
        inside = all_implies _ _ (λ h f. covered-inside (λ a. a.0) (λ a. t.fields.va) t.roots s.roots_once h.from h.size f) (ranges t) ranges-inside;
        loose = holes_loose;
        pages = pages-same;
        handles = pairs-map (λ g. g.handle.0) (λ a b. a ≡ b → ⊥) t.pages (once_differ (λ g. g.handle.0) t.pages s.handles_once);
        ids = pairs-map (λ r. r.id.0) (λ a b. a ≡ b → ⊥) t.free (once_differ (λ r. r.id.0) t.free s.ids_once);
        free_ids = s.free_ids;
        zombie_ids = s.zombie_ids;
      }

  -- tables in order are read in that order
  in_order-same : in_order t ≡ t
  unfolding in_order
  in_order-same =
      λ i. record {
        fields = t.fields;
        free = rises_sorted (λ r. r.start.0) t.free s.free_rises i;
        live = rises_sorted (λ b. b.start.0) t.live s.live_rises i;
        holes = rises_sorted (λ h. h.start.0) t.holes (apart-rises 0 END t.holes s.holes_apart) i;
        zombies = t.zombies;
        pages = rises_sorted (λ g. g.start.0) t.pages s.pages_rise i;
        roots = t.roots;
      }
    where
      rises_sorted : {A : Type 0} (key : A → ℕ) (l : List A) → Rises key 0 l → sorted key l ≡ l
      rises_sorted key l r = sorted-same key 0 l (rises-ascends key 0 l r)

pub ceilings-pass : (state : ℕ) (t : Tables) → Ceilings t → ceilings_kept (pool_of state t) ≡ true
unfolding ceilings_kept pool_of pack
ceilings-pass state t c =
    and-true (leb (length t.pages) PAGES) _ (le-leb (length t.pages) PAGES c.pages)
    (and-true (leb (length t.free + length t.live) SPANS) _ (le-leb (length t.free + length t.live) SPANS c.spans)
    (and-true (leb (length t.zombies) ZOMBIES) _ (le-leb (length t.zombies) ZOMBIES c.zombies)
    (and-true (leb (length t.holes + length t.zombies) HOLES) _ (le-leb (length t.holes + length t.zombies) HOLES c.holes)
    (le-leb (length t.roots) ROOTS c.roots))))

-- the next call reads the tables as this one left them
pub read_back : (lost : ℕ → ℕ) (state : ℕ) (t : Tables) → Sound lost none none t → at_entry (pool_of state t) ≡ t
read_back lost state t s = ap in_order (tables-pool state t) ∙ in_order-same lost t s

sound-pool : (lost : ℕ → ℕ) (t : Tables) → Sound lost none none t → sound (at_entry (pool_of opened t)) ≡ true
sound-pool lost t s = rw (read_back lost opened t s) (clauses-pass t (sound_clauses lost t s))

pub well_formed_lem : (lost : ℕ → ℕ) (t : Tables) → Kept lost t → well_formed (pool_of opened t) ≡ true
unfolding well_formed pool_of
well_formed_lem lost t k = and-true (ceilings_kept (pool_of opened t)) _ (ceilings-pass opened t k.ceilings) (sound-pool lost t k.sound)
