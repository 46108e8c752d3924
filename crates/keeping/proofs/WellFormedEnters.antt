-- What an entry point knows after its refusals: the tables of an open pool that is well formed, read in order, are sound. What the roots hold and no
-- table covers is lost; each range is inside the roots and no two overlap, so that what is covered is no more than the roots hold.
use mathlib.Core.Path.{◌≡◌, refl, ap, ◌∙◌, sym}
use mathlib.Core.Logic.{⊎_elim}
use mathlib.Core.Bool.{true, ◌&&◌, ◌||◌}
use mathlib.Core.List.{List, [], ◌∷◌}
use Prim.Native.Nat.{ℕ, ◌+◌, ◌-◌, ◌%◌, ◌≤◌, ◌<◌}
use native.Mathlib.Omega.{arith}
use borrow.Author.Tests.{leb-true, ne_eqb}
use lib.Dec.{leb, eqb}
use lib.ListN.{length, take, length-take}
use Rattle.lists.specs.Tests.{All, Pairs}
use Rattle.lists.specs.Order.{sorted, Ascends, Rises}
use Rattle.lists.proofs.Tests.{both, cases_lt, cases_eq, all_implies, all_both}
use Rattle.lists.proofs.Maps.{all-unmap, sum-map}
use Rattle.lists.proofs.Pairs.{pairs_implies, pairs-both, pairs-all, pairs-unmap, ascends-pairs, pairs-rises}
use Rattle.lists.proofs.Order.{length-sorted, sorted-ascends}
use Rattle.cells.specs.Table.{entries}
use Rattle.tables.specs.Bounds.{END, HOLES, PAGES, ROOTS, SPANS, ZOMBIES}
use Rattle.tables.specs.Values.{Tables, tables_of, in_order, at_entry, opened, stopped, free_of, live_of, holes_of, zombies_of, pages_of, roots_of}
use Rattle.tables.specs.InsertHole.{from, upto, Apart}
use Rattle.tables.specs.WellFormed.{range, ranges, ceilings_kept, sound, well_formed}
use Rattle.tables.specs.declared.Hole.{Hole}
use Rattle.tables.specs.declared.Pool.{Pool}
use Rattle.keeping.specs.Cover.{within, equal, cover_free, cover_live, pages_at, keys_at}
use Rattle.keeping.specs.Sound.{none, Whole, WholeRange, Sound, Ceilings, Kept}
use Rattle.keeping.proofs.Cover.{within_in}
use Rattle.keeping.proofs.Counting.{once_differ, differ-once, cover_at, parted-once, ordered, cover_le, cover-past}
use Rattle.keeping.proofs.Inside.{inside-covered}
use Rattle.keeping.proofs.PageStarts.{WholeSpan, count-pages, whole-pages, unaligned-none}
use Rattle.keeping.proofs.Ranges.{OfEach, spans_in_order, cover-in_order, all-in_order, tables_at, roots_at, cover-ranges, each_of}
use Rattle.keeping.proofs.WellFormedTests.{Loose, Clauses, clauses_hold}

-- whole ranges in order that cover no address twice rise
rises-ranges : {A : Type 0} (lo size : A → ℕ) (p : ℕ) (l : List A) → All (λ a. WholeRange p (lo a) (size a)) l → Ascends lo 0 l →
    ((x : ℕ) → cover_at lo size l x ≤ 1) → Rises lo 0 l
rises-ranges lo size p l w s c = pairs-rises lo 0 l (all_implies _ (λ a. 0 < lo a) (λ a v. v.start.positive) l w) less
  where
    sized : All (λ a. 0 < size a) l
    sized = all_implies _ _ (λ a v. v.size.positive) l w

    less : Pairs (λ a b. lo a < lo b) l
    less =
        pairs_implies (λ a b. ((0 < size a) × (0 < size b)) × (lo a + size a ≤ lo b)) (λ a b. lo a < lo b) (λ a b q. omega arith) l
        (pairs-both _ _ l (pairs-all (λ a. 0 < size a) l sized) (ordered lo size 0 l sized s c))

-- holes that do not touch, pair by pair
pairs-apart : (b m : ℕ) (l : List Hole) → b ≤ m → All (λ h. b < from h) l → All (λ h. (0 < h.size) × (upto h ≤ m)) l → Pairs (λ h k. upto h < from k) l →
    Apart b m l
pairs-apart b m [] q a c r = q
pairs-apart b m (h ∷ l) q a c r = (a.0, (c.0.0, pairs-apart (upto h) m l c.0.1 r.0 c.1 r.1))

-- the tables that are sets, in ascending address
record Ordered (t : Tables) : Type 0 where
  free : Ascends (λ r. r.start.0) 0 t.free
  live : Ascends (λ b. b.start.0) 0 t.live
  holes : Ascends (λ h. h.start.0) 0 t.holes
  pages : Ascends (λ g. g.start.0) 0 t.pages

module _ (t : Tables) (c : Clauses t) (o : Ordered t) where
  roots-once : (x : ℕ) → roots_at t x ≤ 1
  roots-once = parted-once (λ a. a.0) (λ a. t.fields.va) t.roots c.roots_parted

  tables-once : (x : ℕ) → tables_at t x ≤ 1
  tables-once x = omega (arith, cover-ranges t x, parted-once (λ h. h.from) (λ h. h.size) (ranges t) c.parted x)

  inside : All (λ h. (x : ℕ) → within h.from h.size x ≤ roots_at t x) (ranges t)
  inside =
      all_implies _ _ (λ h e. inside-covered (λ a. a.0) (λ a. t.fields.va) t.roots roots-once h.from h.size e) (ranges t) c.inside

  tables-held : (x : ℕ) → tables_at t x ≤ roots_at t x
  tables-held x =
      omega (
        arith,
        cover-ranges t x,
        cover_le (λ h. h.from) (λ h. h.size) (roots_at t x) x (ranges t) (all_implies _ _ (λ h f. f x) (ranges t) inside)
            (omega (arith, cover-ranges t x, tables-once x)),
      )

  wholes : OfEach (WholeSpan t.fields.page) t
  wholes = each_of t (WholeSpan t.fields.page) c.whole

  -- a hole ends where the roots end: its last address is in one
  ends : (h : Hole) → WholeSpan t.fields.page (range (from h) h.size) → ((x : ℕ) → within (from h) h.size x ≤ roots_at t x) →
      upto h ≤ END
  ends h w f = ⊎_elim (λ q. absurd (past q)) (λ q. q) (cases_lt END (upto h))
    where
      past : END < upto h → ⊥
      past q =
          let x = upto h - 1 in
          let s : 0 < h.size = w.size.positive in
          omega (
            arith,
            f x,
            within_in (from h) h.size x (omega arith) (omega arith),
            cover-past (λ a. a.0) (λ a. t.fields.va) END x t.roots (all_implies _ _ (λ a r. r.1) t.roots c.roots) (omega arith),
          )

  holes-apart : Apart 0 END t.holes
  holes-apart =
      pairs-apart 0 END t.holes (omega arith) (all_implies _ _ (λ h w. w.start.positive) t.holes wholes.holes)
      (all_implies _ _ (λ h q. (q.0.size.positive, ends h q.0 q.1)) t.holes (all_both _ _ t.holes wholes.holes (each_of t _ inside).holes))
      (pairs_implies _ _ (λ h k q. omega arith) t.holes (pairs-both _ _ t.holes spaced (pairs-unmap _ Loose t.holes c.loose)))
    where
      spaced : Pairs (λ h k. upto h ≤ from k) t.holes
      spaced =
          ordered (λ h. h.start.0) (λ h. h.size) 0 t.holes (all_implies _ _ (λ h w. w.size.positive) t.holes wholes.holes) o.holes
          (λ x. omega (arith, tables-once x))

  -- the pages: whole, one for each page of free and live, and in order
  pages-whole : All (λ g. Whole t.fields.page g.start.0) t.pages
  pages-whole =
      all-unmap (λ g. g.start.0) (Whole t.fields.page) t.pages
      (rw c.pages (whole-pages t.fields.page c.page (spans_in_order t) (all-in_order t (WholeSpan t.fields.page) c.whole)))

  pages_match_lem : (x : ℕ) → x % t.fields.page ≡ 0 → pages_at t.pages x ≡ cover_free t.free x + cover_live t.live x
  pages_match_lem x e =
      sym (sum-map (λ g. g.start.0) (λ s. equal s x) t.pages)
      ∙ ap (λ l. keys_at (λ s. s) l x) c.pages
      ∙ count-pages t.fields.page c.page (spans_in_order t) (all-in_order t (WholeSpan t.fields.page) c.whole) x e
      ∙ cover-in_order t x

  pages-once : (x : ℕ) → pages_at t.pages x ≤ 1
  pages-once x =
      ⊎_elim (λ e. omega (arith, pages_match_lem x e, tables-once x)) (λ e. omega (arith, unaligned-none (λ g. g.start.0) t.fields.page x e t.pages pages-whole))
      (cases_eq (x % t.fields.page) 0)

  pages_rise_lem : Rises (λ g. g.start.0) 0 t.pages
  pages_rise_lem =
      pairs-rises (λ g. g.start.0) 0 t.pages (all_implies _ _ (λ g w. w.positive) t.pages pages-whole)
      (pairs_implies _ _ (λ g h q. less g.start.0 h.start.0 q.0 q.1) t.pages
      (pairs-both _ _ t.pages (ascends-pairs (λ g. g.start.0) 0 t.pages o.pages) (once_differ (λ g. g.start.0) t.pages pages-once)))
    where
      less : (a b : ℕ) → a ≤ b → (a ≡ b → ⊥) → a < b
      less a b p q = omega arith

  -- what the roots hold beside the tables is lost
  clauses-sound : Sound (λ x. roots_at t x - tables_at t x) none none t
  clauses-sound =
      record {
        page = c.page;
        va = c.va;
        small = c.small;
        roots = c.roots;
        free = wholes.free;
        live = wholes.live;
        holes = wholes.holes;
        zombies = wholes.zombies;
        pages = pages-whole;
        free_rises = rises-ranges (λ r. r.start.0) (λ r. r.size) t.fields.page t.free wholes.free o.free (λ x. omega (arith, tables-once x));
        live_rises = rises-ranges (λ b. b.start.0) (λ b. b.size) t.fields.page t.live wholes.live o.live (λ x. omega (arith, tables-once x));
        holes_apart = holes-apart;
        pages_rise = pages_rise_lem;
        roots_once = roots-once;
        covered = λ x. omega (arith, tables-held x);
        pages_match = λ x e. omega (arith, pages_match_lem x e);
        handles_once = differ-once (λ g. g.handle.0) t.pages (pairs-unmap (λ g. g.handle.0) (λ a b. a ≡ b → ⊥) t.pages c.handles);
        ids_once = differ-once (λ r. r.id.0) t.free (pairs-unmap (λ r. r.id.0) (λ a b. a ≡ b → ⊥) t.free c.ids);
        free_ids = c.free_ids;
        zombie_ids = c.zombie_ids;
      }

-- What an entry point knows: the tables that it reads, and what was lost before.
pub record Entered (p : Pool) : Type 0 where
  pub lost : ℕ → ℕ
  pub kept : Kept lost (at_entry p)

-- of the cells as many as the count are read, or fewer
length-first : {A : Type 0} (n : ℕ) (l : List A) → length (take n l) ≤ n
length-first n l = omega (arith, length-take n l)

length-in_order : {A : Type 0} (key : A → ℕ) (n : ℕ) (l : List A) → length (sorted key (take n l)) ≤ n
length-in_order key n l = omega (arith, length-sorted key (take n l), length-first n l)

pub ceilings-read : (p : Pool) → ceilings_kept p ≡ true → Ceilings (at_entry p)
unfolding ceilings_kept tables_of in_order entries
ceilings-read p e =
    let a = both (leb p.pages.count PAGES) _ e in
    let b = both (leb (p.free.count + p.live.count) SPANS) _ a.1 in
    let c = both (leb p.zombies.count ZOMBIES) _ b.1 in
    let d = both (leb (p.holes.count + p.zombies.count) HOLES) (leb p.roots.count ROOTS) c.1 in
    let pages = length-in_order (λ g. g.start.0) p.pages.count p.pages.cells in
    let free = length-in_order (λ r. r.start.0) p.free.count p.free.cells in
    let live = length-in_order (λ b. b.start.0) p.live.count p.live.cells in
    let holes = length-in_order (λ h. h.start.0) p.holes.count p.holes.cells in
    let zombies = length-first p.zombies.count p.zombies.cells in
    let roots = length-first p.roots.count p.roots.cells in
    record {
      pages = omega (arith, leb-true p.pages.count PAGES a.0);
      spans = omega (arith, leb-true (p.free.count + p.live.count) SPANS b.0);
      zombies = omega (arith, leb-true p.zombies.count ZOMBIES c.0);
      holes = omega (arith, leb-true (p.holes.count + p.zombies.count) HOLES d.0);
      roots = omega (arith, leb-true p.roots.count ROOTS d.1);
    }

in_order_lem : (t : Tables) → Ordered (in_order t)
unfolding in_order
in_order_lem t =
    record {
      free = sorted-ascends (λ r. r.start.0) t.free;
      live = sorted-ascends (λ b. b.start.0) t.live;
      holes = sorted-ascends (λ h. h.start.0) t.holes;
      pages = sorted-ascends (λ g. g.start.0) t.pages;
    }

pub enters : (p : Pool) → p.state ≡ opened → well_formed p ≡ true → Entered p
unfolding well_formed
enters p s e =
    let a = both (ceilings_kept p) (eqb p.state stopped || (eqb p.state opened && sound (at_entry p))) e in
    let t = at_entry p in
    let running : p.state ≡ stopped → ⊥ = λ q. omega arith in
    let b : (eqb p.state opened && sound t) ≡ true = rw (ne_eqb p.state stopped running) at a.1 in
    let c = both (eqb p.state opened) (sound t) b in
    record {
      lost = λ x. roots_at t x - tables_at t x;
      kept = record { sound = clauses-sound t (clauses_hold t c.1) (in_order_lem (tables_of p)); ceilings = ceilings-read p a.0 };
    }

-- of the tables at entry: the page size is the pool's, and there are no more spans than it counts
pub entry-page : (p : Pool) → (at_entry p).fields.page ≡ p.page
unfolding tables_of in_order
entry-page p = refl

pub entry-spans : (p : Pool) → length (at_entry p).free + length (at_entry p).live ≤ p.free.count + p.live.count
unfolding tables_of in_order entries
entry-spans p =
    omega (arith, length-in_order (λ r. r.start.0) p.free.count p.free.cells, length-in_order (λ b. b.start.0) p.live.count p.live.cells)
