-- The tests of docs/RULES.md 5 pass just where what they test for holds: each part of `sound` as a fact, from the test and back.
use mathlib.Core.Path.{◌≡◌}
use mathlib.Core.Logic.{⊎_elim}
use mathlib.Core.Bool.{true, ◌&&◌, not}
use mathlib.Core.List.{map}
use Prim.Native.Nat.{ℕ, ◌+◌, ◌-◌, ◌%◌, ◌≤◌, ◌<◌}
use native.Mathlib.Omega.{arith}
use borrow.Author.Tests.{ltb-true, leb-true, eqb-true, eqb-false, not-true, lt-ltb, le-leb, lt-leb, eq-eqb, ne_eqb}
use lib.Dec.{leb, eqb, ltb}
use Rattle.lists.specs.Tests.{All, Pairs, every}
use Rattle.lists.specs.Order.{sorted}
use Rattle.lists.proofs.Tests.{both, either, cases_lt}
use Rattle.lists.proofs.Every.{and-true, every-all, all-every, pairwise-pairs, pairs-pairwise}
use Rattle.lists.proofs.Pairs.{same-is, is_same}
use Rattle.words.specs.declared.Address.{Address}
use Rattle.tables.specs.Bounds.{END, VA}
use Rattle.tables.specs.Values.{Tables}
use Rattle.tables.specs.TakeRange.{apart}
use Rattle.tables.specs.WellFormed.{
  Range,
  upto,
  common,
  spans,
  ranges,
  holes_in,
  allowed,
  whole,
  roots_disjoint,
  roots_aligned,
  ranges_aligned,
  ranges_disjoint,
  inside_roots,
  no_holes_touch,
  pages_match,
  handles_distinct,
  free_ids_distinct,
  ids_below,
  sound,
}
use Rattle.keeping.specs.Sound.{Whole}
use Rattle.keeping.proofs.Counting.{Parted}
use Rattle.keeping.proofs.Inside.{in_common}
use Rattle.keeping.proofs.PageStarts.{WholeSpan, page_starts}

-- two ranges that do not touch
abbrev pub Loose : Range → Range → Type 0
Loose h k = (upto h ≡ k.from → ⊥) × (upto k ≡ h.from → ⊥)

-- the clauses as facts
pub record Clauses (t : Tables) : Type 0 where
  pub page : 0 < t.fields.page
  pub va : Whole t.fields.page t.fields.va
  pub small : t.fields.va ≤ VA
  pub roots_parted : Pairs (Parted (λ a. a.0) (λ a. t.fields.va)) t.roots
  pub roots : All (λ a. Whole t.fields.page a.0 × (a.0 + t.fields.va ≤ END)) t.roots
  pub whole : All (WholeSpan t.fields.page) (ranges t)
  pub parted : Pairs (Parted (λ h. h.from) (λ h. h.size)) (ranges t)
  pub inside : All (λ h. in_common (λ a. a.0) (λ a. t.fields.va) h.from h.size t.roots ≡ h.size) (ranges t)
  pub loose : Pairs Loose (holes_in t)
  pub pages : map (λ g. g.start.0) t.pages ≡ page_starts t.fields.page (sorted (λ h. h.from) (spans t))
  pub handles : Pairs (λ a b. a ≡ b → ⊥) (map (λ g. g.handle.0) t.pages)
  pub ids : Pairs (λ a b. a ≡ b → ⊥) (map (λ r. r.id.0) t.free)
  pub free_ids : All (λ r. r.id.0 < t.fields.counter) t.free
  pub zombie_ids : All (λ z. z.id.0 < t.fields.counter) t.zombies

-- Each test as the fact that it tests for, and back.
positive_of : (n : ℕ) → not (eqb n 0) ≡ true → 0 < n
positive_of n e =
    let f = eqb-false n 0 (not-true (eqb n 0) e) in
    omega arith

of_positive : (n : ℕ) → 0 < n → not (eqb n 0) ≡ true
of_positive n h = rw (ne_eqb n 0 (λ e. omega arith))

differ_of : (a b : ℕ) → not (eqb a b) ≡ true → a ≡ b → ⊥
differ_of a b e = eqb-false a b (not-true (eqb a b) e)

of_differ : (a b : ℕ) → (a ≡ b → ⊥) → not (eqb a b) ≡ true
of_differ a b h = rw (ne_eqb a b h)

whole_of : (p n : ℕ) → whole p n ≡ true → Whole p n
whole_of p n e =
    let q = both (not (eqb n 0)) (eqb (n % p) 0) e in
    record { positive = positive_of n q.0; aligned = eqb-true (n % p) 0 q.1 }

of-whole : (p n : ℕ) → Whole p n → whole p n ≡ true
of-whole p n w = and-true (not (eqb n 0)) (eqb (n % p) 0) (of_positive n w.positive) (eq-eqb (n % p) 0 w.aligned)

pub whole_span-of : (p : ℕ) (h : Range) → (whole p h.from && whole p h.size) ≡ true → WholeSpan p h
whole_span-of p h e =
    let q = both (whole p h.from) (whole p h.size) e in
    record { start = whole_of p h.from q.0; size = whole_of p h.size q.1 }

pub of_whole_span : (p : ℕ) (h : Range) → WholeSpan p h → (whole p h.from && whole p h.size) ≡ true
of_whole_span p h w = and-true (whole p h.from) (whole p h.size) (of-whole p h.from w.start) (of-whole p h.size w.size)

pub apart_of : (va : ℕ) (a b : Address) → apart va a.0 b.0 ≡ true → Parted (λ a. a.0) (λ a. va) a b
apart_of va a b e =
    ⊎_elim (λ f. omega (arith, leb-true (a.0 + va) b.0 f)) (λ f. omega (arith, leb-true (b.0 + va) a.0 f))
    (either (leb (a.0 + va) b.0) (leb (b.0 + va) a.0) e)

of-apart : (va : ℕ) (a b : Address) → Parted (λ a. a.0) (λ a. va) a b → apart va a.0 b.0 ≡ true
of-apart va a b r =
    ⊎_elim
    (λ q. rw (lt-leb (a.0 + va) b.0 q) (le-leb (b.0 + va) a.0 (omega arith)))
    (λ q. rw (le-leb (a.0 + va) b.0 q))
    (cases_lt b.0 (a.0 + va))

parted-of : (h k : Range) → eqb (common h k) 0 ≡ true → Parted (λ h. h.from) (λ h. h.size) h k
parted-of h k e = omega (arith, eqb-true (common h k) 0 e)

pub of-parted : (h k : Range) → Parted (λ h. h.from) (λ h. h.size) h k → eqb (common h k) 0 ≡ true
of-parted h k r = eq-eqb (common h k) 0 (omega arith)

loose-of : (h k : Range) → (not (eqb (upto h) k.from) && not (eqb (upto k) h.from)) ≡ true → Loose h k
loose-of h k e =
    let q = both (not (eqb (upto h) k.from)) (not (eqb (upto k) h.from)) e in
    (differ_of (upto h) k.from q.0, differ_of (upto k) h.from q.1)

pub of_loose : (h k : Range) → Loose h k → (not (eqb (upto h) k.from) && not (eqb (upto k) h.from)) ≡ true
of_loose h k r =
    and-true (not (eqb (upto h) k.from)) (not (eqb (upto k) h.from)) (of_differ (upto h) k.from r.0) (of_differ (upto k) h.from r.1)

pub allowed_of : (page va : ℕ) → allowed page va ≡ true → (0 < page) × (Whole page va × (va ≤ VA))
unfolding allowed
allowed_of page va e =
    let a = both (not (eqb page 0)) _ e in
    let b = both (not (eqb va 0)) _ a.1 in
    let c = both (eqb (va % page) 0) (leb va VA) b.1 in
    (positive_of page a.0, (record { positive = positive_of va b.0; aligned = eqb-true (va % page) 0 c.0 }, leb-true va VA c.1))

pub of-allowed : (page va : ℕ) → 0 < page → Whole page va → va ≤ VA → allowed page va ≡ true
unfolding allowed
of-allowed page va p w s =
    and-true _ _ (of_positive page p) (and-true _ _ (of_positive va w.positive) (and-true _ _ (eq-eqb (va % page) 0 w.aligned) (le-leb va VA s)))

module _ (t : Tables) where
  root-of : (a : Address) → (whole t.fields.page a.0 && leb a.0 (END - t.fields.va)) ≡ true → Whole t.fields.page a.0 × (a.0 + t.fields.va ≤ END)
  root-of a e =
      let q = both (whole t.fields.page a.0) (leb a.0 (END - t.fields.va)) e in
      let w = whole_of t.fields.page a.0 q.0 in
      (w, omega (arith, leb-true a.0 (END - t.fields.va) q.1))

  of-root : (a : Address) → Whole t.fields.page a.0 × (a.0 + t.fields.va ≤ END) → (whole t.fields.page a.0 && leb a.0 (END - t.fields.va)) ≡ true
  of-root a w =
      and-true (whole t.fields.page a.0) (leb a.0 (END - t.fields.va)) (of-whole t.fields.page a.0 w.0) (le-leb a.0 (END - t.fields.va) (omega (arith, w.1)))

  -- from the test to the facts
  pub clauses_hold : sound t ≡ true → Clauses t
  unfolding sound
  clauses_hold e =
      let a = both (allowed t.fields.page t.fields.va) _ e in
      let b = both (roots_disjoint t) _ a.1 in
      let c = both (roots_aligned t) _ b.1 in
      let d = both (ranges_aligned t) _ c.1 in
      let f = both (ranges_disjoint t) _ d.1 in
      let g = both (inside_roots t) _ f.1 in
      let h = both (no_holes_touch t) _ g.1 in
      let i = both (pages_match t) _ h.1 in
      let j = both (handles_distinct t) _ i.1 in
      let k = both (free_ids_distinct t) (ids_below t) j.1 in
      let m = both (every (λ r. ltb r.id.0 t.fields.counter) t.free) (every (λ z. ltb z.id.0 t.fields.counter) t.zombies) k.1 in
      let al = allowed_of t.fields.page t.fields.va a.0 in
      record {
        page = al.0;
        va = al.1.0;
        small = al.1.1;
        roots_parted = pairwise-pairs _ _ (apart_of t.fields.va) t.roots b.0;
        roots = every-all _ _ root-of t.roots c.0;
        whole = every-all _ _ (whole_span-of t.fields.page) (ranges t) d.0;
        parted = pairwise-pairs _ _ parted-of (ranges t) f.0;
        inside = every-all _ _ (λ h e. eqb-true _ _ e) (ranges t) g.0;
        loose = pairwise-pairs _ _ loose-of (holes_in t) h.0;
        pages = same-is _ _ i.0;
        handles = pairwise-pairs _ _ differ_of (map (λ g. g.handle.0) t.pages) j.0;
        ids = pairwise-pairs _ _ differ_of (map (λ r. r.id.0) t.free) k.0;
        free_ids = every-all _ _ (λ r e. ltb-true _ _ e) t.free m.0;
        zombie_ids = every-all _ _ (λ z e. ltb-true _ _ e) t.zombies m.1;
      }

  -- and back
  pub clauses-pass : Clauses t → sound t ≡ true
  unfolding sound
  clauses-pass c =
      and-true (allowed t.fields.page t.fields.va) _ (of-allowed t.fields.page t.fields.va c.page c.va c.small)
      (and-true (roots_disjoint t) _ (pairs-pairwise _ _ (of-apart t.fields.va) t.roots c.roots_parted)
      (and-true (roots_aligned t) _ (all-every _ _ of-root t.roots c.roots)
      (and-true (ranges_aligned t) _ (all-every _ _ (of_whole_span t.fields.page) (ranges t) c.whole)
      (and-true (ranges_disjoint t) _ (pairs-pairwise _ _ of-parted (ranges t) c.parted)
      (and-true (inside_roots t) _ (all-every _ _ (λ h e. eq-eqb _ _ e) (ranges t) c.inside)
      (and-true (no_holes_touch t) _ (pairs-pairwise _ _ of_loose (holes_in t) c.loose)
      (and-true (pages_match t) _ (is_same _ _ c.pages)
      (and-true (handles_distinct t) _ (pairs-pairwise _ _ of_differ (map (λ g. g.handle.0) t.pages) c.handles)
      (and-true (free_ids_distinct t) _ (pairs-pairwise _ _ of_differ (map (λ r. r.id.0) t.free) c.ids)
      (and-true _ _ (all-every _ _ (λ r e. lt-ltb _ _ e) t.free c.free_ids) (all-every _ _ (λ z e. lt-ltb _ _ e) t.zombies c.zombie_ids)))))))))))
