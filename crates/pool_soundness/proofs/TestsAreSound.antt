-- The tests that the code makes, in its order, come to what the tests of docs/RULES.md 5 come to: all ranges in one order hold what the tables hold,
-- whatever is counted of them; spaced, they are disjoint; and ranges inside the roots end where the roots end, at or below 2^63.
use mathlib.Core.Path.{◌≡◌, refl}
use mathlib.Core.Logic.{⊎_elim, inr}
use mathlib.Core.Bool.{Bool, true, false, ◌&&◌, false≢true}
use mathlib.Core.List.{List, [], ◌∷◌, map, ◌++◌}
use Prim.Native.Nat.{ℕ, ◌+◌, ◌-◌, ◌≤◌, ◌<◌}
use lib.Dec.{leb}
use native.Mathlib.Omega.{arith}
use native.Mathlib.Nat.{mod-eq_of_lt}
use borrow.Author.Tests.{eq-eqb}
use Rattle.lists.specs.Tests.{All, Pairs, every}
use Rattle.lists.specs.Order.{sorted}
use Rattle.lists.proofs.Tests.{both, all_append, cases_lt}
use Rattle.lists.proofs.Every.{and-true, every-all, all-every, pairs-pairwise}
use Rattle.lists.proofs.Tests.{all_implies, all_both, all_first, all_second}
use Rattle.lists.proofs.Pairs.{pairs_implies}
use Rattle.lists.proofs.Order.{all-sorted, sum-sorted, sorted-ascends}
use Rattle.lists.proofs.Walks.{sum-append}
use Rattle.lists.proofs.Walks.{sum-none}
use Rattle.lists.proofs.Merges.{all_unsorted, ascends-map, map-sorted}
use Rattle.words.specs.declared.Address.{Address}
use Rattle.tables.specs.Bounds.{END}
use Rattle.tables.specs.Values.{Tables}
use Rattle.tables.specs.WellFormed.{
  Range,
  upto,
  whole,
  spans,
  ranges,
  holes_in,
  allowed,
  roots_disjoint,
  roots_aligned,
  ranges_aligned,
  ranges_disjoint,
  inside_roots,
  no_holes_touch,
  pages_match,
  handles_distinct,
  free_ids_distinct,
  ids_below,
  sound,
}
use Rattle.keeping.specs.Cover.{within}
use Rattle.keeping.specs.Sound.{Whole}
use Rattle.keeping.proofs.Cover.{within_in, within_out}
use Rattle.keeping.proofs.Counting.{cover_at, once-parted, parted-once, ordered}
use Rattle.keeping.proofs.Inside.{in_common, inside-covered}
use Rattle.keeping.proofs.PageStarts.{WholeSpan, cover_spans}
use Rattle.keeping.proofs.Ranges.{of_hole, of_zombie}
use Rattle.keeping.proofs.WellFormedTests.{Clauses, clauses_hold, of-parted, of_loose, whole_span-of, of_whole_span}
use Rattle.pool_soundness.specs.Tests.{ranges_in, is_inside, untouched, roots_pass, placed, passes, names_pass, InOrder}
use Rattle.pool_soundness.proofs.SpacedRanges.{is_aligned, spaced, Before, Low, spaced_low, spaced-before, before_spaced, untouched_loose, loose-untouched}

abbrev start : Range → ℕ
start h = h.from

-- the tests in the code's order
abbrev pub tested : Tables → Bool
tested t =
    allowed t.fields.page t.fields.va
    && (roots_pass t.fields.page t.fields.va t.roots
    && (passes t.fields.page t.fields.va t.roots 0 (ranges_in t)
    && (untouched 0 (holes_in t) && (pages_match t && names_pass t.free t.zombies t.pages t.fields.counter))))

-- the test of each range in turn is the three tests of all
module _ (page va : ℕ) (roots : List Address) where
  pub passes-parts : (b : ℕ) (l : List Range) → passes page va roots b l ≡ true →
      (every (is_aligned page) l ≡ true) × ((spaced b l ≡ true) × (every (is_inside va roots) l ≡ true))
  unfolding placed
  passes-parts b [] e = (refl, (refl, refl))
  passes-parts b (h ∷ l) e =
      let p = both (placed page va roots b h) (passes page va roots (upto h) l) e in
      let q = both (leb b h.from) _ p.0 in
      let r = both (leb (upto h) END) _ q.1 in
      let s = both (whole page h.from) _ r.1 in
      let u = both (whole page h.size) (is_inside va roots h) s.1 in
      let k = passes-parts (upto h) l p.1 in (
        and-true (is_aligned page h) _ (and-true (whole page h.from) (whole page h.size) s.0 u.0) k.0,
        (
          and-true (leb b h.from) _ q.0 (and-true (leb (upto h) END) _ r.0 k.1.0),
          and-true (is_inside va roots h) _ u.1 k.1.1,
        ),
      )

  pub parts-pass : (b : ℕ) (l : List Range) → every (is_aligned page) l ≡ true → spaced b l ≡ true → every (is_inside va roots) l ≡ true →
      passes page va roots b l ≡ true
  unfolding placed
  parts-pass b [] e f g = refl
  parts-pass b (h ∷ l) e f g =
      let a = both (is_aligned page h) _ e in
      let w = both (whole page h.from) (whole page h.size) a.0 in
      let p = both (leb b h.from) _ f in
      let q = both (leb (upto h) END) _ p.1 in
      let i = both (is_inside va roots h) _ g in
      and-true (placed page va roots b h) _
      (and-true (leb b h.from) _ p.0
      (and-true (leb (upto h) END) _ q.0
      (and-true (whole page h.from) _ w.0 (and-true (whole page h.size) (is_inside va roots h) w.1 i.0))))
      (parts-pass (upto h) l a.1 q.1 i.1)

module _ (t : Tables) where
  zombies_are : map of_zombie (sorted (λ z. z.start.0) t.zombies) ≡ sorted start (map of_zombie t.zombies)
  zombies_are = map-sorted of_zombie start t.zombies

  -- what holds of every range of the tables, and of all in one order
  all_in : (P : Range → Type 0) → All P (ranges t) → All P (ranges_in t)
  all_in P a =
      let z = map of_zombie t.zombies in
      let u = all_second P (spans t) (holes_in t ++ z) a in
      rw zombies_are
      (all-sorted start P (spans t ++ (holes_in t ++ sorted start z))
      (all_append P (spans t) (holes_in t ++ sorted start z) (all_first P (spans t) (holes_in t ++ z) a)
      (all_append P (holes_in t) (sorted start z) (all_first P (holes_in t) z u) (all-sorted start P z (all_second P (holes_in t) z u)))))

  all_out : (P : Range → Type 0) → All P (ranges_in t) → All P (ranges t)
  all_out P a =
      let z = map of_zombie t.zombies in
      let u : All P (spans t ++ (holes_in t ++ sorted start z)) = all_unsorted start P (spans t ++ (holes_in t ++ sorted start z)) (rw zombies_are at a) in
      let v = all_second P (spans t) (holes_in t ++ sorted start z) u in
      all_append P (spans t) (holes_in t ++ z) (all_first P (spans t) (holes_in t ++ sorted start z) u)
      (all_append P (holes_in t) z (all_first P (holes_in t) (sorted start z) v) (all_unsorted start P z (all_second P (holes_in t) (sorted start z) v)))

  pub all-spans : (P : Range → Type 0) → All P (ranges_in t) → All P (spans t)
  all-spans P a = all_first P (spans t) (holes_in t ++ map of_zombie t.zombies) (all_out P a)

  pub all-holes : (P : Range → Type 0) → All P (ranges_in t) → All P (holes_in t)
  all-holes P a =
      let z = map of_zombie t.zombies in
      all_first P (holes_in t) z (all_second P (spans t) (holes_in t ++ z) (all_out P a))

  cover_all : (x : ℕ) → cover_spans (ranges_in t) x ≡ cover_spans (ranges t) x
  cover_all x =
      let f : Range → ℕ = λ h. within h.from h.size x in
      let z = map of_zombie t.zombies in
      rw zombies_are
      (omega (
        arith,
        sum-sorted start f (spans t ++ (holes_in t ++ sorted start z)),
        sum-append f (spans t) (holes_in t ++ sorted start z),
        sum-append f (holes_in t) (sorted start z),
        sum-sorted start f z,
        sum-append f (spans t) (holes_in t ++ z),
        sum-append f (holes_in t) z,
      ))

  cover-holes : (x : ℕ) → cover_spans (holes_in t) x ≤ cover_spans (ranges t) x
  cover-holes x =
      let f : Range → ℕ = λ h. within h.from h.size x in
      let z = map of_zombie t.zombies in
      omega (arith, sum-append f (spans t) (holes_in t ++ z), sum-append f (holes_in t) z)

  -- holes in order that cover no address twice
  holes-before : InOrder t → All (WholeSpan t.fields.page) (ranges t) → ((x : ℕ) → cover_spans (ranges t) x ≤ 1) → Pairs Before (holes_in t)
  holes-before o w c =
      ordered start (λ h. h.size) 0 (holes_in t)
      (all_implies (WholeSpan t.fields.page) (λ h. 0 < h.size) (λ h v. v.size.positive) (holes_in t) (all-holes (WholeSpan t.fields.page) (all_in (WholeSpan t.fields.page) w)))
      (ascends-map of_hole start 0 t.holes o.holes) (λ x. omega (arith, c x, cover-holes x))

  -- from the tests to the clauses
  pub tested-passes : InOrder t → tested t ≡ true → sound t ≡ true
  unfolding sound roots_pass names_pass
  tested-passes o e =
      let a = both (allowed t.fields.page t.fields.va) _ e in
      let b = both (roots_pass t.fields.page t.fields.va t.roots) _ a.1 in
      let r = both (roots_disjoint t) (roots_aligned t) b.0 in
      let c = both (passes t.fields.page t.fields.va t.roots 0 (ranges_in t)) _ b.1 in
      let d = passes-parts t.fields.page t.fields.va t.roots 0 (ranges_in t) c.0 in
      let f = d.1 in
      let g = both (untouched 0 (holes_in t)) _ c.1 in
      let h = both (pages_match t) _ g.1 in
      let n = both (handles_distinct t) _ h.1 in
      let ids = both (free_ids_distinct t) (ids_below t) n.1 in
      let wholes : All (WholeSpan t.fields.page) (ranges t) =
      all_out (WholeSpan t.fields.page) (every-all _ _ (whole_span-of t.fields.page) (ranges_in t) d.0) in
      let once : (x : ℕ) → cover_spans (ranges t) x ≤ 1 =
      λ x. omega (arith, cover_all x, parted-once start (λ k. k.size) (ranges_in t) (pairs_implies Before _ (λ k m p. omega arith) (ranges_in t) (spaced-before 0 (ranges_in t) f.0)) x) in
      let inside : All (λ k. is_inside t.fields.va t.roots k ≡ true) (ranges t) = all_out _ (every-all _ _ (λ k q. q) (ranges_in t) f.1) in
      and-true (allowed t.fields.page t.fields.va) _ a.0
      (and-true (roots_disjoint t) _ r.0
      (and-true (roots_aligned t) _ r.1
      (and-true (ranges_aligned t) _ (all-every _ _ (of_whole_span t.fields.page) (ranges t) wholes)
      (and-true (ranges_disjoint t) _ (pairs-pairwise _ _ of-parted (ranges t) (once-parted start (λ k. k.size) (ranges t) once))
      (and-true (inside_roots t) _ (all-every _ _ (λ k q. q) (ranges t) inside)
      (and-true (no_holes_touch t) _ (pairs-pairwise _ _ of_loose (holes_in t) (untouched_loose 0 (holes_in t) (holes-before o wholes once) g.0))
      (and-true (pages_match t) _ h.0
      (and-true (handles_distinct t) _ n.0
      (and-true (free_ids_distinct t) (ids_below t) ids.0 ids.1)))))))))

  -- a range inside the roots ends where they end, or before
  low : Clauses t → All Low (ranges t)
  low c =
      all_implies (λ h. WholeSpan t.fields.page h × (in_common (λ a. a.0) (λ a. t.fields.va) h.from h.size t.roots ≡ h.size)) Low (λ h q. ends h q.0 q.1)
      (ranges t) (all_both (WholeSpan t.fields.page) _ (ranges t) c.whole c.inside)
    where
      once : (x : ℕ) → cover_at (λ a. a.0) (λ a. t.fields.va) t.roots x ≤ 1
      once = parted-once (λ a. a.0) (λ a. t.fields.va) t.roots c.roots_parted

      none : (x : ℕ) → END ≤ x → cover_at (λ a. a.0) (λ a. t.fields.va) t.roots x ≡ 0
      none x p =
          sum-none (λ a. within a.0 t.fields.va x) t.roots
          (all_implies (λ a. Whole t.fields.page a.0 × (a.0 + t.fields.va ≤ END)) (λ a. within a.0 t.fields.va x ≡ 0)
          (λ a q. within_out a.0 t.fields.va x (inr (omega (arith, q.1)))) t.roots c.roots)

      ends : (h : Range) → WholeSpan t.fields.page h → in_common (λ a. a.0) (λ a. t.fields.va) h.from h.size t.roots ≡ h.size → Low h
      ends h w e =
          let some : 0 < h.size = w.size.positive in
          ⊎_elim
          (λ p.
          let x = upto h - 1 in
          absurd
          (omega (
            arith,
            within_in h.from h.size x (omega arith) (omega arith),
            none x (omega arith),
            inside-covered (λ a. a.0) (λ a. t.fields.va) t.roots once h.from h.size e x,
          )))
          (λ p. p) (cases_lt END (upto h))

  -- and back
  pub passes_tested : sound t ≡ true → tested t ≡ true
  unfolding sound roots_pass names_pass
  passes_tested e =
      let c = clauses_hold t e in
      let a = both (allowed t.fields.page t.fields.va) _ e in
      let b = both (roots_disjoint t) _ a.1 in
      let d = both (roots_aligned t) _ b.1 in
      let f = both (ranges_aligned t) _ d.1 in
      let g = both (ranges_disjoint t) _ f.1 in
      let h = both (inside_roots t) _ g.1 in
      let i = both (no_holes_touch t) _ h.1 in
      let j = both (pages_match t) _ i.1 in
      let l = ranges_in t in
      let positive : All (λ k. 0 < k.size) l = all_in _ (all_implies (WholeSpan t.fields.page) _ (λ k w. w.size.positive) (ranges t) c.whole) in
      let once : (x : ℕ) → cover_spans l x ≤ 1 = λ x. omega (arith, cover_all x, parted-once start (λ k. k.size) (ranges t) c.parted x) in
      let before : Pairs Before l = ordered start (λ k. k.size) 0 l positive (sorted-ascends start (spans t ++ (holes_in t ++ map of_zombie (sorted (λ z. z.start.0) t.zombies)))) once in
      let above : All (λ k. 0 ≤ k.from) l = all_implies (λ k. 0 < k.size) (λ k. 0 ≤ k.from) (λ k p. omega arith) l positive in
      let starts : All (λ k. 0 ≡ k.from → ⊥) (holes_in t) =
      all_implies (WholeSpan t.fields.page) _ (λ k w q. omega (arith, w.start.positive)) (holes_in t) (all-holes _ (all_in _ c.whole)) in
      and-true (allowed t.fields.page t.fields.va) _ a.0
      (and-true (roots_pass t.fields.page t.fields.va t.roots) _ (and-true (roots_disjoint t) (roots_aligned t) b.0 d.0)
      (and-true (passes t.fields.page t.fields.va t.roots 0 l) _
      (parts-pass t.fields.page t.fields.va t.roots 0 l (all-every _ _ (of_whole_span t.fields.page) l (all_in _ c.whole))
      (before_spaced 0 l above (all_in Low (low c)) before) (all-every _ _ (λ k q. eq-eqb _ _ q) l (all_in _ c.inside)))
      (and-true (untouched 0 (holes_in t)) _ (loose-untouched 0 (holes_in t) starts c.loose) (and-true (pages_match t) _ j.0 j.1))))

same_tests : (a b : Bool) → (a ≡ true → b ≡ true) → (b ≡ true → a ≡ true) → a ≡ b
same_tests true true f g = refl
same_tests true false f g = absurd (false≢true (f refl))
same_tests false true f g = absurd (false≢true (g refl))
same_tests false false f g = refl

pub tested-sound : (t : Tables) → InOrder t → tested t ≡ sound t
tested-sound t o = same_tests (tested t) (sound t) (tested-passes t o) (passes_tested t)

-- what is known of all ranges once they pass, for the tests after
pub ranges_low : (t : Tables) → passes t.fields.page t.fields.va t.roots 0 (ranges_in t) ≡ true → All Low (ranges_in t)
ranges_low t e = spaced_low 0 (ranges_in t) (passes-parts t.fields.page t.fields.va t.roots 0 (ranges_in t) e).1.0

pub spans-paged : (t : Tables) → 0 < t.fields.page → passes t.fields.page t.fields.va t.roots 0 (ranges_in t) ≡ true →
    All (λ h. (t.fields.page ≤ h.size) × (upto h ≤ END)) (spans t)
spans-paged t p e =
    all-spans t _ (all_both _ _ (ranges_in t) (every-all _ _ paged (ranges_in t) (passes-parts t.fields.page t.fields.va t.roots 0 (ranges_in t) e).0) (ranges_low t e))
  where
    paged : (h : Range) → is_aligned t.fields.page h ≡ true → t.fields.page ≤ h.size
    paged h q =
        let w = whole_span-of t.fields.page h q in
        let some : 0 < h.size = w.size.positive in
        ⊎_elim (λ k. absurd (omega (arith, w.size.aligned, mod-eq_of_lt {n = h.size} {m = t.fields.page} k))) (λ k. k) (cases_lt h.size t.fields.page)
