-- `pool_soundness::pages::pages_match` meets its contract.
use mathlib.Core.Path.{◌≡◌, refl, ap, sym, ◌∙◌}
use mathlib.Core.Bool.{Bool, true, false, not, false≢true}
use mathlib.Core.List.{List, [], ◌∷◌, ◌++◌, map}
use Prim.Native.Nat.{ℕ, ◌+◌, ◌*◌, ◌≤◌, ◌<◌}
use native.Mathlib.Omega.{arith}
use borrow.Author.Rules.{rules}
use borrow.Author.Tests.{eq-eqb, ne_eqb}
use lib.ListN.{drop, get_or, drop_of_length-le}
use Rattle.std.specs.Prelude.{Option, Some, None}
use Rattle.std.specs.Option.{is_some}
use Rattle.lists.specs.Tests.{All, same}
use Rattle.lists.proofs.Order.{all-sorted}
use Rattle.lists.proofs.Cells.{turn-all}
use Rattle.tables.specs.Bounds.{END, SPANS}
use Rattle.tables.specs.Values.{tables_of, empty_page}
use Rattle.tables.specs.Pull.{starts}
use Rattle.tables.specs.WellFormed.{Range, pages_match, spans}
use Rattle.tables.specs.declared.Page.{Page}
use Rattle.keeping.proofs.PageStarts.{page_starts}
use Rattle.pool_soundness.specs.declared.walk.Front.{Front}
use Rattle.pool_soundness.specs.declared.walk.Walk.{Walk}
use Rattle.pool_soundness.specs.Walks.{of_free, of_live, range_of, start, left_of, Ordered, Next}
use Rattle.pool_soundness.proofs.Ceilings.{counted}
use Rattle.pool_soundness.proofs.PageWalk.{Spanned, next_start, next-span, next_bound, span_bound, some-page, some-start, none-high}
use Rattle.pool_soundness.proofs.Walks.{spans_left, ordered_as}
use Rattle.pool_soundness.proofs.pages.pages_match.Goals as goal
use Rattle.pool_soundness.proofs.pages.pages_match.Goals.{Joined-left-eq0, then-left-eq0+in-Some, else-left-eq0}

abbrev at-start : Page → ℕ
at-start g = g.start.0

-- whether no span is left once all pages are passed
ends : (page : ℕ) → 0 < page → (l m : List Range) (r : Option Front) (b : Bool) → is_some r ≡ not b → Next l r m → All (Spanned page) l →
    b ≡ same [] (page_starts page l)
unfolding Next
ends page p l m (Some x) true e n a = absurd (false≢true (sym e))
ends page p l m (Some x) false e n a = sym (rw n (some-start page (range_of x) m p (rw n at a).0.0))
ends page p l m None true e n a = rw (none-high page l a n)
ends page p l m None false e n a = absurd (false≢true e)

pub entries-requires : goal.entries-requires
entries-requires c =
    let few : c.args.pool.now.free.count ≤ SPANS = omega (arith, (counted c.args.pool.now c.requires.count_bound.0).spans) in (search rules, few)

pub entries-requires-2 : goal.entries-requires-2
entries-requires-2 c =
    let few : c.args.pool.now.live.count ≤ SPANS = omega (arith, (counted c.args.pool.now c.requires.count_bound.0).spans) in (search rules, few)

pub entries-g-items-requires : goal.entries-g-items-requires
entries-g-items-requires c = (search rules, (counted c.args.pool.now c.requires.count_bound.0).pages)

pub loop-g-init : goal.loop-g-init
unfolding tables_of
loop-g-init c =
    let p = c.args.pool.now in
    let f = c.entries.result.now in
    let b = c.entries-2.result.now in
    let all = spans_left p f b c.entries.ensures c.entries-2.ensures in (
      (
        record {
          free = ordered_as of_free f _ c.entries.ensures c.requires.ascends.free;
          live = ordered_as of_live b _ c.entries-2.ensures c.requires.ascends.live;
          holes = tt;
          zombies = tt;
        },
        (rw all (all-sorted start (Spanned p.page) (spans (tables_of p)) c.requires.all), search rules),
      ),
      rw (all, c.entries-g-items.ensures) refl,
    )

pub take_next-requires : goal.take_next-requires
take_next-requires c = c.loop-g.invariant.0.0

along : (P : Walk → ℕ → ℕ → Type 0) (w v : Walk) (a b l m : ℕ) → w ≡ v → a ≡ b → l ≡ m → P v b m → P w a l
along P w v a b l m d e f h = rw (d, e, f) h

-- where the walk stands once the next span is taken, if one had to be: in a span of which a page is left
module _ (c : Joined-left-eq0) where
  abbrev page : ℕ
  page = c.args.pool.now.page

  abbrev left-pages : ℕ → List ℕ
  left-pages i = map at-start (drop i c.entries-g-items.result.now)

  abbrev Stands : Walk → ℕ → ℕ → Type 0
  Stands spans at left =
      ((Ordered spans × (All (Spanned page) (left_of spans) × (at + left * page ≤ END))) × (0 < left))
      × (pages_match (tables_of c.args.pool.now) ≡ same (left-pages c.loop-g.g-index) (starts left at page ++ page_starts page (left_of spans)))

  stands : Stands c.if-left-eq0.spans c.if-left-eq0.at c.if-left-eq0.left
  unfolding Next
  stands =
      let known = c.loop-g.invariant in
      elim c.if-left-eq0.branch [
        | then-left-eq0+in-Some w ↦
            let h = range_of w.in-Some.span in
            let next : left_of c.loop-g.spans ≡ h ∷ left_of w.take_next.new.self = w.in-Some.ensures.next in
            let spanned : All (Spanned page) (h ∷ left_of w.take_next.new.self) = rw next at known.0.1.0 in
            along Stands _ _ _ _ _ _ w.spans-is w.at-is w.left-is (
              ((w.in-Some.ensures.ordered, (spanned.1, span_bound page END h spanned.0.1)), some-page page h.size c.requires.count_bound.1 spanned.0.0),
              known.1 ∙ next-span page c.loop-g.at c.loop-g.left (left_of c.loop-g.spans) (left_of w.take_next.new.self) h (left-pages c.loop-g.g-index) w.if-left-eq0.true next,
            )
        | else-left-eq0 w ↦ along Stands _ _ _ _ _ _ w.spans-is w.at-is w.left-is ((known.0, omega (arith, w.if-left-eq0.false)), known.1)
      ]

  -- the next page, and the next start
  next-page : left-pages c.loop-g.g-index ≡ (get_or c.entries-g-items.result.now c.loop-g.g-index empty_page).start.0 ∷ left-pages (c.loop-g.g-index + 1)
  next-page = ap (map at-start) (turn-all c.entries-g-items.result.now c.loop-g.g-index empty_page c.loop-g-test.true)

pub returns-in_default : goal.returns-in_default
unfolding Next
returns-in_default c =
    let p = c.args.pool.now in
    let known = c.loop-g.invariant in
    let none : left_of c.loop-g.spans ≡ [] = none-high p.page (left_of c.loop-g.spans) known.0.1.0 c.in_default.ensures.next in
    let item = turn-all c.entries-g-items.result.now c.loop-g.g-index empty_page c.loop-g-test.true in
    sym (known.1 ∙ rw (c.if-left-eq0.true, none, item))

pub returns-then-g-at : goal.returns-then-g-at
returns-then-g-at c =
    let j = (goal.at.returns-then-g-at c).Joined-left-eq0 in
    let s = c.if-left-eq0 in
    sym ((stands j).1 ∙ rw (next-page j, next_start c.args.pool.now.page s.left s.at _ (stands j).0.1, ne_eqb _ _ c.if-g-at.true))

pub overflow_add-at : goal.overflow_add-at
overflow_add-at c =
    let j = (goal.at.overflow_add-at c).Joined-left-eq0 in
    let s = c.if-left-eq0 in
    omega (arith, next_bound c.args.pool.now.page s.left s.at END (stands j).0.1 (stands j).0.0.1.1)

pub overflow_sub-left : goal.overflow_sub-left
overflow_sub-left c = omega (arith, (stands (goal.at.overflow_sub-left c).Joined-left-eq0).0.1)

pub loop-g-preserved : goal.loop-g-preserved
loop-g-preserved c =
    let j = (goal.at.loop-g-preserved c).Joined-left-eq0 in
    let s = c.if-left-eq0 in
    let k = stands j in (
      (k.0.0.0, (k.0.0.1.0, next_bound c.args.pool.now.page s.left s.at END k.0.1 k.0.0.1.1)),
      k.1 ∙ rw (next-page j, next_start c.args.pool.now.page s.left s.at _ k.0.1, eq-eqb _ _ c.if-g-at.false),
    )

pub returns-then-left-eq0-2 : goal.returns-then-left-eq0-2
returns-then-left-eq0-2 c =
    let p = c.args.pool.now in
    let l = c.loop-g in
    let took = c.take_next-then-left-eq0-2 in
    let ended : drop l.g-index c.entries-g-items.result.now ≡ [] = drop_of_length-le c.entries-g-items.result.now {i = l.g-index} (omega (arith, c.loop-g-test.false)) in
    ends p.page c.requires.count_bound.1 (left_of l.spans) (left_of took.new.self) took.result c.is_none.result c.is_none.ensures took.ensures.next l.invariant.0.1.0
    ∙ sym (l.invariant.1 ∙ rw (c.if-left-eq0-2.true, ended))

pub returns-else-left-eq0-2 : goal.returns-else-left-eq0-2
returns-else-left-eq0-2 c =
    let l = c.loop-g in
    let some : 0 < l.left = omega (arith, c.if-left-eq0-2.false) in
    let ended : drop l.g-index c.entries-g-items.result.now ≡ [] = drop_of_length-le c.entries-g-items.result.now {i = l.g-index} (omega (arith, c.loop-g-test.false)) in
    rw (ne_eqb _ _ c.if-left-eq0-2.false) (sym (l.invariant.1 ∙ rw (ended, next_start c.args.pool.now.page l.left l.at _ some)))
