-- One page, from the creation of its handle to the release: what each record of it leaves of the relation. Between its creation and the mapping, and
-- between the unmapping and its release, the handle is spare.
use mathlib.Core.Path.{◌≡◌, refl, sym, ◌∙◌}
use mathlib.Core.Logic.{inl, inr, ⊎_elim}
use mathlib.Core.Bool.{Bool, true, false, cond, not}
use mathlib.Core.List.{List, [], ◌∷◌}
use Prim.Native.Nat.{ℕ, ◌+◌, ◌≤◌, ◌<◌, ◌%◌}
use native.Mathlib.Omega.{arith}
use borrow.Author.Tests.{le-leb, lt-leb, lt-ltb, le-ltb, eq-eqb, ne_eqb, eqb-false, not-true}
use lib.Dec.{eqb}
use Rattle.lists.specs.Tests.{All, Member, filter}
use Rattle.lists.specs.Order.{put, without, Rises}
use Rattle.lists.specs.Walks.{sum}
use Rattle.lists.proofs.Tests.{cases_eq, cases_lt, all_implies, all_both, all_filter}
use Rattle.lists.proofs.Walks.{sum-equal}
use Rattle.lists.proofs.Order.{sum-put, all-put}
use Rattle.lists.proofs.Members.{member-all, all-members, member_filter, filter-member, sum-without}
use Rattle.tables.specs.Values.{Tables, page, with_pages}
use Rattle.tables.specs.NewPages.{at}
use Rattle.tables.specs.declared.LiveBuffer.{LiveBuffer}
use Rattle.tables.specs.declared.Page as Pool
use Rattle.keeping.specs.Cover.{equal, cover_roots, handles_at}
use Rattle.keeping.proofs.Cover.{equal-same, equal-other}
use Rattle.keeping.proofs.Counting.{none-counted, count_kept, count-dropped}
use Rattle.judge_rules.specs.Ranges.{inside}
use Rattle.judge_rules.specs.Rules.{Judge, Page, R3}
use Rattle.judge_rules.specs.Verdict.{with_held, placed, unmapped, released}
use Rattle.judge_rules.specs.declared.Run.{Run}
use Rattle.agreement.specs.Agrees.{mapping, mapped_at, held_at, Agrees}
use Rattle.agreement.proofs.Same.{sum_passing}
use Rattle.agreement.proofs.Meets.{mapped-none, held-some, aligned-below, in-reservation}
use Rattle.agreement.proofs.Agrees.{spans_at, agrees-page}

-- of the page starts, a page holds its own alone
pub inside_self : (p a : ℕ) → 0 < p → inside a p a ≡ true
inside_self p a pos = rw (le-leb a a (omega arith), lt-ltb a (a + p) (omega arith))

pub inside-other : (p a x : ℕ) → a % p ≡ 0 → x % p ≡ 0 → (x ≡ a → ⊥) → inside a p x ≡ false
inside-other p a x e f n =
    ⊎_elim
    (λ (q : x < a). rw (lt-leb a x q))
    (λ (q : a ≤ x). rw (le-leb a x q, le-ltb x (a + p) (aligned-below p x a f e (omega arith))))
    (cases_lt x a)

module _ {run : Run} {live : List LiveBuffer} {t : Tables} {s : Judge} where
  pub agrees-created : {new : ℕ → ℕ} {spare : List ℕ} → Agrees run new spare live t s → (h : ℕ) →
      Agrees run new (h ∷ spare) live t (with_held s (h ∷ s.held))
  agrees-created g h =
      record {
        runs = g.runs;
        page = g.page;
        va = g.va;
        reservations = g.reservations;
        held = λ w. omega (arith, g.held w);
        aligned = g.aligned;
        mapped = g.mapped;
        active = g.active;
        owned = all_implies _ _ (λ m q. omega (arith, q)) s.mapped g.owned;
        buffers = g.buffers;
        last = g.last;
      }

  -- R3: `a` is inside the roots, and in no range that is mapped
  pub meets-map : {new : ℕ → ℕ} (a h : ℕ) → Agrees run new (h ∷ []) live t s → 0 < t.fields.page → a % t.fields.page ≡ 0 → t.fields.va % t.fields.page ≡ 0 →
      All (λ b. b.0 % t.fields.page ≡ 0) t.roots → 0 < cover_roots t.fields.va t.roots a → spans_at t a + new a ≡ 0 → R3 s a h ≡ true
  unfolding R3
  meets-map a h g pos e va roots inside clear =
      let reserved = in-reservation t.fields.page t.fields.va a s.reservations t.roots g.reservations pos e va roots inside in
      let unmapped = mapped-none s.mapped a (g.mapped a e ∙ clear) in
      let held = held-some s.held h (omega (arith, g.held (λ k. equal k h), equal-same h)) in
      rw (agrees-page g, reserved, unmapped, held)

  -- a handle that is held is mapped at `a`, and active there
  pub agrees-mapped : {new new' : ℕ → ℕ} (a h : ℕ) → Agrees run new (h ∷ []) live t s → a % t.fields.page ≡ 0 →
      ((x : ℕ) → x % t.fields.page ≡ 0 → new' x ≡ new x + equal a x) → Agrees run new' [] live (with_pages (put at (page a h) t.pages) t) (placed s a h)
  agrees-mapped a h g e more =
      record {
        runs = g.runs;
        page = g.page;
        va = g.va;
        reservations = g.reservations;
        held = λ w. omega (arith, g.held w, sum-put at (λ q. w q.handle.0) (page a h) t.pages);
        aligned = (e, g.aligned);
        mapped = λ x q. omega (arith, g.mapped x q, more x q);
        active = all-put at _ (page a h) t.pages (inl refl) (all_implies _ _ (λ q m. inr m) t.pages g.active);
        owned = (omega (arith, g.held (λ k. equal k h), equal-same h), g.owned);
        buffers = g.buffers;
        last = g.last;
      }

  -- A page that is in no table's range is unmapped, and is active no more.
  pub agrees-unmapped : {new new' : ℕ → ℕ} (q : Pool.Page) → Agrees run new [] live t s → 0 < t.fields.page → Rises at 0 t.pages → Member q t.pages →
      ((x : ℕ) → x % t.fields.page ≡ 0 → new x ≡ equal (at q) x + new' x) → spans_at t (at q) + new' (at q) ≡ 0 →
      Agrees run new' (q.handle.0 ∷ []) live (with_pages (without at (at q) t.pages) t) (unmapped s (at q) t.fields.page)
  agrees-unmapped {new} {new'} q g pos rises here less gone =
      record {
        runs = g.runs;
        page = g.page;
        va = g.va;
        reservations = g.reservations;
        held = λ w. omega (arith, g.held w, sum-without at (λ r. w r.handle.0) 0 q t.pages rises here);
        aligned = all_filter _ stays s.mapped g.aligned;
        mapped = λ x e. ⊎_elim (λ d. rw d away) (other x e) (cases_eq x (at q));
        active = all-members _ (without at (at q) t.pages) still;
        owned = all_filter _ stays s.mapped g.owned;
        buffers = g.buffers;
        last = g.last;
      }
    where
      stays : Page → Bool
      stays m = not (inside (at q) t.fields.page m.at)

      starts : at q % t.fields.page ≡ 0
      starts = member-all _ (mapping q) s.mapped (member-all _ q t.pages here g.active) g.aligned

      away : mapped_at (filter stays s.mapped) (at q) ≡ spans_at t (at q) + new' (at q)
      away = count-dropped (λ (m : Page). m.at) (λ y. not (inside (at q) t.fields.page y)) (at q) s.mapped (rw (inside_self t.fields.page (at q) pos)) ∙ sym gone

      other : (x : ℕ) → x % t.fields.page ≡ 0 → (x ≡ at q → ⊥) → mapped_at (filter stays s.mapped) x ≡ spans_at t x + new' x
      other x e n =
          let kept = count_kept (λ (m : Page). m.at) (λ y. not (inside (at q) t.fields.page y)) x s.mapped (rw (inside-other t.fields.page (at q) x starts e n)) in
          omega (arith, kept, g.mapped x e, less x e, equal-other (at q) x (λ d. n (sym d)))

      -- a page that is active still is mapped still
      still : (r : Pool.Page) → Member r (without at (at q) t.pages) → Member (mapping r) (filter stays s.mapped)
      still r i =
          let m = member_filter (λ (b : Pool.Page). not (eqb (at b) (at q))) r t.pages i in
          let active = member-all _ r t.pages m.0 g.active in
          let e = member-all _ (mapping r) s.mapped active g.aligned in
          filter-member stays (mapping r) s.mapped active (rw (inside-other t.fields.page (at q) (at r) starts e (eqb-false (at r) (at q) (not-true (eqb (at r) (at q)) m.1))))

  -- No page has the handle that is spare, neither an active one nor a mapped one.
  pub agrees-released : {new : ℕ → ℕ} (h : ℕ) → Agrees run new (h ∷ []) live t s → handles_at t.pages h ≡ 0 → All (λ m. m.handle ≡ h → ⊥) s.mapped →
      Agrees run new [] live t (released s h)
  agrees-released h g gone under =
      record {
        runs = g.runs;
        page = g.page;
        va = g.va;
        reservations = g.reservations;
        held = holds;
        aligned = g.aligned;
        mapped = g.mapped;
        active = g.active;
        owned = all_implies _ _ (λ m q. owns m.handle q.0 q.1) s.mapped (all_both _ _ s.mapped under g.owned);
        buffers = g.buffers;
        last = g.last;
      }
    where
      stays : ℕ → Bool
      stays k = not (eqb k h)

      owns : (k : ℕ) → (k ≡ h → ⊥) → 0 < held_at s.held k → 0 < held_at (filter stays s.held) k
      owns k n q = omega (arith, q, count_kept (λ (i : ℕ). i) stays k s.held (rw (ne_eqb k h n)))

      holds : (w : ℕ → ℕ) → sum w (filter stays s.held) ≡ sum (λ q. w q.handle.0) t.pages + 0
      holds w =
          let weight : ℕ → ℕ = λ k. cond (stays k) (w k) 0 in
          let none : weight h ≡ 0 = rw (eq-eqb h h refl) in
          let same : (q : Pool.Page) → (q.handle.0 ≡ h → ⊥) → weight q.handle.0 ≡ w q.handle.0 = λ q n. rw (ne_eqb q.handle.0 h n) in
          let others : All (λ q. weight q.handle.0 ≡ w q.handle.0) t.pages =
          all_implies _ _ same t.pages (none-counted (λ (q : Pool.Page). q.handle.0) h t.pages gone) in
          omega (arith, sum_passing stays w s.held, g.held weight, none, sum-equal _ _ t.pages others)
