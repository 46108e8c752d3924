-- R7 of a malloc's result: the pages of the buffer are mapped, no live buffer lies over them, and no handle is under two of all these pages, since each
-- is active and handles are distinct.
use mathlib.Core.Path.{◌≡◌, refl, ap, sym, ◌∙◌, subst}
use mathlib.Core.Logic.{⊎_elim}
use mathlib.Core.Bool.{Bool, true, false, ◌&&◌, ◌||◌, not}
use mathlib.Core.List.{List, []}
use Prim.Native.Nat.{ℕ, ◌+◌, ◌≤◌, ◌<◌, ◌%◌}
use native.Mathlib.Omega.{arith}
use borrow.Author.Tests.{eq-eqb, eqb-true, eqb-false}
use lib.Dec.{eqb}
use Rattle.lists.specs.Tests.{All, Member, any}
use Rattle.lists.proofs.Tests.{either}
use Rattle.lists.proofs.Every.{all-every}
use Rattle.lists.proofs.Members.{all-members, member-all, member-sum, sum-member, put-member, put_keeps}
use Rattle.lists.proofs.Order.{sum-put}
use Rattle.tables.specs.Values as Values
use Rattle.tables.specs.Values.{Tables}
use Rattle.tables.specs.declared.LiveBuffer.{LiveBuffer}
use Rattle.tables.specs.declared.Page as Pool
use Rattle.tables.specs.declared.Outcome.{Outcome}
use Rattle.keeping.specs.Cover.{within, equal, cover_free, cover_live}
use Rattle.keeping.specs.Sound.{none, WholeRange, Sound}
use Rattle.keeping.proofs.Cover.{within_in, equal-positive}
use Rattle.keeping.proofs.Sounds.{sound-once}
use Rattle.judge_rules.specs.Ranges.{inside}
use Rattle.judge_rules.specs.Rules.{Page, Judge, whole_pages, none_live, in_buffers, alone, no_handle_twice, R7}
use Rattle.judge_rules.specs.declared.Run.{Run}
use Rattle.judge_rules.proofs.PageLaws.{inside_is}
use Rattle.agreement.specs.Agrees.{mapping, mapped_at, Agrees}
use Rattle.agreement.proofs.Same.{same-any-back, any-is}
use Rattle.agreement.proofs.Meets.{whole-mapped, none-live}
use Rattle.agreement.proofs.Counted.{counted-once}
use Rattle.agreement.proofs.HandOver.{Given}

one_of : (x y z : Bool) → (x ≡ false → y ≡ true → z ≡ true → ⊥) → (x || not y || not z) ≡ true
one_of true y z h = refl
one_of false false z h = refl
one_of false true false h = refl
one_of false true true h = absurd (h refl refl refl)

all_four : (x y z w : Bool) → x ≡ true → y ≡ true → z ≡ true → w ≡ true → (x && y && z && w) ≡ true
all_four x y z w a b c d = rw (a, b, c, d)

module _ {run : Run} {lost : ℕ → ℕ} {live : List LiveBuffer} {t : Tables} {s : Judge} (w : Sound lost none none t) (g : Agrees run none [] live t s) where
  -- a mapped page in a free or a live range is active
  is-active : (q : Page) → Member q s.mapped → 0 < cover_free t.free q.at + cover_live t.live q.at →
      (k : Pool.Page) × (Member k t.pages × (mapping k ≡ q))
  is-active q m h =
      let x = q.at in
      let e : x % t.fields.page ≡ 0 = member-all _ q s.mapped m g.aligned in
      let r = member-sum (λ (k : Pool.Page). equal k.start.0 x) t.pages (omega (arith, w.pages_match x e)) in
      let here : (mapping r.0).at ≡ x = equal-positive r.0.start.0 x r.1.1 in
      let once : mapped_at s.mapped x ≤ 1 = omega (arith, g.mapped x e, sound-once w x) in
      (r.0, (r.1.0, counted-once (λ (p : Page). p.at) (mapping r.0) q s.mapped (member-all _ r.0 t.pages r.1.0 g.active) m here (rw here once)))

  -- two such pages with one handle are one page
  same-handle : (p q : Page) → Member p s.mapped → Member q s.mapped → 0 < cover_free t.free p.at + cover_live t.live p.at →
      0 < cover_free t.free q.at + cover_live t.live q.at → p.handle ≡ q.handle → q.at ≡ p.at
  same-handle p q m n a b e =
      let j = is-active p m a in
      let k = is-active q n b in
      let same : j.0.handle.0 ≡ k.0.handle.0 = ap (λ (x : Page). x.handle) j.1.1 ∙ (e ∙ sym (ap (λ (x : Page). x.handle) k.1.1)) in
      let one : j.0 ≡ k.0 = counted-once (λ (x : Pool.Page). x.handle.0) j.0 k.0 t.pages j.1.0 k.1.0 same (w.handles_once j.0.handle.0) in
      sym (ap (λ (x : Page). x.at) k.1.1) ∙ (sym (ap (λ (x : Pool.Page). x.start.0) one) ∙ ap (λ (x : Page). x.at) j.1.1)

module _ {run : Run} {lost : ℕ → ℕ} {n k : ℕ} {o : Outcome} {t : Tables} {s : Judge} (w : Sound lost none none t) (d : Given run n k o t s) where
  abbrev a : ℕ
  a = d.start

  covers : (x : ℕ) → cover_live t.live x ≡ within a n x + cover_live d.before x
  covers x = ap (λ l. cover_live l x) d.live ∙ sum-put (λ b. b.start.0) (λ b. within b.start.0 b.size x) (Values.buffer a n k) d.before

  range : WholeRange t.fields.page a n
  range =
      member-all (λ b. WholeRange t.fields.page b.start.0 b.size) (Values.buffer a n k) t.live
      (subst (Member (Values.buffer a n k)) (sym d.live) (put-member (λ b. b.start.0) (Values.buffer a n k) d.before)) w.live

  -- an address in the buffer or in a live one
  held : (x : ℕ) → in_buffers s.live a n x ≡ true → 0 < cover_live t.live x
  held x e = ⊎_elim own other (either (inside a n x) (any (λ b. inside b.start b.size x) s.live) e)
    where
      own : inside a n x ≡ true → 0 < cover_live t.live x
      own i = let p = inside_is a n x i in omega (arith, covers x, within_in a n x p.0 p.1)

      other : any (λ b. inside b.start b.size x) s.live ≡ true → 0 < cover_live t.live x
      other i =
          let r = any-is (λ (b : LiveBuffer). inside b.start.0 b.size x) d.before (same-any-back d.agrees.buffers (λ b. inside b.start b.size x) i) in
          let p = inside_is r.0.start.0 r.0.size x r.1.1 in
          omega (arith, covers x, sum-member (λ (b : LiveBuffer). within b.start.0 b.size x) r.0 d.before r.1.0, within_in r.0.start.0 r.0.size x p.0 p.1)

  no-handle_twice : no_handle_twice s.mapped s.live a n ≡ true
  unfolding no_handle_twice
  no-handle_twice =
      all-every _ (λ p. (not (inside a n p.at) || alone s.mapped s.live a n p) ≡ true) (λ p e. e) s.mapped
      (all-members _ s.mapped (λ p m. each p m (inside a n p.at) refl))
    where
      own : (p : Page) → inside a n p.at ≡ true → in_buffers s.live a n p.at ≡ true
      own p i = rw i

      some : (q : Page) → in_buffers s.live a n q.at ≡ true → 0 < cover_free t.free q.at + cover_live t.live q.at
      some q e = omega (arith, held q.at e)

      far : (p q : Page) → Member p s.mapped → Member q s.mapped → inside a n p.at ≡ true →
          (eqb q.at p.at || not (eqb q.handle p.handle) || not (in_buffers s.live a n q.at)) ≡ true
      far p q m l i =
          one_of (eqb q.at p.at) (eqb q.handle p.handle) (in_buffers s.live a n q.at) (λ e f b.
          absurd (eqb-false q.at p.at e (same-handle w d.agrees p q m l (some p (own p i)) (some q b) (sym (eqb-true q.handle p.handle f)))))

      each : (p : Page) → Member p s.mapped → (b : Bool) → inside a n p.at ≡ b → (not b || alone s.mapped s.live a n p) ≡ true
      each p m false e = refl
      each p m true e =
          all-every _ (λ q. (eqb q.at p.at || not (eqb q.handle p.handle) || not (in_buffers s.live a n q.at)) ≡ true) (λ q h. h) s.mapped
          (all-members _ s.mapped (λ q l. far p q m l e))

  -- R7, where the size is what was asked
  pub meets-malloc : s.run.asked.first ≡ n → R7 s a n ≡ true
  unfolding R7
  meets-malloc e =
      let page : s.run.page ≡ t.fields.page = ap (λ (r : Run). r.page) d.agrees.runs ∙ d.agrees.page in
      let whole = whole-mapped t.fields.page a n s.mapped w.page range (λ x z p q. omega (arith, d.agrees.mapped x z, covers x, within_in a n x p q)) in
      let before : All (λ b. WholeRange t.fields.page b.start.0 b.size) d.before =
      all-members _ d.before (λ b m. member-all (λ c. WholeRange t.fields.page c.start.0 c.size) b t.live (subst (Member b) (sym d.live) (put_keeps (λ c. c.start.0) b (Values.buffer a n k) d.before m)) w.live) in
      let clear = none-live t.fields.page a n s.live d.before d.agrees.buffers range.size.positive before (λ x. omega (arith, sound-once w x, covers x)) in
      all_four (eqb n s.run.asked.first) (whole_pages s.run.page s.mapped a n) (none_live s.live a n) (no_handle_twice s.mapped s.live a n)
      (eq-eqb n s.run.asked.first (sym e)) (subst (λ p. whole_pages p s.mapped a n ≡ true) (sym page) whole) clear no-handle_twice
