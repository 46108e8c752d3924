-- Moving pages: a page that is taken out of the page table leaves its handle held. It is mapped at the next address of a range in hand, which is inside the
-- roots and in no other range, so nothing is mapped there; its old place stays mapped to it, as a zombie's.
use mathlib.Core.Path.{◌≡◌, refl, ap, sym}
use mathlib.Core.Logic.{inr}
use mathlib.Core.Bool.{true}
use mathlib.Core.List.{List, [], ◌∷◌}
use Prim.Native.Nat.{ℕ, suc, ◌+◌, ◌-◌, ◌*◌, ◌≤◌, ◌<◌, ◌%◌}
use native.Mathlib.Omega.{arith}
use native.Mathlib.Nat.{zero-mul, suc-mul}
use borrow.Author.Tests.{le-leb}
use lib.Dec.{leb}
use lib.ListN.{length}
use Rattle.lists.specs.Tests.{Member}
use Rattle.lists.specs.Order.{put, Rises, without}
use Rattle.lists.specs.Walks.{sum}
use Rattle.lists.proofs.Tests.{length-mapped, all_implies}
use Rattle.lists.proofs.Members.{all_without, sum-without}
use Rattle.words.specs.declared.Word.TheVariants.{Map}
use Rattle.tables.specs.Bounds.{SPANS}
use Rattle.tables.specs.Values
use Rattle.tables.specs.Values.{Tables, with_pages}
use Rattle.tables.specs.Steps.{◌>>◌, change_pages}
use Rattle.tables.specs.Driver.{map}
use Rattle.tables.specs.NewPages.{at, map_page}
use Rattle.tables.specs.Pull.{pages_in, handle_at, move_pages}
use Rattle.tables.specs.declared.FreeRegion.{FreeRegion}
use Rattle.tables.specs.declared.LiveBuffer.{LiveBuffer}
use Rattle.tables.specs.declared.Zombie.{Zombie}
use Rattle.tables.specs.declared.Page.{Page}
use Rattle.tables.specs.declared.Outcome.{Outcome}
use Rattle.keeping.specs.Cover.{within, equal}
use Rattle.keeping.specs.Sound.{none}
use Rattle.keeping.specs.Move.{Movable, Moving}
use Rattle.keeping.proofs.Cover.{within_join, within_out, within_none}
use Rattle.keeping.proofs.Whole.{within-page}
use Rattle.keeping.proofs.PageStarts.{length_starts_of}
use Rattle.keeping.proofs.Move.{handle_at-is, unpaged, Moved, page-there, moving-next, moving-first, moves-pages}
use Rattle.judge_rules.specs.Sizes.{most_mapped}
use Rattle.judge_rules.specs.Rules.{Judge, R3}
use Rattle.judge_rules.specs.Verdict.{recorded, ruled, sized, placed}
use Rattle.judge_rules.specs.declared.Run.{Run}
use Rattle.agreement.specs.Agrees.{Serving, Agrees, Agreeing, Ends}
use Rattle.agreement.specs.Judges.{addresses, Judges}
use Rattle.agreement.proofs.Judges.{judges-from, judges_to, judges_given, judges-and, judges_then, judges-give, judges_looked-at, judges-change}
use Rattle.agreement.proofs.Words.{Accepts, judges-must}
use Rattle.agreement.proofs.Meets.{agrees-inside, agrees-seen}
use Rattle.agreement.proofs.Agrees.{spans_at, agrees_as}
use Rattle.agreement.proofs.Handles.{meets-map, agrees-mapped}

-- the tables with a page at `a`
abbrev paged : ℕ → ℕ → Tables → Tables
paged a h t = with_pages (put at (Values.page a h) t.pages) t

module _ {run : Run} {new : ℕ → ℕ} {live : List LiveBuffer} {t : Tables} {s : Judge} where
  -- a page taken out of the page table: its handle is held, but not active
  agrees_unpaged : (b : ℕ) (k : Page) → Agrees run new [] live t s → Rises at 0 t.pages → Member k t.pages → at k ≡ b →
      Agrees run new (handle_at b t.pages ∷ []) live (unpaged b t) s
  agrees_unpaged b k g rises m e =
      let same : handle_at (at k) t.pages ≡ k.handle.0 = handle_at-is 0 k t.pages rises m in
      rw (← e, same)
      (record {
        runs = g.runs;
        page = g.page;
        va = g.va;
        reservations = g.reservations;
        held = λ w. omega (arith, g.held w, sum-without at (λ k. w k.handle.0) 0 k t.pages rises m);
        aligned = g.aligned;
        mapped = g.mapped;
        active = all_without at _ (at k) t.pages g.active;
        owned = g.owned;
        buffers = g.buffers;
        last = g.last;
      })

module _ {run : Run} (serving : Serving run) where
  module _ (lost hand : ℕ → ℕ) (p base a c : ℕ) (f : List FreeRegion) (b : ℕ) (bs : List ℕ) (u : Tables) (w : Moving lost hand p base a c f (b ∷ bs) u) where
    abbrev h : ℕ
    h = handle_at b u.pages

    abbrev filled : ℕ → ℕ
    filled = within base (a - base)

    pos : 0 < u.fields.page
    pos = w.sound.page

    aligned : a % u.fields.page ≡ 0
    aligned = rw w.page w.whole.aligned

    -- the next address is in hand, so in no other range
    in-hand : hand a ≡ 1
    in-hand = w.room a (omega arith) (omega (arith, suc-mul (length bs) p, rw w.page at pos))

    in-no-range : spans_at u a + filled a ≡ 0
    in-no-range =
        omega (arith, in-hand, w.sound.covered a, w.sound.roots_once a, within_out base (a - base) a (inr (omega (arith, w.past))))

    -- the page at `b` is taken out, and put in at `a`
    taken_out : (s : Judge) → Agreeing run filled [] u s → Agrees run filled (h ∷ []) u.live (unpaged b u) s
    taken_out s g =
        let there = page-there lost hand p base a c f b bs u w in
        agrees_unpaged b there.0 g w.sound.pages_rise there.1.0 there.1.1

    put_in : (s : Judge) → Agrees run filled (h ∷ []) u.live (unpaged b u) s →
        Agrees run (within base (a + p - base)) [] u.live (paged a h (unpaged b u)) (placed s a h)
    put_in s g = agrees-mapped a h g aligned grown
      where
        grown : (x : ℕ) → x % u.fields.page ≡ 0 → within base (a + p - base) x ≡ filled x + equal a x
        grown x e =
            let here : base + (a - base) ≡ a = omega (arith, w.past) in
            let size : (a - base) + p ≡ a + p - base = omega (arith, w.past) in
            let join : within base (a + p - base) x ≡ filled x + within a p x = rw (here, size) at (within_join base (a - base) p x) in
            omega (arith, join, within-page p a x (rw w.page at pos) w.whole.aligned (rw w.page at e))

    -- the judge takes its record
    accepts : (s : Judge) → Agrees run filled (h ∷ []) u.live (unpaged b u) s → length (a ∷ addresses s.mapped) ≤ most_mapped →
        Accepts Map a h s (Agrees run (within base (a + p - base)) [] u.live (paged a h (unpaged b u)))
    unfolding recorded ruled sized
    accepts s g few =
        let met : R3 s a h ≡ true =
        meets-map a h g pos aligned w.sound.va.aligned (all_implies _ _ (λ r q. q.0.aligned) u.roots w.sound.roots)
        (omega (arith, w.sound.covered a, in-hand)) in-no-range in
        let fits : leb (suc (length s.mapped)) most_mapped ≡ true =
        le-leb (suc (length s.mapped)) most_mapped (omega (arith, length-mapped (λ g. g.at) s.mapped (length (addresses s.mapped)) refl)) in
        record {
          inside = agrees-inside serving g;
          state = placed s a h;
          accepts = rw (agrees-seen serving g, met, fits);
          holds = put_in s g;
        }

    -- one page mapped, and active at `a`
    judges-map_page : {E : Outcome → Tables → Judge → Type 0} →
        Judges (λ t s. (t ≡ unpaged b u) × Agrees run filled (h ∷ []) u.live (unpaged b u) s) (map_page a h)
        (λ _ t s. Moving lost hand p base (a + p) c f bs t × Agreeing run (within base (a + p - base)) [] t s) E
    unfolding map_page map
    judges-map_page =
        judges_then (λ _ t s. (t ≡ unpaged b u) × Agreeing run (within base (a + p - base)) [] (paged a h (unpaged b u)) s)
        (judges-must Map a h (λ _. refl) (λ t s q few. and-tables t q.0 (accepts s q.1 few)))
        (λ _. judges-change _ (λ t s q. rw q.0 (moving-next lost hand p base a c f b bs u w, q.1)))
      where
        and-tables : {s : Judge} {R : Judge → Type 0} (t : Tables) → t ≡ unpaged b u → Accepts Map a h s R → Accepts Map a h s (λ z. (t ≡ unpaged b u) × R z)
        and-tables t e q = record { inside = q.inside; state = q.state; accepts = q.accepts; holds = (e, q.holds) }

  -- While pages are moved, those before `a` are mapped in a range that no table has.
  pub judges-move_pages : (lost hand : ℕ → ℕ) (p base a c : ℕ) (f : List FreeRegion) (bs : List ℕ) {E : Outcome → Tables → Judge → Type 0} →
      Judges (λ t s. Moving lost hand p base a c f bs t × Agreeing run (within base (a - base)) [] t s) (move_pages bs a)
      (λ _ t s. Moving lost hand p base (a + length bs * p) c f [] t × Agreeing run (within base (a + length bs * p - base)) [] t s) E
  judges-move_pages lost hand p base a c f [] =
      let e : a + 0 * p ≡ a = omega (arith, zero-mul p) in
      rw e (judges-give tt)
  judges-move_pages lost hand p base a c f (b ∷ bs) {E} =
      judges_looked-at (λ u w. one u w (judges-move_pages lost hand p base (a + p) c f bs))
    where
      Filled : ℕ → List ℕ → Tables → Judge → Type 0
      Filled a bs t s = Moving lost hand p base a c f bs t × Agreeing run (within base (a - base)) [] t s

      one : (u : Tables) → Moving lost hand p base a c f (b ∷ bs) u → Judges (Filled (a + p) bs) (move_pages bs (a + p)) (λ _. Filled (a + p + length bs * p) []) E →
          Judges (λ t s. (t ≡ u) × Agreeing run (within base (a - base)) [] u s)
          (change_pages (without at b) >> (map_page a (handle_at b u.pages) >> move_pages bs (a + u.fields.page))) (λ _. Filled (a + length (b ∷ bs) * p) []) E
      one u w next =
          let e : a + suc (length bs) * p ≡ a + p + length bs * p = omega (arith, suc-mul (length bs) p) in
          rw e
          (judges_then (λ _ t s. (t ≡ unpaged b u) × Agrees run (within base (a - base)) (handle_at b u.pages ∷ []) u.live (unpaged b u) s)
          (judges-change _ (λ t s q. (ap (unpaged b) q.0, taken_out lost hand p base a c f b bs u w s q.1)))
          (λ _. judges_then (λ _. Filled (a + p) bs) (judges-map_page lost hand p base a c f b bs u w)
          (λ _. rw w.page next)))

  -- The pages of the zombies `zs` are moved to the range from `a` on, which is in hand.
  pub judges-moves : (lost hand : ℕ → ℕ) (p a c : ℕ) (f : List FreeRegion) (zs : List Zombie) → c ≤ SPANS →
      Judges (λ t s. Movable lost hand p a c f zs t × Agreeing run none [] t s) (move_pages (pages_in p zs) a)
      (λ _ t s. Moved lost hand p a (sum (λ z. z.size) zs) c f t × Agreeing run (within a (sum (λ z. z.size) zs)) [] t s) (Ends run lost)
  judges-moves lost hand p a c f zs bound =
      judges-and (moves-pages lost hand p a c f zs bound)
      (judges-from (λ t s q. (q.0.ranges, (moving-first lost hand p a c f zs t q.0, agrees_as (within a (a - a)) q.1 (λ x _. sym (at_first x)))))
      (judges_given (λ ranges.
      let moved : a + length (pages_in p zs) * p - a ≡ sum (λ z. z.size) zs = omega (arith, length_starts_of (λ z. z.start.0) (λ z. z.size) p zs ranges) in
      judges_to (λ _ t s q. rw moved at q.1) (judges-move_pages lost hand p a a c f (pages_in p zs)))))
    where
      at_first : (x : ℕ) → within a (a - a) x ≡ 0
      at_first x = let e : a - a ≡ 0 = omega arith in rw e (within_none a x)
