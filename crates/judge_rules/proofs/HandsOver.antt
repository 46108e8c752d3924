-- What R7 keeps: a buffer that is handed over has pages of its own, with handles of their own.
use mathlib.Core.Path.{◌≡◌, refl, ap, sym, ◌∙◌}
use mathlib.Core.Bool.{true, ◌&&◌, ◌||◌, not, false≢true}
use mathlib.Core.Logic.{⊎_elim}
use mathlib.Core.List.{List, [], ◌∷◌, map}
use mathlib.Core.Option.{Option, none, some}
use Prim.Native.Nat.{ℕ, ◌+◌, ◌≤◌, ◌<◌}
use native.Mathlib.Omega.{arith}
use borrow.Author.Tests.{eqb-true, eq-eqb}
use lib.Dec.{eqb}
use Rattle.lists.specs.Tests.{All, Member, every, any}
use Rattle.lists.proofs.Tests.{both, either}
use Rattle.judge_rules.specs.Ranges.{inside, clear, pages}
use Rattle.judge_rules.specs.Rules.{Reservation, is_mapped, aligned, whole_pages, none_live, in_buffers, alone, no_handle_twice, R7}
use Rattle.judge_rules.specs.SoFar.{Held, Mapped}
use Rattle.judge_rules.specs.Meaning.{Shown, shown_by, Buffer, there, handles, NoAddress, NoHandle}
use Rattle.judge_rules.specs.Exactly.{plain_page, plain}
use Rattle.judge_rules.specs.declared.Run.{Run}
use Rattle.judge_rules.proofs.PageLaws.{or-true, inside_is, is-inside, clear_apart, pages-in, pages-apart, is_some, some_is, some-not, gathered, there-some, every-same, lies_under, handles-distinct}
use Rattle.judge_rules.proofs.Shows.{shown-mapped, shown-passes}
use Rattle.judge_rules.proofs.Keeps.{Same, Firm, Upheld, seen}

-- the handle that is shown
abbrev handle_of : Option Shown → Option ℕ
handle_of none = none
handle_of (some s) = some s.handle

handles-of : (u : ℕ → Option Shown) (xs : List ℕ) → map (λ s. s.handle) (there (map u xs)) ≡ there (map (λ x. handle_of (u x)) xs)
handles-of u [] = refl
handles-of u (x ∷ xs) = go (u x) (handles-of u xs)
  where
    go : (o : Option Shown) → map (λ s. s.handle) (there (map u xs)) ≡ there (map (λ x. handle_of (u x)) xs) →
        map (λ s. s.handle) (there (o ∷ map u xs)) ≡ there (handle_of o ∷ map (λ x. handle_of (u x)) xs)
    go none r = r
    go (some s) r = ap (λ l. s.handle ∷ l) r

handle-is : (o : Option Shown) (k : ℕ) → handle_of o ≡ some k → (s : Shown) × ((o ≡ some s) × (s.handle ≡ k))
handle-is none k e = absurd (some-not k (sym e))
handle-is (some s) k e = (s, (refl, some_is s.handle k e))

-- its addresses are in no other buffer,
all-clear : (a n : ℕ) (new : Buffer) (bs : List Buffer) → new.start ≡ a → new.size ≡ n → every (λ b. clear a n b.start b.size) (map plain bs) ≡ true →
    All (NoAddress new) bs
all-clear a n new [] d f e = tt
all-clear a n new (b ∷ bs) d f e =
    let c = both (clear a n b.start b.size) (every (λ b. clear a n b.start b.size) (map plain bs)) e in
    (λ x h k. clear_apart a n b.start b.size x c.0 (omega (arith, h.0)) (omega (arith, h.1)) k.0 k.1, all-clear a n new bs d f c.1)

-- and so are its handles: `clash` tells that a page of it and a page of a buffer have no handle in common.
all_own : (p : ℕ) (u : ℕ → Option Shown) (new : Buffer) (ps : List ℕ) (P : ℕ → Type 0) → All P ps → new.shown ≡ there (map u ps) → (bs : List Buffer) →
    ((x y k : ℕ) → P x → handle_of (u x) ≡ some k → any (λ b. inside b.start b.size y) (map plain bs) ≡ true → handle_of (u y) ≡ some k → ⊥) →
    All (Same p u) bs → All (NoHandle new) bs
all_own p u new ps P a e [] clash k = tt
all_own p u new ps P a e (b ∷ bs) clash k =
    (λ j m n. none-common j (rw (e, handles-of u ps) at m) (rw hb at n), all_own p u new ps P a e bs (λ x y j i q t r. clash x y j i q (or-true (inside b.start b.size y) _ t) r) k.1)
  where
    qs : List ℕ
    qs = pages p b.start b.size

    hb : handles b ≡ there (map (λ x. handle_of (u x)) qs)
    hb = ap (map (λ s. s.handle)) (sym (there-some b.shown) ∙ ap there (sym k.0.same)) ∙ handles-of u qs

    none-common : (j : ℕ) → Member j (there (map (λ x. handle_of (u x)) ps)) → Member j (there (map (λ x. handle_of (u x)) qs)) → ⊥
    none-common j m n =
        lies_under (λ x. handle_of (u x)) P j ps a m
        (λ x i q.
        lies_under (λ x. handle_of (u x)) (λ y. (b.start ≤ y) × (y < b.start + b.size)) j qs (pages-in p b.start b.size) n
        (λ y r t. clash x y j i q (rw (is-inside b.start b.size y r.0 r.1)) t))

-- an address of the new buffer is in no live one
not_live : (a n x : ℕ) (bs : List Buffer) → every (λ b. clear a n b.start b.size) (map plain bs) ≡ true → a ≤ x → x < a + n →
    any (λ b. inside b.start b.size x) (map plain bs) ≡ true → ⊥
not_live a n x [] e p q t = false≢true t
not_live a n x (b ∷ bs) e p q t =
    let c = both (clear a n b.start b.size) (every (λ b. clear a n b.start b.size) (map plain bs)) e in
    ⊎_elim
    (λ i. let h = inside_is b.start b.size x i in clear_apart a n b.start b.size x c.0 p q h.0 h.1)
    (λ r. not_live a n x bs c.1 p q r)
    (either (inside b.start b.size x) _ t)

module _ (run : Run) (rs : List Reservation) (cs : List Held) (ms : List Mapped) (bs : List Buffer) (last : Option ℕ) (a n : ℕ) where
  abbrev u : ℕ → Option Shown
  u = shown_by cs ms

  abbrev ps : List ℕ
  ps = pages run.page a n

  abbrev new : Buffer
  new = record { start = a; size = n; stream = run.asked.second; shown = there (map u ps) }

  -- what R7's test of handles tells: pages in the buffers with one handle, of which one is in the new buffer, are one page
  one-page : (x y k : ℕ) → no_handle_twice (map plain_page ms) (map plain bs) a n ≡ true → a ≤ x → x < a + n → handle_of (u x) ≡ some k →
      in_buffers (map plain bs) a n y ≡ true → handle_of (u y) ≡ some k → x ≡ y
  unfolding no_handle_twice
  one-page x y k e p q f i g =
      let s = handle-is (u x) k f in
      let t = handle-is (u y) k g in
      let first = shown-passes (λ p. not (inside a n p.at) || alone (map plain_page ms) (map plain bs) a n p) cs ms x s.0 e s.1.0 in
      let lone : alone (map plain_page ms) (map plain bs) a n (record { at = x; handle = s.0.handle }) ≡ true = rw (is-inside a n x p q) at first in
      let second = shown-passes (λ q. eqb q.at x || not (eqb q.handle s.0.handle) || not (in_buffers (map plain bs) a n q.at)) cs ms y t.0 lone t.1.0 in
      let same : eqb t.0.handle s.0.handle ≡ true = eq-eqb t.0.handle s.0.handle (t.1.1 ∙ sym s.1.1) in
      ⊎_elim
      (λ h. ⊎_elim (λ w. sym (eqb-true y x w)) (λ w. absurd (false≢true (ap not (sym same) ∙ w))) (either (eqb y x) (not (eqb t.0.handle s.0.handle)) h))
      (λ h. absurd (false≢true (ap not (sym i) ∙ h)))
      (either (eqb y x || not (eqb t.0.handle s.0.handle)) (not (in_buffers (map plain bs) a n y)) second)

  pub keeps-handed : Upheld run.page rs cs ms bs → R7 (seen run rs cs ms bs last a n) a n ≡ true → Firm run.page u (new ∷ bs)
  unfolding R7 whole_pages none_live
  keeps-handed g r =
      let d = both (eqb n run.asked.first && whole_pages run.page (map plain_page ms) a n && none_live (map plain bs) a n) (no_handle_twice (map plain_page ms) (map plain bs) a n) r in
      let c = both (eqb n run.asked.first && whole_pages run.page (map plain_page ms) a n) (none_live (map plain bs) a n) d.0 in
      let w = both (eqb n run.asked.first) (whole_pages run.page (map plain_page ms) a n) c.0 in
      let v = both (not (eqb n 0) && aligned run.page n && aligned run.page a) _ w.1 in
      let al = both (not (eqb n 0) && aligned run.page n) (aligned run.page a) v.0 in
      let sz = both (not (eqb n 0)) (aligned run.page n) al.0 in
      let there-all = every-same (λ x. is_some (u x)) (is_mapped (map plain_page ms)) (shown-mapped cs ms g.owned) ps ∙ v.1 in
      record {
        apart = (all-clear a n new bs refl refl c.1, g.firm.apart);
        kept = (record { whole = (eqb-true _ _ al.1, eqb-true _ _ sz.1); same = gathered u ps there-all }, g.firm.kept);
        own = (all_own run.page u new ps (λ x. (a ≤ x) × (x < a + n)) (pages-in run.page a n) refl bs (clash d.1 c.1) g.firm.kept, g.firm.own);
        once = (rw (handles-of u ps) (handles-distinct (λ x. handle_of (u x)) (λ x. (a ≤ x) × (x < a + n)) (one d.1) ps (pages-apart run.page a n) (pages-in run.page a n)), g.firm.once);
      }
    where
      one : no_handle_twice (map plain_page ms) (map plain bs) a n ≡ true → (x y k : ℕ) → (a ≤ x) × (x < a + n) → (a ≤ y) × (y < a + n) →
          handle_of (u x) ≡ some k → handle_of (u y) ≡ some k → x ≡ y
      one e x y k p q f h = one-page x y k e p.0 p.1 f (rw (is-inside a n y q.0 q.1)) h

      clash : no_handle_twice (map plain_page ms) (map plain bs) a n ≡ true → every (λ b. clear a n b.start b.size) (map plain bs) ≡ true →
          (x y k : ℕ) → (a ≤ x) × (x < a + n) → handle_of (u x) ≡ some k → any (λ b. inside b.start b.size y) (map plain bs) ≡ true → handle_of (u y) ≡ some k → ⊥
      clash e free x y k p f t h =
          let i : in_buffers (map plain bs) a n y ≡ true = or-true (inside a n y) _ t in
          let q : x ≡ y = one-page x y k e p.0 p.1 f i h in
          not_live a n x bs free p.0 p.1 (rw q t)
