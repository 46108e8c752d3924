-- What the relation says to the judge's rules: ids below the counter are not above the last one recorded; a range whose every page is mapped is one of whole
-- mapped pages; a range that no live buffer covers is clear of them; a page inside the roots is in a reservation.
use mathlib.Core.Path.{◌≡◌, refl, ap, sym, ◌∙◌}
use mathlib.Core.Logic.{◌⊎◌, inl, inr, ⊎_elim}
use mathlib.Core.Bool.{Bool, true, false, ◌&&◌, ◌||◌}
use mathlib.Core.List.{List, [], ◌∷◌}
use mathlib.Core.Option.{some}
use Prim.Native.Nat.{ℕ, zero, suc, ◌+◌, ◌-◌, ◌*◌, ◌≤◌, ◌<◌, ◌/◌, ◌%◌, min, max}
use native.Mathlib.Omega.{arith}
use native.Mathlib.Nat.{mod-eq_of_lt}
use borrow.Author.Tests.{le-leb, lt-ltb, eq-eqb, ne_eqb}
use lib.Dec.{leb, eqb}
use Rattle.lists.specs.Tests.{All, Member}
use Rattle.lists.proofs.Tests.{cases_eq, cases_lt, all_implies, all_both}
use Rattle.lists.proofs.Every.{and-true, all-every}
use Rattle.lists.proofs.Members.{member-sum, member-all}
use Rattle.words.specs.declared.Address.{Address}
use Rattle.tables.specs.Values.{Tables}
use Rattle.tables.specs.declared.LiveBuffer.{LiveBuffer}
use Rattle.keeping.specs.Cover.{within, equal, cover_live, cover_roots}
use Rattle.keeping.specs.Sound.{WholeRange}
use Rattle.keeping.proofs.Cover.{within_out, equal-same, equal-positive}
use Rattle.keeping.proofs.Whole.{aligned-add, aligned_sub, aligned-pages, aligned_next}
use Rattle.keeping.proofs.Counting.{once-clear}
use Rattle.judge_rules.specs.Ranges.{clear, pages_from, pages}
use Rattle.judge_rules.specs.Rules.{Reservation, Page, Live, Judge, is_in, is_mapped, whole_pages, none_live, in_reservation, not_above, rises, R9_recorded, R9_asked}
use Rattle.judge_rules.specs.Verdict.{ended}
use Rattle.judge_rules.specs.declared.Run.{Run}
use Rattle.agreement.specs.Agrees.{SameBy, reservation, buffer, mapped_at, held_at, last_below, Inside, Serving, Agrees}
use Rattle.agreement.proofs.Same.{same-every, same-any, any-member}
use Rattle.agreement.proofs.Words.{seen}

-- Ids.
below_last : (c id : ℕ) → id < c → not_above (last_below c) id ≡ true
below_last zero id h = absurd (omega arith)
below_last (suc c) id h = le-leb id c (omega arith)

past-last : (c : ℕ) → rises (last_below c) c ≡ true
past-last zero = refl
past-last (suc c) = lt-ltb c (suc c) (omega arith)

pub last-next : (c : ℕ) → last_below (c + 1) ≡ some c
last-next c = let e : c + 1 ≡ suc c = omega arith in rw e

-- an address that a range covers is in it
within-is : (a n x : ℕ) → 0 < within a n x → (a ≤ x) × (x < a + n)
within-is a n x h =
    ⊎_elim
    (λ (p : x < a). absurd (omega (arith, within_out a n x (inl p))))
    (λ (p : a ≤ x). ⊎_elim (λ (q : x < a + n). (p, q)) (λ (q : a + n ≤ x). absurd (omega (arith, within_out a n x (inr q)))) (cases_lt x (a + n)))
    (cases_lt x a)

-- A count of mapped pages or of held handles, as the judge's tests have it.
pub mapped-some : (m : List Page) (x : ℕ) → 0 < mapped_at m x → is_mapped m x ≡ true
mapped-some m x h =
    let r = member-sum (λ (g : Page). equal g.at x) m h in
    any-member (λ (g : Page). eqb g.at x) r.0 m r.1.0 (eq-eqb r.0.at x (equal-positive r.0.at x r.1.1))

pub mapped-none : (m : List Page) (x : ℕ) → mapped_at m x ≡ 0 → is_mapped m x ≡ false
mapped-none [] x e = refl
mapped-none (g ∷ m) x e =
    ⊎_elim
    (λ (q : g.at ≡ x). absurd (let z : equal g.at x ≡ 1 = rw q (equal-same x) in omega arith))
    (λ (q : g.at ≡ x → ⊥). rw (ne_eqb g.at x q, mapped-none m x (omega arith)))
    (cases_eq g.at x)

pub held-some : (l : List ℕ) (h : ℕ) → 0 < held_at l h → is_in h l ≡ true
held-some l h p =
    let r = member-sum (λ k. equal k h) l p in
    any-member (λ k. eqb k h) r.0 l r.1.0 (eq-eqb r.0 h (equal-positive r.0 h r.1.1))

pub held_none : (l : List ℕ) (h : ℕ) → held_at l h ≡ 0 → is_in h l ≡ false
held_none [] h e = refl
held_none (k ∷ l) h e =
    ⊎_elim
    (λ (q : k ≡ h). absurd (let z : equal k h ≡ 1 = rw q (equal-same h) in omega arith))
    (λ (q : k ≡ h → ⊥). rw (ne_eqb k h q, held_none l h (omega arith)))
    (cases_eq k h)

-- The pages of a range are its aligned addresses.
pages-aligned : (p a k : ℕ) → a % p ≡ 0 → All (λ x. (x % p ≡ 0) × ((a ≤ x) × (x + p ≤ a + k * p))) (pages_from p a k)
pages-aligned p a zero e = tt
pages-aligned p a (suc k) e = (
  (e, (omega arith, omega (arith, mul k))),
  all_implies _ _ (λ x h. (h.0, (omega (arith, h.1.0), omega (arith, h.1.1, mul k)))) (pages_from p (a + p) k) (pages-aligned p (a + p) k (aligned_next p a e)),
)
  where
    mul : (j : ℕ) → suc j * p ≡ p + j * p
    mul j = omega arith

-- One or more whole mapped pages: each page of the range is mapped.
pub whole-mapped : (p a n : ℕ) (m : List Page) → 0 < p → WholeRange p a n → ((x : ℕ) → x % p ≡ 0 → a ≤ x → x < a + n → 0 < mapped_at m x) →
    whole_pages p m a n ≡ true
unfolding whole_pages pages
whole-mapped p a n m pos w h =
    let zero : n ≡ 0 → ⊥ = λ e. omega (arith, w.size.positive) in
    let each : All (λ x. is_mapped m x ≡ true) (pages_from p a (n / p)) =
    all_implies _ _ (λ x q. mapped-some m x (h x q.0 q.1.0 (omega (arith, q.1.1, aligned-pages p n w.size.aligned))))
    (pages_from p a (n / p)) (pages-aligned p a (n / p) w.start.aligned) in
    rw (ne_eqb n 0 zero, eq-eqb (n % p) 0 w.size.aligned, eq-eqb (a % p) 0 w.start.aligned) (all-every (is_mapped m) (λ x. is_mapped m x ≡ true) (λ x e. e) (pages_from p a (n / p)) each)

-- None live: no live buffer covers an address of the range.
clear_of_lem : (a n b m : ℕ) → 0 < n → 0 < m → min (a + n) (b + m) ≤ max a b → clear a n b m ≡ true
clear_of_lem a n b m p q h =
    ⊎_elim
    (λ (e : a + n ≤ b). rw (le-leb (a + n) b e))
    (λ (e : b < a + n). or_right (leb (a + n) b) (le-leb (b + m) a (omega arith)))
    (cases_le (a + n) b)
  where
    cases_le : (x y : ℕ) → (x ≤ y) ⊎ (y < x)
    cases_le x y = ⊎_elim (λ e. inr e) (λ e. inl e) (cases_lt y x)

    or_right : (x : Bool) {y : Bool} → y ≡ true → (x || y) ≡ true
    or_right true e = refl
    or_right false e = e

pub none-live : (p a n : ℕ) (l : List Live) (bs : List LiveBuffer) → SameBy buffer l bs → 0 < n → All (λ b. WholeRange p b.start.0 b.size) bs →
    ((x : ℕ) → within a n x + cover_live bs x ≤ 1) → none_live l a n ≡ true
unfolding none_live
none-live p a n l bs same pos whole h =
    same-every same (λ b. clear a n b.start b.size)
    (all-every (λ b. clear a n b.start.0 b.size) _ (λ b q. clear_of_lem a n b.start.0 b.size pos q.0 q.1) bs
    (all_both (λ b. 0 < b.size) _ bs (all_implies _ _ (λ b w. w.size.positive) bs whole) (once-clear (λ b. b.start.0) (λ b. b.size) a n bs h)))

-- multiples are a page apart
pub aligned-below : (p y x : ℕ) → y % p ≡ 0 → x % p ≡ 0 → x < y → x + p ≤ y
aligned-below p y x e f h =
    ⊎_elim
    (λ (q : y < x + p). absurd (let d : y - x ≡ 0 = sym (mod-eq_of_lt (omega arith)) ∙ aligned_sub p y x (omega arith) e f in omega arith))
    (λ (q : x + p ≤ y). q)
    (cases_lt y (x + p))

-- A page inside the roots is in a reservation.
root_over : (va x : ℕ) (l : List Address) → 0 < cover_roots va l x → (a : Address) × (Member a l × ((a.0 ≤ x) × (x < a.0 + va)))
root_over va x l h =
    let r = member-sum (λ (a : Address). within a.0 va x) l h in
    (r.0, (r.1.0, within-is r.0.0 va x r.1.1))

pub in-reservation : (p va x : ℕ) (l : List Reservation) (roots : List Address) → SameBy (reservation va) l roots → 0 < p → x % p ≡ 0 → va % p ≡ 0 →
    All (λ a. a.0 % p ≡ 0) roots → 0 < cover_roots va roots x → in_reservation p l x ≡ true
unfolding in_reservation
in-reservation p va x l roots same pos e v whole h =
    let r = root_over va x roots h in
    let a = r.0.0 in
    let far : x + p ≤ a + va = aligned-below p (a + va) x (aligned-add p a va (member-all _ r.0 roots r.1.0 whole) v) e r.1.1.1 in
    rw (eq-eqb (x % p) 0 e)
    (same-any same (λ q. leb q.base x && leb (x + p) (q.base + q.size))
    (any-member (λ (b : Address). leb b.0 x && leb (x + p) (b.0 + va)) r.0 roots r.1.0 (and-true (leb a x) (leb (x + p) (a + va)) (le-leb a x r.1.1.0) (le-leb (x + p) (a + va) far))))

-- The same, of a pool and a judge that agree.
module _ {run : Run} {new : ℕ → ℕ} {spare : List ℕ} {live : List LiveBuffer} {t : Tables} {s : Judge} (serving : Serving run) (g : Agrees run new spare live t s) where
  pub agrees-inside : Inside s.run
  agrees-inside = rw g.runs serving.inside

  pub agrees-seen : seen s ≡ s
  agrees-seen = ap (λ (r : Run). ended r.asked.call s) g.runs ∙ serving.keeps s

  pub agrees-asked : (id : ℕ) → id < t.fields.counter → Inside s.run × ((seen s ≡ s) × (R9_asked s id ≡ true))
  unfolding R9_asked
  agrees-asked id h = (agrees-inside, (agrees-seen, rw g.last (below_last t.fields.counter id h)))

  pub agrees-recorded : R9_recorded s t.fields.counter ≡ true
  unfolding R9_recorded
  agrees-recorded = rw g.last (past-last t.fields.counter)
