-- What insert free merges: where no address is covered twice, at most one region ends where a range starts and at most one starts where it ends, so
-- the merged region covers what they and the range covered.
use mathlib.Core.Path.{◌≡◌, refl, ap}
use mathlib.Core.Logic.{◌⊎◌, inl, inr, ⊎_elim}
use mathlib.Core.Bool.{Bool, true, false, ◌&&◌, ◌||◌}
use mathlib.Core.List.{List, [], ◌∷◌}
use Prim.Native.Nat.{ℕ, ◌+◌, ◌≤◌, ◌<◌, min}
use native.Mathlib.Omega.{arith}
use borrow.Author.Tests.{eqb-true, eq-eqb}
use lib.Dec.{eqb}
use Rattle.lists.specs.Tests.{All}
use Rattle.lists.specs.Order.{Rises}
use Rattle.lists.proofs.Tests.{both, either}
use Rattle.tables.specs.InsertFree.{from, upto, bytes, merges}
use Rattle.tables.specs.declared.FreeRegion.{FreeRegion}
use Rattle.keeping.specs.Cover.{within, cover_free}
use Rattle.keeping.specs.Sound.{WholeRange}
use Rattle.keeping.proofs.Cover.{within_join, within_in}
use Rattle.keeping.proofs.Whole.{least_of}

-- `q` starts where the range ends, or ends where it starts
abbrev pub Touches : ℕ → ℕ → FreeRegion → Type 0
Touches a n q = (from q ≡ a + n) ⊎ (upto q ≡ a)

pub merges_touches : (a n s : ℕ) (q : FreeRegion) → merges a n s q ≡ true → Touches a n q
merges_touches a n s q e =
    ⊎_elim (λ h. inl (eqb-true (from q) (a + n) h)) (λ h. inr (eqb-true (upto q) a h))
    (either (eqb (from q) (a + n)) (eqb (upto q) a) (both (eqb (from q) (a + n) || eqb (upto q) a) (eqb q.stream s) e).0)

pub merges_previous : (a n s : ℕ) (q : FreeRegion) → q.stream ≡ s → upto q ≡ a → merges a n s q ≡ true
merges_previous a n s q e h = rw (eq-eqb (upto q) a h, eq-eqb q.stream s e) (go (eqb (from q) (a + n)))
  where
    go : (b : Bool) → ((b || true) && true) ≡ true
    go true = refl
    go false = refl

-- the regions that touch a range: none, the next, the previous, or both
pub data Beside (a n : ℕ) : List FreeRegion → Type 0 where
  alone : Beside a n []
  next : {q : FreeRegion} → from q ≡ a + n → Beside a n (q ∷ [])
  previous : {q : FreeRegion} → upto q ≡ a → Beside a n (q ∷ [])
  between : {p q : FreeRegion} → upto p ≡ a → from q ≡ a + n → Beside a n (p ∷ q ∷ [])

module _ (a n : ℕ) where
  -- of two that touch a range, in order and with no address in common, the first ends where it starts and the second starts where it ends
  around : (q k : FreeRegion) → from q < from k → 0 < k.size → ((x : ℕ) → within (from q) q.size x + within (from k) k.size x ≤ 1) →
      Touches a n q → Touches a n k → (upto q ≡ a) × (from k ≡ a + n)
  around q k h pos c (inl e) (inl f) = absurd (omega arith)
  around q k h pos c (inl e) (inr f) = absurd (omega arith)
  around q k h pos c (inr e) (inl f) = (e, f)
  around q k h pos c (inr e) (inr f) =
      let x = from k in
      absurd (omega (arith, c x, within_in (from q) q.size x (omega arith) (omega arith), within_in x k.size x (omega arith) (omega arith)))

  pub beside : (p b : ℕ) (l : List FreeRegion) → 0 < n → Rises from b l → All (λ q. WholeRange p q.start.0 q.size) l →
      ((x : ℕ) → cover_free l x ≤ 1) → All (Touches a n) l → Beside a n l
  beside p b [] pos r w c t = alone
  beside p b (q ∷ []) pos r w c t = ⊎_elim (λ e. next e) (λ e. previous e) t.0
  beside p b (q ∷ k ∷ []) pos r w c t =
      let e = around q k r.1.0 w.1.0.size.positive (λ x. omega (arith, c x)) t.0 t.1.0 in
      between e.0 e.1
  beside p b (q ∷ k ∷ m ∷ l) pos r w c t =
      let e = around q k r.1.0 w.1.0.size.positive (λ x. omega (arith, c x)) t.0 t.1.0 in
      let f = around k m r.1.1.0 w.1.1.0.size.positive (λ x. omega (arith, c x)) t.1.0 t.1.1.0 in
      absurd (omega (arith, e.1, f.0))

  -- the merged region covers what its parts cover
  pub cover-merged : (l : List FreeRegion) → Beside a n l → (x : ℕ) → within (least_of a l) (n + bytes l) x ≡ within a n x + cover_free l x
  cover-merged [] alone x = let e : n + 0 ≡ n = omega arith in rw e (omega arith)
  cover-merged (q ∷ []) (next h) x =
      let d : min (from q) a ≡ a = omega arith in
      let e : n + (q.size + 0) ≡ n + q.size = omega arith in
      rw (d, e) (omega (arith, within_join a n q.size x, ap (λ v. within v q.size x) h))
  cover-merged (q ∷ []) (previous h) x =
      let d : min (from q) a ≡ from q = omega arith in
      let e : n + (q.size + 0) ≡ q.size + n = omega arith in
      rw (d, e) (omega (arith, within_join (from q) q.size n x, ap (λ v. within v n x) h))
  cover-merged (q ∷ k ∷ []) (between h g) x =
      let d : min (from q) (min (from k) a) ≡ from q = omega arith in
      let e : n + (q.size + (k.size + 0)) ≡ q.size + (n + k.size) = omega arith in
      rw (d, e)
      (omega (
        arith,
        within_join (from q) q.size (n + k.size) x,
        ap (λ v. within v (n + k.size) x) h,
        within_join a n k.size x,
        ap (λ v. within v k.size x) g,
      ))
  cover-merged (q ∷ (k ∷ (_ ∷ _))) x11 x = elim x11 [ ]

  -- the merged region ends with the range, where none is next
  pub ends-merged : (l : List FreeRegion) → Beside a n l → All (λ q. from q ≡ a + n → ⊥) l → least_of a l + (n + bytes l) ≡ a + n
  ends-merged [] alone w = omega arith
  ends-merged (q ∷ []) (next h) w = absurd (w.0 h)
  ends-merged (q ∷ []) (previous h) w = omega arith
  ends-merged (q ∷ k ∷ []) (between h g) w = absurd (w.1.0 g)
  ends-merged (q ∷ (k ∷ (_ ∷ _))) x8 w = elim x8 [ ]
