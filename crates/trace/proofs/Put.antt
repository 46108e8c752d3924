-- Bytes put into a buffer, one run after the other: each is a run of `sets`, and these join.
use mathlib.Core.Path.{◌≡◌, sym, ap, ◌∙◌}
use mathlib.Core.List.{List, [], ◌∷◌, ◌++◌, append_assoc}
use Prim.Native.Nat.{ℕ, suc, ◌+◌, ◌-◌, ◌≤◌, ◌<◌}
use native.Mathlib.Omega.{arith}
use lib.ListN.{length, take, drop, set, length-append}
use lib.Seq.{sets, sets-eq, length-sets, length-take-le, take_at}
use borrow.Rule.Slice.PartMut.{put_mid, Post-is}
use Rattle.trace.specs.Form.{decimal, row, text}
use Rattle.trace.specs.Put.{placed, Put}

sets-append : (l : List ℕ) (i : ℕ) (xs ys : List ℕ) → sets (sets l i xs) (i + length xs) ys ≡ sets l i (xs ++ ys)
sets-append l i [] ys = let e : i + 0 ≡ i = omega arith in rw e
sets-append l i (x ∷ xs) ys = let e : i + suc (length xs) ≡ suc i + length xs = omega arith in rw e (sets-append (set l i x) (suc i) xs ys)

placed-sets : (l : List ℕ) (at : ℕ) (bs : List ℕ) → at + length bs ≤ length l → placed l at bs ≡ sets l at bs
unfolding placed
placed-sets l at bs h = sym (sets-eq bs l at h)

module _ {l m : List ℕ} {at r : ℕ} {bs : List ℕ} where
  put-sets : Put l m at r bs → m ≡ sets l at bs
  put-sets p = p.cells ∙ placed-sets l at bs p.fits

  -- the buffer keeps its length
  pub put-length : Put l m at r bs → length m ≡ length l
  put-length p = ap length (put-sets p) ∙ length-sets l at bs

  -- what stands before the next place
  pub put_front : Put l m at r bs → take r m ≡ take at l ++ bs
  unfolding placed
  put_front p =
      let n : length (take at l ++ bs) ≡ r = length-append (take at l) bs ∙ omega (arith, length-take-le at l (omega (arith, p.fits)), p.next) in
      ap (take r) p.cells ∙ take_at (take at l ++ bs) (drop (at + length bs) l) r n

  -- the same bytes in another way
  pub put_as : {cs : List ℕ} → bs ≡ cs → Put l m at r bs → Put l m at r cs
  put_as e p = rw e at p

pub put-none : (l : List ℕ) (at r : ℕ) → at ≤ length l → r ≡ at → Put l l at r []
put-none l at r h e = record { fits = omega arith; next = omega arith; cells = sym (placed-sets l at [] (omega arith)) }

pub put_one : (l : List ℕ) (at b : ℕ) → at < length l → Put l (set l at b) at (at + 1) (b ∷ [])
put_one l at b h = record { fits = omega arith; next = omega arith; cells = sym (placed-sets l at (b ∷ []) (omega arith)) }

-- bytes after bytes
pub put_then : {l m o : List ℕ} {at r s : ℕ} {xs ys : List ℕ} → Put l m at r xs → Put m o r s ys → Put l o at s (xs ++ ys)
put_then {l} {m} {o} {at} {r} {s} {xs} {ys} p q =
    let n : length m ≡ length l = put-length p in
    let u : length (xs ++ ys) ≡ length xs + length ys = length-append xs ys in
    record {
      fits = omega arith;
      next = omega arith;
      cells =
          put-sets q
          ∙ ap (λ (i : ℕ). sets m i ys) p.next
          ∙ ap (λ (x : List ℕ). sets x (at + length xs) ys) (put-sets p)
          ∙ sets-append l at xs ys
          ∙ sym (placed-sets l at (xs ++ ys) (omega arith));
    }

-- a run of cells that is written over as a whole
pub put-range : (l : List ℕ) (at : ℕ) (bs : List ℕ) → at + length bs ≤ length l → Put l (put_mid at (at + length bs - at) l bs) at (at + length bs) bs
unfolding placed
put-range l at bs h =
    record {
      fits = h;
      next = omega arith;
      cells = ap (λ (x : List ℕ). take at l ++ (bs ++ x)) (Post-is at (at + length bs) l (omega arith)) ∙ sym (append_assoc (take at l) bs (drop (at + length bs) l));
    }

-- the parts of a line
pub put-row : {l m₁ m₂ m₃ m₄ m₅ : List ℕ} {at p q r s t : ℕ} (w : List ℕ) (a b c : ℕ)
    → Put l m₁ at p w → Put m₁ m₂ p q (9 ∷ decimal a) → Put m₂ m₃ q r (9 ∷ decimal b) → Put m₃ m₄ r s (9 ∷ decimal c)
    → Put m₄ m₅ s t (10 ∷ [])
    → Put l m₅ at t (text w a b c)
unfolding row text
put-row w a b c f₁ f₂ f₃ f₄ f₅ = put_as (simp append_assoc) (put_then (put_then (put_then (put_then f₁ f₂) f₃) f₄) f₅)
