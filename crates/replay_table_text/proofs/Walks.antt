-- A loop that puts the text of each element of a list, whatever its elements are and their text is: after `i` turns the text of the first `i` stands in the buffer.
-- Each takes at most `most` places.
use mathlib.Core.Path.{◌≡◌, refl, sym, ap, ◌∙◌}
use mathlib.Core.Bool.{Bool, true, false}
use mathlib.Core.List.{List, [], ◌∷◌, ◌++◌, append-nil}
use Prim.Native.Nat.{ℕ, ◌+◌, ◌*◌, ◌≤◌, ◌<◌, min}
use native.Mathlib.Omega.{arith}
use native.Mathlib.Nat.{mul-add, mul-le-mul_left}
use native.Mathlib.Numerals.{add-one}
use borrow.Author.Tests.{ltb-true, ltb-false}
use lib.Dec.{ltb}
use lib.ListN.{length, take, get_or}
use lib.Seq.{take-suc, take_all, length-take-le}
use Rattle.lists.specs.Walks.{joined}
use Rattle.lists.proofs.Walks.{joined-append}
use Rattle.trace.specs.Put.{Put}
use Rattle.trace.proofs.Put.{put-none, put_then, put_as, put-length}
use Rattle.replay_table_text.specs.Puts.{Puts}

-- bytes after bytes
pub puts_then : {a b : ℕ} {l m o : List ℕ} {at r s : ℕ} {xs ys : List ℕ} → Puts a l m at r xs → Puts b m o r s ys → Puts (a + b) l o at s (xs ++ ys)
puts_then p q = record { puts = put_then p.puts q.puts; next = omega (arith, p.next, q.next) }

-- the same bytes in another way, of which more are allowed
pub puts_as : {a b : ℕ} {l m : List ℕ} {at r : ℕ} {xs ys : List ℕ} → xs ≡ ys → a ≤ b → Puts a l m at r xs → Puts b l m at r ys
puts_as e h p = record { puts = put_as e p.puts; next = omega (arith, p.next) }

-- a count that is not trusted
take_min : {A : Type 0} (count : ℕ) (l : List A) → take (min count (length l)) l ≡ take count l
take_min count l = go (ltb count (length l)) refl
  where
    go : (b : Bool) → ltb count (length l) ≡ b → take (min count (length l)) l ≡ take count l
    go true e =
        let h : count < length l = ltb-true count (length l) e in
        let m : min count (length l) ≡ count = omega arith in
        rw m
    go false e =
        let h : length l ≤ count = ltb-false count (length l) e in
        let m : min count (length l) ≡ length l = omega arith in
        rw m (take_all (length l) l (omega arith) ∙ sym (take_all count l h))

module _ {A : Type 0} (line : A → List ℕ) where
  joined-next : (l : List A) (i : ℕ) (d : A) → i < length l → joined line (take i l) ++ line (get_or l i d) ≡ joined line (take (i + 1) l)
  joined-next l i d h =
      sym
      (ap (λ (k : ℕ). joined line (take k l)) (add-one i)
      ∙ ap (joined line) (take-suc l i d h)
      ∙ joined-append line (take i l) (get_or l i d ∷ [])
      ∙ ap (λ (t : List ℕ). joined line (take i l) ++ t) (append-nil (line (get_or l i d))))

-- of cells those that are shown, where a count is not trusted
pub shown-is : {A : Type 0} (line : A → List ℕ) (count n : ℕ) (cells : List A) → n ≡ min count (length cells) → joined line (take n cells) ≡ joined line (take count cells)
shown-is line count n cells e = ap (λ (k : ℕ). joined line (take k cells)) e ∙ ap (joined line) (take_min count cells)

pub shown-most : {A : Type 0} (most n : ℕ) (cells : List A) → n ≤ length cells → most * length (take n cells) ≤ most * length cells
shown-most most n cells h = rw length-take-le (mul-le-mul_left most h)

-- The invariant of a loop over `l`: `out` is what `out₀` has become after `i` turns, and `next` the place after what is put.
pub record Sofar {A : Type 0} (line : A → List ℕ) (most : ℕ) (l : List A) (out₀ : List ℕ) (at : ℕ) (out : List ℕ) (i next : ℕ) : Type 0 where
  pub puts : Put out₀ out at next (joined line (take i l))
  pub below : next ≤ at + most * i
  pub within : i ≤ length l

pub none_yet : {A : Type 0} (line : A → List ℕ) (most : ℕ) (l : List A) (out : List ℕ) (at : ℕ) → at ≤ length out → Sofar line most l out at out 0 at
none_yet line most l out at h = record { puts = put-none out at at h refl; below = omega arith; within = omega arith }

module _ {A : Type 0} {line : A → List ℕ} {most : ℕ} {l : List A} {out₀ : List ℕ} {at : ℕ} {out : List ℕ} {i next : ℕ} (s : Sofar line most l out₀ at out i next) where
  -- a turn has its places
  pub room : i < length l → at + most * length l ≤ length out₀ → next + most ≤ length out
  room h g =
      let k : i + 1 ≤ length l = omega arith in
      omega (arith, s.below, put-length s.puts, mul-le-mul_left most k, mul-add most i 1)

  pub one_more : {out' : List ℕ} {next' : ℕ} (x d : A) → i < length l → x ≡ get_or l i d → Puts most out out' next next' (line x)
      → Sofar line most l out₀ at out' (i + 1) next'
  one_more x d h e p =
      record {
        puts = put_as (ap (λ (y : A). joined line (take i l) ++ line y) e ∙ joined-next line l i d h) (put_then s.puts p.puts);
        below = omega (arith, s.below, p.next, mul-add most i 1);
        within = omega arith;
      }

  pub all-put : length l ≤ i → Puts (most * length l) out₀ out at next (joined line l)
  all-put h =
      let e : i ≡ length l = omega (arith, s.within) in
      record {
        puts = put_as (ap (joined line) (take_all i l h)) s.puts;
        next = rw e at s.below;
      }
