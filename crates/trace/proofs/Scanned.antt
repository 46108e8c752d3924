-- One line of a chunk at a time: what `reached` says of the input, whatever may follow the chunk.
use mathlib.Core.Path.{◌≡◌, refl, sym, ap, ◌∙◌}
use mathlib.Core.Bool.{true, false, true≢false, false≢true}
use mathlib.Core.List.{List, [], ◌∷◌, ◌++◌}
use Prim.Native.Nat.{ℕ, suc, ◌+◌, ◌-◌, ◌≤◌, ◌<◌}
use native.Mathlib.Omega.{arith}
use lib.Dec.{eqb}
use lib.ListN.{length, drop, length-drop}
use lib.Seq.{drop-drop}
use Rattle.trace.specs.Machine.{fresh, after, line_at}
use Rattle.trace.specs.Chunks.{lines_from, reached}
use Rattle.trace.specs.declared.Partial.{Partial}
use Rattle.trace.specs.declared.Reach.{Reach}
use Rattle.trace.proofs.Cases.{by-test}

record Over (r : Reach) (l : List ℕ) (at : ℕ) (p : Partial) : Type 0 where
  count : ℕ
  place : r.at ≡ at + count
  fits : count ≤ length l
  some : 0 < length l → 0 < count
  all : r.ended ≡ false → count ≡ length l
  ended : r.ended ≡ true → (m : List ℕ) → lines_from p (l ++ m) ≡ line_at r.partial ∷ lines_from fresh (drop count l ++ m)
  going : r.ended ≡ false → (m : List ℕ) → lines_from p (l ++ m) ≡ lines_from r.partial (drop count l ++ m)

over : (at : ℕ) (p : Partial) (l : List ℕ) → Over (reached at p l) l at p
over at p [] = record { count = 0; place = omega arith; fits = omega arith; some = omega arith; all = λ e. refl; ended = λ e m. absurd (false≢true e); going = λ e m. refl }
over at p (b ∷ l) =
    by-test (λ r. Over r (b ∷ l) at p) (eqb b 10)
    (λ t.
    record {
      count = 1;
      place = refl;
      fits = omega arith;
      some = omega arith;
      all = λ e. absurd (true≢false e);
      ended = λ e m. simp t;
      going = λ e m. absurd (true≢false e);
    })
    (λ t.
    let ih = over (at + 1) (after p b) l in
    record {
      count = suc ih.count;
      place = omega (arith, ih.place);
      fits = omega (arith, ih.fits);
      some = omega arith;
      all = λ e. omega (arith, ih.all e);
      ended = λ e m. simp t (ih.ended e m);
      going = λ e m. simp t (ih.going e m);
    })

-- what the rest of a chunk says, whatever may follow it: the line that ends here and what stands behind it, or no line yet, and the whole chunk is read
pub record Scanned (r : Reach) (chunk : List ℕ) (at : ℕ) (p : Partial) : Type 0 where
  pub from : at ≤ r.at
  pub within : r.at ≤ length chunk
  pub moved : at < length chunk → at < r.at
  pub all : r.ended ≡ false → r.at ≡ length chunk
  pub ended : r.ended ≡ true → (m : List ℕ) → lines_from p (drop at chunk ++ m) ≡ line_at r.partial ∷ lines_from fresh (drop r.at chunk ++ m)
  pub going : r.ended ≡ false → (m : List ℕ) → lines_from p (drop at chunk ++ m) ≡ lines_from r.partial (drop r.at chunk ++ m)

pub scanned : (chunk : List ℕ) (at : ℕ) (p : Partial) → at ≤ length chunk → Scanned (reached at p (drop at chunk)) chunk at p
scanned chunk at p h =
    let o = over at p (drop at chunk) in
    let n : length (drop at chunk) ≡ length chunk - at = length-drop at chunk in
    let e : drop o.count (drop at chunk) ≡ drop (reached at p (drop at chunk)).at chunk = drop-drop o.count at chunk ∙ ap (λ (k : ℕ). drop k chunk) (sym o.place) in
    record {
      from = omega (arith, o.place);
      within = omega (arith, o.place, o.fits);
      moved = λ g. omega (arith, o.place, o.some (omega arith));
      all = λ t. omega (arith, o.place, o.all t);
      ended = λ t m. o.ended t m ∙ ap (λ (l : List ℕ). line_at (reached at p (drop at chunk)).partial ∷ lines_from fresh (l ++ m)) e;
      going = λ t m. o.going t m ∙ ap (λ (l : List ℕ). lines_from (reached at p (drop at chunk)).partial (l ++ m)) e;
    }

-- the same of what `Partial::scan` gives
pub scanned_as : {r : Reach} {chunk : List ℕ} {at : ℕ} {p : Partial} → r ≡ reached at p (drop at chunk) → at ≤ length chunk → Scanned r chunk at p
scanned_as {r} {chunk} {at} {p} e h = rw e (scanned chunk at p h)
