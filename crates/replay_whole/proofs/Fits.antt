-- Texts that fit and texts that don't. One that fits is put whole, and another goes behind it; with one that doesn't the buffer is full, and nothing behind it
-- matters.
use mathlib.Core.Path.{◌≡◌, refl, sym, ap, ◌∙◌}
use mathlib.Core.Bool.{Bool, true, false}
use mathlib.Core.List.{List, ◌++◌, append_assoc}
use Prim.Native.Nat.{ℕ, ◌+◌, ◌-◌, ◌<◌, ◌≤◌, min}
use native.Mathlib.Omega.{arith}
use borrow.Author.Tests.{eq-eqb, ne_eqb, le-leb, lt-leb, leb-true, leb-false}
use lib.Dec.{leb, eqb}
use lib.ListN.{length, take, drop, length-append, take-append-drop, length-drop}
use lib.Seq.{length-take-le, take_all, take-append-le}
use Rattle.trace.specs.Put.{placed, Put}
use Rattle.trace.proofs.Put.{put-length, put_then, put_as}
use Rattle.replay_rules.specs.Replay.{replayed}
use Rattle.replay_whole.specs.Promises.{Fits, Replays, Adds}
use Rattle.replay_whole.specs.declared.Replayed.{Replayed}

-- what is put from the start on, in the two ways of saying it
placed-front : (l text : List ℕ) (n : ℕ) → n ≡ length text → placed l 0 text ≡ take n text ++ drop n l
unfolding placed
placed-front l text n e =
    let a : take n text ≡ text = take_all n text (omega arith) in
    let b : 0 + length text ≡ n = omega arith in
    rw (a, b)

module _ {text l m : List ℕ} where
  -- what is put whole fits
  fits-put : {n : ℕ} → Put l m 0 n text → Fits text l m (record { written = n; whole = true })
  fits-put {n} p =
      record {
        whole = sym (le-leb (length text) (length l) (omega (arith, p.fits)));
        written = omega (arith, p.fits, p.next);
        bytes = p.cells ∙ placed-front l text n (omega (arith, p.next));
      }

  module _ {r : Replayed} (f : Fits text l m r) where
    -- the same text in another way
    pub fits_as : {other : List ℕ} → text ≡ other → Fits other l m r
    fits_as e = rw e at f

    -- what fits is put whole
    pub put-fits : r.whole ≡ true → Put l m 0 r.written text
    put-fits e =
        let h : length text ≤ length l = leb-true _ _ (sym f.whole ∙ e) in
        record {
          fits = omega arith;
          next = omega (arith, f.written);
          cells = f.bytes ∙ sym (placed-front l text r.written (omega (arith, f.written)));
        }

    -- what doesn't fit fits no better with more behind it
    pub fits_more : r.whole ≡ false → (more : List ℕ) → Fits (text ++ more) l m r
    fits_more e more =
        let h : length l < length text = leb-false _ _ (sym f.whole ∙ e) in
        let n : length (text ++ more) ≡ length text + length more = length-append text more in
        record {
          whole = e ∙ sym (lt-leb (length (text ++ more)) (length l) (omega arith));
          written = omega (arith, f.written);
          bytes = f.bytes ∙ ap (λ (x : List ℕ). x ++ drop r.written l) (sym (take-append-le r.written text more (omega (arith, f.written))));
        }

  -- put whole, up to the end, and something behind it
  fits_cut : {n : ℕ} → Put l m 0 n text → n ≡ length l → (more : List ℕ) → 0 < length more → Fits (text ++ more) l m (record { written = n; whole = false })
  fits_cut {n} p e more h =
      let k : length (text ++ more) ≡ length text + length more = length-append text more in
      record {
        whole = sym (lt-leb (length (text ++ more)) (length l) (omega (arith, p.next)));
        written = omega (arith, p.next);
        bytes = p.cells ∙ placed-front l text n (omega (arith, p.next)) ∙ ap (λ (x : List ℕ). x ++ drop n l) (sym (take-append-le n text more (omega (arith, p.next))));
      }

module _ {piece out out' : List ℕ} {at n : ℕ} where
  -- a piece that fits, and one that doesn't
  pub adds-whole : Put out out' at n piece → Adds piece at out out' (record { written = n; whole = true })
  adds-whole w = record { adds = λ text before p. fits-put (put_then p w) }

  pub adds_cut : (room : ℕ) → Put out out' at n (take room piece) → at + room ≡ length out → room < length piece
      → Adds piece at out out' (record { written = n; whole = false })
  adds_cut room w e h =
      record {
        adds = λ text before p.
            let q = put_then p w in
            let rest = drop room piece in
            let k : length (take room piece) ≡ room = length-take-le room piece (omega arith) in
            let full : n ≡ length before = omega (arith, w.next, put-length p) in
            let j : (text ++ take room piece) ++ rest ≡ text ++ piece = append_assoc text (take room piece) rest ∙ ap (λ (x : List ℕ). text ++ x) (take-append-drop room piece) in
            fits_as (fits_cut q full rest (omega (arith, length-drop room piece))) j;
      }

-- as much of a piece as fits
pub adds-fitting : {piece out out' : List ℕ} {at r : ℕ} (n : ℕ) → n ≡ min (length piece) (length out - at) → at ≤ length out → Put out out' at r (take n piece)
    → Adds piece at out out' (record { written = r; whole = eqb n (length piece) })
adds-fitting {piece} {out} {out'} {at} {r} n e h p = go (leb (length piece) (length out - at)) refl
  where
    go : (b : Bool) → leb (length piece) (length out - at) ≡ b → Adds piece at out out' (record { written = r; whole = eqb n (length piece) })
    go true b =
        let k : length piece ≤ length out - at = leb-true _ _ b in
        let m : n ≡ length piece = omega arith in
        rw (eq-eqb n (length piece) m) (adds-whole (put_as (take_all n piece (omega arith)) p))
    go false b =
        let k : length out - at < length piece = leb-false _ _ b in
        let m : n ≡ length out - at = omega arith in
        let l : n < length piece = omega arith in
        rw (ne_eqb n (length piece) (λ z. omega arith)) (adds_cut n p (omega arith) l)

module _ {piece out m : List ℕ} {at : ℕ} {d : Replayed} (a : Adds piece at out m d) where
  pub adds_as : {other : List ℕ} → piece ≡ other → Adds other at out m d
  adds_as e = rw e at a

  -- nothing goes behind what doesn't fit
  pub adds-more : d.whole ≡ false → (more : List ℕ) → Adds (piece ++ more) at out m d
  adds-more e more =
      record { adds = λ text before p. fits_as (fits_more (a.adds text before p) e more) (append_assoc text piece more) }

  -- a piece behind a piece
  pub adds_then : d.whole ≡ true → {more out' : List ℕ} {r : Replayed} → Adds more d.written m out' r → Adds (piece ++ more) at out out' r
  adds_then e {more} b =
      record {
        adds = λ text before p. fits_as (b.adds (text ++ piece) before (put-fits (a.adds text before p) e)) (append_assoc text piece more);
      }

  -- what is written stays within the buffer
  pub adds-within : at ≤ length out → d.written ≤ length out
  unfolding placed
  adds-within h =
      let n : length (take at out) ≡ at = length-take-le at out h in
      let z : at ≡ 0 + length (take at out) = omega arith in
      let p : Put out out 0 at (take at out) =
      record { fits = omega arith; next = z; cells = sym (take-append-drop at out) ∙ ap (λ (k : ℕ). take at out ++ drop k out) z } in
      omega (arith, (a.adds (take at out) out p).written)

-- A second answer that meets the promise is the first.
pub replay-once : (input : List ℕ) {out m m' : List ℕ} {r r' : Replayed} → Replays input out m r → Replays input out m' r' → (r ≡ r') × (m ≡ m')
replay-once input {out} {m} {m'} {r} {r'} f g =
    let n : r.written ≡ r'.written = f.written ∙ sym g.written in
    let b : r.whole ≡ r'.whole = f.whole ∙ sym g.whole in (
      ap (λ (k : ℕ). record { written = k; whole = r.whole }) n ∙ ap (λ (x : Bool). record { written = r'.written; whole = x }) b,
      f.bytes ∙ ap (λ (k : ℕ). take k (replayed input) ++ drop k out) n ∙ sym g.bytes,
    )
