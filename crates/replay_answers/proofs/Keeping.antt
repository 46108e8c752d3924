-- What is kept of the lent answers: one pair more stands behind the others, and behind the last pair that is kept nothing more is.
use mathlib.Core.Path.{◌≡◌, sym, ap, ◌∙◌}
use mathlib.Core.Bool.{true, false}
use mathlib.Core.List.{List, [], ◌∷◌, ◌++◌}
use Prim.Native.Nat.{ℕ, ◌+◌, ◌*◌, ◌≤◌, ◌<◌, min}
use native.Mathlib.Omega.{arith}
use native.Mathlib.Numerals.{add-one}
use borrow.Author.Tests.{le-leb, lt-leb}
use lib.ListN.{length, take, drop, set, length-set, length-append, length-take}
use lib.Seq.{sets-eq, take_all, take_at, take-append-le, length-take-le}
use Rattle.trace.specs.Kinds.{last_driver, OPEN}
use Rattle.trace.specs.declared.Line.{Line}
use Rattle.replay_answers.specs.Lending.{is_driver, value_in, answer_in}
use Rattle.replay_answers.specs.Promises.{KEPT, Keeps, Lends}

module _ {cells : List ℕ} {count : ℕ} {xs : List ℕ} (k : Keeps cells count xs) where
  kept-length : 2 * count ≡ min (2 * KEPT) (length xs)
  kept-length =
      let h = k.few in
      let g = k.room in
      sym (length-take-le (2 * count) cells (omega arith)) ∙ ap length k.front ∙ length-take (2 * KEPT) xs

  -- where fewer are lent, all are kept
  pub kept-all : count < KEPT → take (2 * KEPT) xs ≡ xs
  kept-all h = take_all (2 * KEPT) xs (omega (arith, kept-length))

  pub keeps-more : (c v : ℕ) → count < KEPT → Keeps (set (set cells (2 * count) c) (2 * count + 1) v) (count + 1) (xs ++ (c ∷ v ∷ []))
  keeps-more c v h =
      let g = k.room in
      let n : length (take (2 * count) cells) ≡ 2 * count = length-take-le (2 * count) cells (omega arith) in
      let m : length (take (2 * count) cells ++ (c ∷ v ∷ [])) ≡ 2 * (count + 1) = length-append (take (2 * count) cells) (c ∷ v ∷ []) ∙ omega arith in
      let s : set (set cells (2 * count) c) (2 * count + 1) v ≡ (take (2 * count) cells ++ (c ∷ v ∷ [])) ++ drop (2 * count + length (c ∷ v ∷ [])) cells =
      ap (λ (i : ℕ). set (set cells (2 * count) c) i v) (add-one (2 * count))
      ∙ sets-eq (c ∷ v ∷ []) cells (2 * count) (omega arith) in
      let a : length (xs ++ (c ∷ v ∷ [])) ≤ 2 * KEPT = simp length-append (omega (arith, kept-length)) in
      record {
        room = simp length-set k.room;
        few = omega arith;
        front =
            ap (take (2 * (count + 1))) s
            ∙ take_at (take (2 * count) cells ++ (c ∷ v ∷ [])) (drop (2 * count + length (c ∷ v ∷ [])) cells) (2 * (count + 1)) m
            ∙ ap (λ (l : List ℕ). l ++ (c ∷ v ∷ [])) (k.front ∙ kept-all h)
            ∙ sym (take_all (2 * KEPT) (xs ++ (c ∷ v ∷ [])) a);
      }

  -- a spare answer
  pub keeps-spare : (ys : List ℕ) → count ≡ KEPT → Keeps cells count (xs ++ ys)
  keeps-spare ys h =
      record { room = k.room; few = k.few; front = k.front ∙ sym (take-append-le (2 * KEPT) xs ys (omega (arith, kept-length))) }

-- the words by their kinds: the driver's stand below `open`
pub driver-below : (l : Line) → l.kind < OPEN → is_driver l ≡ true
driver-below l h = le-leb l.kind last_driver (omega arith)

pub no-driver : (l : Line) → OPEN ≤ l.kind → is_driver l ≡ false
no-driver l h = lt-leb l.kind last_driver (omega arith)

module _ (l : Line) {cells : List ℕ} {count : ℕ} where
  pub none_lent : OPEN ≤ l.kind → count ≤ KEPT → Lends l cells count cells count
  none_lent e h = record { keeps = λ xs k. rw (no-driver l e) k; few = h }

  module _ (below : l.kind < OPEN) where
    pub spare-lent : count ≡ KEPT → Lends l cells count cells count
    spare-lent h = record { keeps = λ xs k. rw (driver-below l below) (keeps-spare k (answer_in l) h); few = omega arith }

    pub more-lent : count < KEPT → Lends l cells count (set (set cells (2 * count) l.third) (2 * count + 1) (value_in l)) (count + 1)
    more-lent h = record { keeps = λ xs k. rw (driver-below l below) (keeps-more k l.third (value_in l) h); few = omega arith }
