-- Laws of `written`: it joins what two calls wrote, and it is what one record through the rest of the log leaves.
use mathlib.Core.Path.{◌≡◌, refl, ap, sym, ◌∙◌}
use mathlib.Core.Logic.{⊎_elim}
use mathlib.Core.List.{List, [], ◌∷◌, ◌++◌, append_assoc, append-nil}
use Prim.Native.Nat.{ℕ, ◌+◌, ◌-◌, ◌*◌, ◌≤◌, ◌<◌}
use native.Mathlib.Omega.{arith}
use lib.ListN.{length, take, drop, length-append, length-take, length-drop, drop_of_length-le, take-append-drop}
use lib.Seq.{drop_at, take_at, drop-drop, length-take-le, take_all}
use Rattle.lists.proofs.Tests.{cases_lt}
use Rattle.words.specs.Log.{cells, written}
use Rattle.words.specs.declared.Record.{Record}

pub length-cells : (rs : List Record) → length (cells rs) ≡ 4 * length rs
length-cells [] = refl
length-cells (r ∷ rs) = omega (arith, length-cells rs)

pub cells-append : (rs ss : List Record) → cells (rs ++ ss) ≡ cells rs ++ cells ss
cells-append [] ss = refl
cells-append (r ∷ rs) ss = ap (λ (l : List ℕ). r.kind ∷ r.first ∷ r.second ∷ r.code ∷ l) (cells-append rs ss)

pub written_none : (l : List ℕ) (k : ℕ) → written l k [] ≡ l
unfolding written
written_none l k =
    let e : 4 * (k + 0) ≡ 4 * k = omega arith in
    rw e (take-append-drop (4 * k) l)

pub length-written : (l : List ℕ) (k : ℕ) (rs : List Record) → 4 * (k + length rs) ≤ length l → length (written l k rs) ≡ length l
unfolding written
length-written l k rs h = simp (length-append, length-cells, length-drop) (omega (arith, length-take-le (4 * k) l (omega arith)))

-- two writes are one, also where the log is too short for them
pub written-append : (l : List ℕ) (k : ℕ) (rs ss : List Record) (m : ℕ) → m ≡ k + length rs → written (written l k rs) m ss ≡ written l k (rs ++ ss)
unfolding written
written-append l k rs ss m e = ⊎_elim past inside (cases_lt (length l) (4 * k))
  where
    front : List ℕ
    front = take (4 * k) l ++ cells rs

    whole : take (4 * k) l ++ (cells rs ++ drop (4 * (k + length rs)) l) ≡ front ++ drop (4 * m) l
    whole = rw (append_assoc, e)

    count : 4 * (m + length ss) ≡ 4 * (k + length (rs ++ ss))
    count = simp length-append (omega arith)

    more : 4 * m + 4 * length ss ≡ 4 * (m + length ss)
    more = omega arith

    inside : 4 * k ≤ length l → written (written l k rs) m ss ≡ written l k (rs ++ ss)
    inside h =
        let size : length front ≡ 4 * m = simp (length-append, length-cells) (omega (arith, length-take-le (4 * k) l h)) in
        let before : take (4 * m) (front ++ drop (4 * m) l) ≡ front = take_at front (drop (4 * m) l) (4 * m) size in
        let behind : drop (4 * (m + length ss)) (front ++ drop (4 * m) l) ≡ drop (4 * (k + length (rs ++ ss))) l =
        ap (λ n. drop n (front ++ drop (4 * m) l)) (sym more)
        ∙ sym (drop-drop (4 * length ss) (4 * m) (front ++ drop (4 * m) l))
        ∙ ap (drop (4 * length ss)) (drop_at front (drop (4 * m) l) (4 * m) size)
        ∙ drop-drop (4 * length ss) (4 * m) l
        ∙ ap (λ n. drop n l) (more ∙ count) in
        rw (whole, before, behind) (simp (cells-append, append_assoc))

    past : length l < 4 * k → written (written l k rs) m ss ≡ written l k (rs ++ ss)
    past h =
        let none : drop (4 * m) l ≡ [] = drop_of_length-le l {i = 4 * m} (omega arith) in
        let long : length front ≤ 4 * m = simp (length-append, length-cells) (omega (arith, length-take (4 * k) l)) in
        let before : take (4 * m) front ≡ front = take_all (4 * m) front long in
        let behind : drop (4 * (m + length ss)) front ≡ [] = drop_of_length-le front {i = 4 * (m + length ss)} (omega arith) in
        let rest : drop (4 * (k + length (rs ++ ss))) l ≡ [] = drop_of_length-le l {i = 4 * (k + length (rs ++ ss))} (omega arith) in
        rw (whole, none, append-nil front, before, behind, rest) (simp (cells-append, append_assoc, append-nil))

-- one record through the rest of the log behind `k` records: what the rest then holds, and what the log holds
pub written_one : (l : List ℕ) (k : ℕ) (r : Record) (ys : List ℕ) → 4 * (k + 1) ≤ length l
    → ys ≡ r.kind ∷ r.first ∷ r.second ∷ r.code ∷ drop 4 (take (length l - 4 * k) (drop (4 * k) l))
    → take (4 * k) l ++ (ys ++ drop (length l - 4 * k) (drop (4 * k) l)) ≡ written l k (r ∷ [])
unfolding written
written_one l k r ys h e =
    let whole : take (length l - 4 * k) (drop (4 * k) l) ≡ drop (4 * k) l = take_all (length l - 4 * k) (drop (4 * k) l) (simp length-drop (omega arith)) in
    let none : drop (length l - 4 * k) (drop (4 * k) l) ≡ [] = drop_of_length-le (drop (4 * k) l) {i = length l - 4 * k} (simp length-drop (omega arith)) in
    let next : 4 * k + 4 ≡ 4 * (k + 1) = omega arith in
    let rest : drop 4 (drop (4 * k) l) ≡ drop (4 * (k + 1)) l = drop-drop 4 (4 * k) l ∙ ap (λ n. drop n l) next in
    rw (none, append-nil ys, e, whole, rest)
