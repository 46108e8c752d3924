-- `pool_soundness::numbers::is_spread` meets its contract.
use mathlib.Core.Path.{◌≡◌, sym, ◌∙◌}
use mathlib.Core.Bool.{true, false, not}
use mathlib.Core.List.{List}
use Prim.Native.Nat.{ℕ, ◌+◌, ◌-◌}
use native.Mathlib.Omega.{arith}
use borrow.Author.Rules.{rules}
use lib.Dec.{eqb}
use lib.ListN.{length, take, drop, get_or, length-drop}
use lib.Seq.{take_all}
use Rattle.lists.specs.Tests.{every}
use Rattle.pool_soundness.proofs.RemainderMarks.{Marked, unmarked-apart, marked_more, found-again}
use Rattle.pool_soundness.proofs.numbers.is_spread.Goals as goal

-- the numbers after a place, as the code reads them
rest_is : (l : List ℕ) (j : ℕ) → take (length l - j) (drop j l) ≡ drop j l
rest_is l j = take_all (length l - j) (drop j l) (simp length-drop (omega arith))

pub is_apart-requires : goal.is_apart-requires
is_apart-requires c =
    let l : List ℕ = c.args.numbers.now in
    let m = c.loop-i.marks in
    let j = c.loop-i.i - 1 in
    let next : j + 1 ≡ c.loop-i.i = omega arith in
    let marked : Marked m (drop (j + 1) l) = rw next c.loop-i.invariant.1.1 in
    λ z. rw (rest_is l (j + 1)) (unmarked-apart m (get_or l j 0) (drop (j + 1) l) z marked)

pub returns-then-not-is_apart : goal.returns-then-not-is_apart
returns-then-not-is_apart c =
    let l : List ℕ = c.args.numbers.now in
    let j = c.loop-i.i - 1 in
    let e : every (λ y. not (eqb (get_or l j 0) y)) (take (length l - (j + 1)) (drop (j + 1) l)) ≡ false = sym c.is_apart.ensures ∙ c.if-not-is_apart.true in
    sym (found-again l j (omega arith) (rw (rest_is l (j + 1)) at e))

pub loop-i-preserved : goal.loop-i-preserved
loop-i-preserved c =
    let l : List ℕ = c.args.numbers.now in
    let m = c.loop-i.marks in
    let j = c.loop-i.i - 1 in
    let next : j + 1 ≡ c.loop-i.i = omega arith in
    let e : every (λ y. not (eqb (get_or l j 0) y)) (take (length l - (j + 1)) (drop (j + 1) l)) ≡ true = sym c.is_apart.ensures ∙ c.if-not-is_apart.false in
    (search rules, marked_more m l j (omega arith) (omega (arith, c.loop-i.invariant.0)) (rw (rest_is l (j + 1)) at e) (rw next c.loop-i.invariant.1))
